-- A set of attributes as a number: its seven parameters of `sgr` as binary digits.
use Rattle.std.specs.Prelude.{ℕ, ◌+◌, ◌*◌, Bool, true, false}
use Rattle.ti_rows.specs.Rows.{Attributes}

abbrev pub bit : Bool → ℕ
bit true = 1
bit false = 0

abbrev pub number_of : Attributes → ℕ
number_of a =
    64 * bit a.standout + 32 * bit a.underline + 16 * bit a.reverse + 8 * bit a.blink + 4 * bit a.dim + 2 * bit a.bold
    + bit a.invisible
