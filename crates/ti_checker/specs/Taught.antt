-- The looks of attributes that the rows of one string teach, one parameter list after another.
use Rattle.std.specs.Prelude.{ℕ, ◌≡◌, List}
use Rattle.vt_effects.specs.declared.effects.Effect.{Effect}
use Rattle.ti_rows.specs.declared.rows.Looks.{Looks}
use Rattle.ti_rows.specs.declared.rows.Row.{Row}
use Rattle.ti_rows.specs.Asked.{asked}
use Rattle.ti_rows.specs.Lists.{IsFirst, IsInRange, Follows}
use Rattle.ti_rows.specs.Looks.{learned}
use Rattle.ti_lines.specs.declared.row_lines.RowLine.{RowLine}
use Rattle.ti_conforms.specs.Looks.{no_looks}
use Rattle.ti_checker.specs.Limit.{IsLineFor}

-- the effect is the one that is asked for, with these looks from the rows before and with what the row itself shows
abbrev pub IsAskedOf : Looks → Row → Effect → Type 0
IsAskedOf looks row e = e ≡ asked (learned row e looks) row e

-- The looks that the rows of the string before this one teach: `no_looks` before the first row, and then each row,
-- whose effect must be the one that is asked for, adds what it shows. Only in `sgr` does one row teach what another is
-- asked for.
pub data IsTaught (rows cols : ℕ) (string : List ℕ) : Row → Looks → Type 0 where
  AtFirst : (row : Row) (looks : Looks) → IsFirst rows cols row → looks ≡ no_looks
      → IsTaught rows cols string row looks
  After : (line : RowLine) (row : Row) (before looks : Looks) → IsInRange rows cols line.row
      → Follows rows cols line.row row → IsTaught rows cols string line.row before → IsLineFor rows cols string line
      → IsAskedOf before line.row line.effect → looks ≡ learned line.row line.effect before
      → IsTaught rows cols string row looks
