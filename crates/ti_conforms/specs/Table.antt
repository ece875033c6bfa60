-- The strings of an entry for a size, as code that drives a terminal uses them.
use Rattle.std.specs.Prelude.{ℕ, ◌-◌, ◌≡◌, Bool, true, false, List, [], ◌++◌, Option, Some, None, is_some}
use Rattle.vt_term.specs.Screen.{State, Screen, Charset, is_graphic}
use Rattle.ti_rows.specs.declared.rows.Looks.{Looks}
use Rattle.ti_rows.specs.declared.rows.Row.{Row}
use Rattle.ti_rows.specs.declared.rows.Row.TheVariants.{Clear, Csr, Smcup, Rmcup, Enacs, Sgr0, Smacs, Rmacs, Cnorm}
use Rattle.ti_rows.specs.Wants.{Wants}
use Rattle.ti_conforms.specs.Lost as lost

-- the length of the longest line of each group of capabilities, 0 if it has none
pub record Longest : Type 0 where
  pub cup : ℕ
  pub sgr : ℕ
  pub setaf : ℕ
  pub setab : ℕ
  pub op : ℕ
  pub sets : ℕ
  pub erasure : ℕ
  pub scroll : ℕ
  pub civis : ℕ
  pub cnorm : ℕ
  pub cvvis : ℕ

abbrev pub no_lengths : Longest
no_lengths =
    record {
      cup = 0;
      sgr = 0;
      setaf = 0;
      setab = 0;
      op = 0;
      sets = 0;
      erasure = 0;
      scroll = 0;
      civis = 0;
      cnorm = 0;
      cvvis = 0;
    }

pub record Table : Type 0 where
  pub rows : ℕ
  pub cols : ℕ
  -- the bytes of the line for a row, if the entry has its string
  pub line_of : Row → Option (List ℕ)
  -- how each attribute looks by itself
  pub looks : Looks
  -- the charsets that strings may leave when they are cut off, and those that whole strings leave after a
  -- resynchronization
  pub reached : Charset → Bool
  pub settled : Charset → Bool
  -- the bytes that bring a terminal from any state to rest, and the longest lines
  pub resync : List ℕ
  pub longest : Longest

abbrev pub has : Table → Row → Bool
has t row = is_some (t.line_of row)

abbrev pub or_nothing : Option (List ℕ) → List ℕ
or_nothing None = []
or_nothing (Some bytes) = bytes

-- the bytes of a row's line, or nothing if it has none
abbrev pub text_of : Table → Row → List ℕ
text_of t row = or_nothing (t.line_of row)

-- the margins become the whole screen
abbrev pub widening : Table → Row
widening t = Csr 0 (t.rows - 1)

-- The lines of `smcup`, `enacs`, `sgr0` and `rmacs`, as far as there are any. With those of `csr` for the whole screen
-- and `clear` they lead a terminal out of an unknown state (terminfo(5), "Initialization" and "Line Graphics").
abbrev pub front_of : (Row → Option (List ℕ)) → List ℕ
front_of line_of =
    (or_nothing (line_of Smcup) ++ or_nothing (line_of Enacs))
    ++ (or_nothing (line_of Sgr0) ++ or_nothing (line_of Rmacs))

unfoldable pub resync_of : ℕ → (Row → Option (List ℕ)) → List ℕ
resync_of rows line_of = front_of line_of ++ (or_nothing (line_of (Csr 0 (rows - 1))) ++ or_nothing (line_of Clear))

abbrev pub resync_front : Table → List ℕ
resync_front t = front_of t.line_of

abbrev pub resync : Table → List ℕ
resync t = resync_of t.rows t.line_of

-- A state after output was cut off: margins are free if `csr` can set them, and visibility is if `cnorm` can.
abbrev pub IsLost : Table → State → Type 0
IsLost t s = lost.IsLost t.rows t.cols (has t (widening t)) (has t Cnorm) t.reached s

-- strings of all rows but those that begin or end a program's screen leave settled charsets settled
abbrev pub settles : Row → Bool
settles Smcup = false
settles Rmcup = false
settles _ = true

-- which set is active after `smacs` and `rmacs`
abbrev pub Activates : Row → Charset → Type 0
Activates Smacs c = is_graphic c ≡ true
Activates Rmacs c = is_graphic c ≡ false
Activates _ c = Unit {0}

-- the end of a row's line: as wanted; settled charsets lead to settled ones, and reached to reached ones
pub record Ended (t : Table) (row : Row) (s u : Screen) : Type 0 where
  pub wants : Wants t.looks row s u
  pub settled : settles row ≡ true → t.settled s.charset ≡ true → t.settled u.charset ≡ true
  pub active : t.settled s.charset ≡ true → Activates row u.charset
  pub reached : t.reached s.charset ≡ true → t.reached u.charset ≡ true
