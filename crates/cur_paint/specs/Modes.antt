-- The strings of a refresh that show the cursor in the wanted mode, and the bytes around them (X/Open Curses Issue 7,
-- curs_set).
use Rattle.std.specs.Prelude.{ℕ, ◌≤◌, ◌≡◌, List, ◌++◌, length, Option, Some, None}
use Rattle.std.specs.List.{AllByRecursion, concat}
use Rattle.ti_conforms.specs.Certified.{Table}
use Rattle.cur_steps.specs.Pieces.{IsPaint}
use Rattle.cur_steps.specs.Beliefs.{mode_text}
use Rattle.cur_steps.specs.declared.beliefs.Mode.{Mode}
use Rattle.cur_steps.specs.declared.beliefs.Mode.TheVariants.{Normal}
use Rattle.cur_steps.specs.declared.beliefs.Place.{Place}
use Rattle.cur_paint.specs.declared.updates.Status.{Status}
use Rattle.cur_paint.specs.declared.updates.Status.TheVariants.{Fresh, Known, Lost}

-- the known mode of the cursor: the normal one in a fresh session, this mode in a known one, and none in a lost one
abbrev pub shown_mode : Status → Option Mode → Option Mode
shown_mode Fresh m = Some Normal
shown_mode Known m = m
shown_mode Lost m = None

-- the most bytes of the cursor's last move
abbrev pub move_limit : Table → Option Place → ℕ
move_limit t None = 0
move_limit t (Some p) = t.longest.cup

-- characters and the lines of rows that paint, one after another
pub record IsPainted (t : Table) (bytes : List ℕ) : Type 0 where
  pub pieces : List (List ℕ)
  pub made : bytes ≡ concat pieces
  pub each : AllByRecursion (IsPaint t) pieces

-- A text begins with the bytes `first`, paints, sends the `strings` that set the cursor's mode, and then paints again,
-- in at most `limit` bytes.
pub record PaintsAround (t : Table) (limit : ℕ) (first strings bytes : List ℕ) : Type 0 where
  pub front : List ℕ
  pub back : List ℕ
  pub parts : bytes ≡ first ++ (front ++ (strings ++ back))
  pub before : IsPainted t front
  pub after : IsPainted t back
  pub short : length back ≤ limit

-- A refresh sends nothing that wasn't asked for: it begins with these bytes (first), and then it paints. The strings
-- that show the cursor in the wanted mode go out once, none if it is known to be in that mode (now), and only the move
-- to the cursor's place may go out after them.
abbrev pub OnlyPaints : Table → List ℕ → Option Mode → Option Place → Mode → List ℕ → Type 0
OnlyPaints t first now cursor m bytes = PaintsAround t (move_limit t cursor) first (mode_text t now m) bytes
