-- (Serves the code alone.) From the screen that was shown last to the one to be shown.
use Rattle.std.specs.Prelude.{ℕ, ◌≡◌, ◌<◌, ◌≤◌, Bool, true, Option, List, slice_index_or}
use Rattle.cur_drawing.specs.Cells.{pair_count}
use Rattle.cur_screens.specs.VirtualScreen.{Screen, colors_at}
use Rattle.ti_conforms.specs.Certified.{Table}
use Rattle.cur_steps.specs.declared.inks.Ink.{Ink}
use Rattle.cur_paint.specs.Differ.{AreSameOutside}
use Rattle.cur_paint.specs.declared.changes.Columns.{Columns}
use Rattle.cur_paint.specs.declared.changes.LineRange.{LineRange}
use Rattle.cur_update.specs.Inks.{ink_at}
use Rattle.cur_update.specs.declared.changes.Shift.{Shift}

pub record IsShift (t : Table) (partners : ℕ → Option ℕ) (v w : Screen) (same_pairs : Bool)
    (old new : ℕ → ℕ → Ink) : Type 0 where
  pub before : old ≡ ink_at t partners v
  pub after : new ≡ ink_at t partners w
  pub pairs : same_pairs ≡ true → (p : ℕ) → p < pair_count → colors_at v p ≡ colors_at w p

-- the inks of the screen that was shown last, and of the one to be shown
abbrev pub Shifts : {C : Type 0} → (C → Table) → (C → ℕ → Option ℕ) → Shift C → (ℕ → ℕ → Ink) → (ℕ → ℕ → Ink)
    → Type 0
Shifts table partners s old new =
    IsShift (table s.checked.now) (partners s.checked.now) s.shown.now s.screen.now s.same_pairs old new

-- a line is the same on both screens before one column, and from another one on
pub record AreAlikeOutside (old new : ℕ → ℕ → Ink) (i k from end cols : ℕ) : Type 0 where
  pub before : (j : ℕ) → j < from → old i j ≡ new k j
  pub after : (j : ℕ) → end ≤ j → j < cols → old i j ≡ new k j

abbrev pub no_columns : Columns
no_columns = record { from = 0; end = 0 }

-- the columns found for a line
abbrev pub found_at : List Columns → ℕ → Columns
found_at columns i = slice_index_or columns i no_columns

-- the columns of these lines were found: outside of them a line is unchanged
abbrev pub AreFoundIn : List Columns → ℕ → ℕ → ℕ → (ℕ → ℕ → Ink) → (ℕ → ℕ → Ink) → Type 0
AreFoundIn columns from end cols old new =
    (i : ℕ) → from ≤ i → i < end → AreAlikeOutside old new i i (found_at columns i).from (found_at columns i).end cols

-- the lines among the first n that may differ were found, and their columns
pub record AreFound (lines : LineRange) (columns : List Columns) (n cols : ℕ) (old new : ℕ → ℕ → Ink) : Type 0 where
  pub found : AreFoundIn columns lines.from lines.end cols old new
  pub others : AreSameOutside old new lines.from lines.end n cols
