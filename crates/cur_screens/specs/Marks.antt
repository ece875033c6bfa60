-- Marks at the places in which a grid may differ from another one: in each line, a run of columns from one on and
-- before another.
use Rattle.std.specs.Prelude.{ℕ, ◌+◌, ◌<◌, ◌≤◌, ◌≡◌, ◌≢◌, ◌⊎◌, Bool, false, List, length, replicate, slice_index_or}
use Rattle.std.specs.Prelude.{slice_set, nat_lt, min, max, if◌then◌else◌}
use Rattle.grids.specs.declared.areas.Area.{Area}
use Rattle.grids.specs.declared.areas.Place.{Place}
use Rattle.cur_drawing.specs.Grids.{Grid, cell_at}
use Rattle.cur_screens.specs.declared.marks.Marked.{Marked}
use Rattle.cur_drawing.specs.declared.spans.Span.{Span}

pub record Marking : Type 0 where
  -- all places are marked
  pub all : Bool
  -- the marked columns of the lines, if not all places are; a line that isn't among these is marked as a whole
  pub lines : List Marked

abbrev pub nothing : Marked
nothing = record { from = 0; end = 0 }

abbrev pub marked_at : Marking → ℕ → Marked
marked_at m i = slice_index_or m.lines i nothing

-- no mark in any of `rows` lines
abbrev pub none_marked : ℕ → Marking
none_marked rows = record { all = false; lines = replicate rows nothing }

-- the marked columns, those from `from` on and before `end`, and all between them
abbrev pub widened : ℕ → ℕ → Marked → Marked
widened from end m =
    if nat_lt m.from m.end
    then record { from = min m.from from; end = max m.end end }
    else record { from = from; end = end }

-- further columns of the line i are marked
abbrev pub marked_between : ℕ → ℕ → ℕ → Marking → Marking
marked_between i from end m = record m { lines = slice_set m.lines i (widened from end (marked_at m i)) }

-- only lines from one on and before another have marks, and all lines can be numbered
pub record AreMarkedWithin (rows : Marked) (lines : List Marked) : Type 0 where
  pub few : length lines < 65536
  pub order : rows.from ≤ rows.end
  pub within : rows.end ≤ length lines
  pub others : (i : ℕ) → (i < rows.from) ⊎ (rows.end ≤ i) → slice_index_or lines i nothing ≡ nothing

pub record IsUnmarked (m : Marking) (i j : ℕ) : Type 0 where
  pub some : m.all ≡ false
  pub line : i < length m.lines
  pub column : (j < (marked_at m i).from) ⊎ ((marked_at m i).end ≤ j)

-- the line i of two grids has equal cells in each place that isn't marked
abbrev pub IsSameIn : Marking → ℕ → Grid → Grid → Type 0
IsSameIn m i v w = (j : ℕ) → IsUnmarked m i j → cell_at v i j ≡ cell_at w i j

-- two grids have equal cells in each place that isn't marked
abbrev pub AreSame : Marking → Grid → Grid → Type 0
AreSame m v w = (i : ℕ) → IsSameIn m i v w

-- a rectangle has the cells of another grid from a place on, in each place that isn't marked
abbrev pub IsCopiedBut : Marking → Area → Place → Grid → Grid → Type 0
IsCopiedBut m a from source g =
    (i j : ℕ) → i < a.rows → j < a.cols → IsUnmarked m (a.top + i) (a.left + j)
    → cell_at g (a.top + i) (a.left + j) ≡ cell_at source (from.row + i) (from.col + j)

-- A grid equal to `g` outside the marks `m` is equal to `h` outside the marks `n`. So marked places stay marked, and
-- each place in which `g` and `h` differ is marked.
abbrev pub Keeps : Marking → Grid → Marking → Grid → Type 0
Keeps m g n h = (v : Grid) → AreSame m v g → AreSame n v h

-- a place that isn't marked, and in which two grids have equal cells
pub record IsUntouched (m : Marking) (g h : Grid) (i j : ℕ) : Type 0 where
  pub unmarked : IsUnmarked m i j
  pub same : cell_at g i j ≡ cell_at h i j

-- The new marks of a line reach only from the first to the last of its places that were marked or in which the grids
-- differ: a place before these, or after them, is unmarked.
abbrev pub MarksOnly : Marking → Grid → Marking → Grid → Type 0
MarksOnly m g n h =
    (i j : ℕ) → ((k : ℕ) → k ≤ j → IsUntouched m g h i k) ⊎ ((k : ℕ) → j ≤ k → IsUntouched m g h i k)
    → IsUnmarked n i j

-- ---- the marks of another marking are added

-- a place without mark in either of two markings, the second of which has `cols` columns
pub record AreUnmarked (m o : Marking) (cols i j : ℕ) : Type 0 where
  pub one : IsUnmarked m i j
  pub other : j < cols → IsUnmarked o i j

-- no place up to this one is marked, or no place from it on
abbrev pub AreUnmarkedBeside : Marking → Marking → ℕ → ℕ → ℕ → Type 0
AreUnmarkedBeside m o cols i j =
    ((k : ℕ) → k ≤ j → AreUnmarked m o cols i k) ⊎ ((k : ℕ) → j ≤ k → AreUnmarked m o cols i k)

-- the marks of the line `row` are added
pub record JoinsLine (m o : Marking) (row cols : ℕ) (n : Marking) : Type 0 where
  pub kept : (i j : ℕ) → IsUnmarked n i j → IsUnmarked m i j
  pub joined : (j : ℕ) → j < cols → IsUnmarked n row j → IsUnmarked o row j
  pub others : (i j : ℕ) → i ≢ row → IsUnmarked m i j → IsUnmarked n i j
  pub only : (j : ℕ) → AreUnmarkedBeside m o cols row j → IsUnmarked n row j

-- the marks of the first k of some lines are added
pub record JoinsLines (m o : Marking) (lines : Span) (k cols : ℕ) (n : Marking) : Type 0 where
  pub kept : (i j : ℕ) → IsUnmarked n i j → IsUnmarked m i j
  pub joined : (i j : ℕ) → lines.at ≤ i → i < lines.at + k → j < cols → IsUnmarked n i j → IsUnmarked o i j
  pub others : (i j : ℕ) → (i < lines.at) ⊎ (lines.at + k ≤ i) → IsUnmarked m i j → IsUnmarked n i j
  pub only : (i j : ℕ) → AreUnmarkedBeside m o cols i j → IsUnmarked n i j

-- the marks of all lines and columns of a screen are added: marked places stay marked, and the new marks of a line
-- reach only from the first to the last of the places marked in either
pub record JoinsMarks (m o : Marking) (rows cols : ℕ) (n : Marking) : Type 0 where
  pub kept : (i j : ℕ) → IsUnmarked n i j → IsUnmarked m i j
  pub joined : (i j : ℕ) → i < rows → j < cols → IsUnmarked n i j → IsUnmarked o i j
  pub only : (i j : ℕ) → AreUnmarkedBeside m o cols i j → IsUnmarked n i j
