-- The places where each grid may have changed since it was copied to the virtual screen.
use Rattle.std.specs.Prelude.{ℕ, ◌≡◌, ◌≢◌, ◌+◌, ◌-◌, ◌<◌, ◌≤◌, ◌⊎◌, ◌++◌, List, [], drop, length, map, slice_index_or}
use Rattle.std.specs.Prelude.{slice_set, take, Bool, true, false, Result, IfErr, OnOk}
use Rattle.grids.specs.declared.areas.Area.{Area}
use Rattle.cur_drawing.specs.declared.puts.Put.{Put}
use Rattle.cur_drawing.specs.declared.refusals.Refusal.{Refusal}
use Rattle.cur_drawing.specs.declared.refusals.Refusal.TheVariants.{NoScroll}
use Rattle.cur_drawing.specs.declared.windows.Window.{Window}
use Rattle.cur_drawing.specs.Grids.{Grid, cell_at, is_in, line_at}
use Rattle.cur_drawing.specs.Windows.{is_pair, is_printed}
use Rattle.cur_screens.specs.Marks.{IsUnmarked, JoinsMarks, Marking, none_marked}
use Rattle.cur_screens.specs.declared.slots.Origin.{Origin}
use Rattle.cur_screens.specs.declared.slots.Slot.{Slot}

-- the marks of each grid, by its number
abbrev pub Markings : Type 0
Markings = List Marking

-- the marks of a grid; one without marks is fully marked
abbrev pub grid_marks : Markings → ℕ → Marking
grid_marks t k = slice_index_or t k (record { all = true; lines = [] })

-- a screen shows the cells of a grid, at the grid's place on it, except where the marks are
abbrev pub IsShownBut : Marking → Origin → Grid → Grid → Type 0
IsShownBut m o g v =
    (i j : ℕ) → i < length g → j < length (line_at g i) → IsUnmarked m (o.top + i) (o.left + j)
    → cell_at v (o.top + i) (o.left + j) ≡ cell_at g i j

-- all places of all grids are marked
abbrev pub AreFull : Markings → Type 0
AreFull t = (k : ℕ) → (grid_marks t k).all ≡ true

-- all places of all grids become marked
pub record FillsAll (t u : Markings) : Type 0 where
  pub size : length u ≡ length t
  pub full : AreFull u
  pub lines : (k : ℕ) → (grid_marks u k).lines ≡ (grid_marks t k).lines

-- the grids from a number on are fully marked, and those before it keep their marks
abbrev pub full_from : ℕ → Markings → Markings
full_from n t = take n t ++ map (λ (m : Marking). record m { all = true }) (drop n t)

-- a fully marked grid on a screen of `rows` lines
abbrev pub all_marked : ℕ → Marking
all_marked rows = record (none_marked rows) { all = true }

-- ---- writing

-- the next new line may make the region scroll
abbrev pub MayScroll : Window → Type 0
MayScroll w = (w.scrolls ≡ true) × (w.row ≡ w.region_bottom)

-- the rectangle of a window is within the lines and columns that can be numbered, with its grid at its place on the
-- screen
pub record LiesWithin (o : Origin) (a : Area) : Type 0 where
  pub rows : o.top + a.top + a.rows ≤ 1000
  pub cols : o.left + a.left + a.cols ≤ 1000

-- `n` lines of a window from `first` on, as places of the screen
abbrev pub lines_shown : Origin → Window → ℕ → ℕ → Area
lines_shown o w first n =
    record { top = o.top + w.area.top + first; left = o.left + w.area.left; rows = n; cols = w.area.cols }

-- a line of the screen from the window's line `first` to the cursor's
pub record IsGoneThrough (o : Origin) (w : Window) (first i : ℕ) : Type 0 where
  pub after : o.top + w.area.top + first ≤ i
  pub before : i ≤ o.top + w.area.top + w.row

-- the window's lines from `first` to the cursor's become marked, and no others
pub record MarksLines (m n : Marking) (o : Origin) (w : Window) (first : ℕ) : Type 0 where
  pub kept : (i j : ℕ) → IsUnmarked n i j → IsUnmarked m i j
  pub lines : (i j : ℕ) → IsUnmarked n i j → is_in (lines_shown o w first (w.row + 1 - first)) i j ≡ false
  pub only : (i j : ℕ) → IsUnmarked m i j → (IsGoneThrough o w first i → ⊥) → IsUnmarked n i j

-- a line of the screen in which a window may have written: one from the line `first` to the cursor's, or any if its
-- region may have scrolled
abbrev pub IsWrittenLine : Window → Origin → ℕ → ℕ → Type 0
IsWrittenLine w o first i = MayScroll w ⊎ IsGoneThrough o w first i

-- these lines become marked, or all if the region may have scrolled
pub record TouchesGrid (m n : Marking) (w : Window) (o : Origin) (first : ℕ) : Type 0 where
  pub kept : (i j : ℕ) → IsUnmarked n i j → IsUnmarked m i j
  pub lines : (i j : ℕ) → IsUnmarked n i j → is_in (lines_shown o w first (w.row + 1 - first)) i j ≡ false
  pub all : MayScroll w → (i j : ℕ) → IsUnmarked n i j → ⊥
  pub only : (i j : ℕ) → IsUnmarked m i j → (IsWrittenLine w o first i → ⊥) → IsUnmarked n i j

-- one grid's marks change in some way, unless it is a pad's (`lies`), and no other grid changes its marks
pub record OnGrid (p : Marking → Marking → Type 0) (t u : Markings) (root : ℕ) (lies : Bool) : Type 0 where
  pub grid : lies ≡ false → root < length t → p (grid_marks t root) (grid_marks u root)
  pub pad : lies ≡ true → u ≡ t
  pub none : length t ≤ root → u ≡ t
  pub others : (k : ℕ) → k ≢ root → grid_marks u k ≡ grid_marks t k

-- these lines of the window's grid become marked
abbrev pub IsTouched : Markings → Markings → Slot → Origin → ℕ → Type 0
IsTouched t u s o first = OnGrid (λ m n. TouchesGrid m n s.window o first) t u s.root o.pad

-- a character becomes one cell of the cursor's line, and not in its last column
pub record IsOneCell (w : Window) (p : Put) : Type 0 where
  pub printed : is_printed p.byte ≡ true
  pub pair : is_pair p.pair ≡ true
  pub before : w.col + 1 < w.area.cols

-- each byte is a character from 32 to 126
abbrev pub ArePrinted : List ℕ → Type 0
ArePrinted text = (k : ℕ) → k < length text → is_printed (slice_index_or text k 0) ≡ true

-- a string becomes cells of the cursor's line, none of them in its last column
pub record FitsLine (w : Window) (text : List ℕ) : Type 0 where
  pub printed : ArePrinted text
  pub before : w.col + length text < w.area.cols

-- a place that is neither marked nor in a rectangle
pub record IsUnmarkedOutside (m : Marking) (a : Area) (i j : ℕ) : Type 0 where
  pub unmarked : IsUnmarked m i j
  pub outside : is_in a i j ≡ false

-- The new marks of a line reach only from the first to the last of its places that were marked or are in the
-- rectangle: a place before these, or after them, is unmarked.
abbrev pub MarksNoMore : Marking → Marking → Area → Type 0
MarksNoMore m n a =
    (i j : ℕ) → ((k : ℕ) → k ≤ j → IsUnmarkedOutside m a i k) ⊎ ((k : ℕ) → j ≤ k → IsUnmarkedOutside m a i k)
    → IsUnmarked n i j

-- cells of the cursor's line, as places of the screen
abbrev pub cells_shown : Origin → Window → ℕ → ℕ → Area
cells_shown o w col n =
    record { top = o.top + w.area.top + w.row; left = o.left + w.area.left + col; rows = 1; cols = n }

-- (Serves the code alone.) cells of the cursor's line become marked, and no more
pub record MarksCells (m n : Marking) (o : Origin) (w : Window) (col count : ℕ) : Type 0 where
  pub kept : (i j : ℕ) → IsUnmarked n i j → IsUnmarked m i j
  pub cells : (i j : ℕ) → IsUnmarked n i j → is_in (cells_shown o w col count) i j ≡ false
  pub only : (i j : ℕ) → IsUnmarked m i j → i ≢ o.top + w.area.top + w.row → IsUnmarked n i j
  pub alone : MarksNoMore m n (cells_shown o w col count)

-- (Serves the code alone.) these cells of the window's grid become marked
abbrev pub AreTouched : Markings → Markings → Slot → Origin → ℕ → ℕ → Type 0
AreTouched t u s o col count = OnGrid (λ m n. MarksCells m n o s.window col count) t u s.root o.pad

-- a call was refused, but not with NoScroll, which may come after it has written; the marks are as before
pub record LeavesMarks (t u : Markings) (r : Result (Unit {0}) Refusal) : Type 0 where
  pub refused : OnOk r ⊥
  pub other : IfErr r (λ e. e ≢ NoScroll)
  pub same : u ≡ t

-- a rectangle of the screen becomes marked, and no more
pub record MarksArea (m n : Marking) (a : Area) : Type 0 where
  pub kept : (i j : ℕ) → IsUnmarked n i j → IsUnmarked m i j
  pub cells : (i j : ℕ) → IsUnmarked n i j → is_in a i j ≡ false
  pub only : MarksNoMore m n a

-- a rectangle of the screen becomes marked for a grid that has marks, and no other grid changes its marks
pub record MarksGrid (t u : Markings) (root : ℕ) (a : Area) : Type 0 where
  pub grid : root < length t → MarksArea (grid_marks t root) (grid_marks u root) a
  pub none : length t ≤ root → u ≡ t
  pub others : (k : ℕ) → k ≢ root → grid_marks u k ≡ grid_marks t k

-- the screen's marks are added to those of all grids but one
pub record Spreads (t u : Markings) (but : ℕ) (o : Marking) (rows cols : ℕ) : Type 0 where
  pub same : grid_marks u but ≡ grid_marks t but
  pub size : length u ≡ length t
  pub others : (k : ℕ) → k ≢ but → JoinsMarks (grid_marks t k) o rows cols (grid_marks u k)

-- a grid loses its marks if a window is all of it
pub record TakesMarksOff (t u : Markings) (root : ℕ) (whole : Bool) : Type 0 where
  pub there : whole ≡ true → root < length t → u ≡ slice_set t root (none_marked (length (grid_marks t root).lines))
  pub part : whole ≡ false → u ≡ t
  pub past : length t ≤ root → u ≡ t
