-- The marks of the grids of a desk: the places where each may differ from the virtual screen, and the marks that a
-- call adds.
use Rattle.std.specs.Prelude.{ℕ, ◌≡◌, ◌≢◌, ◌<◌, ◌⊎◌, length, false, None, Result, Ok, Err, IfErr, IfOk}
use Rattle.cur_drawing.specs.declared.puts.Put.{Put}
use Rattle.cur_drawing.specs.declared.refusals.Refusal.{Refusal}
use Rattle.cur_drawing.specs.declared.refusals.Refusal.TheVariants.{NoScroll}
use Rattle.cur_drawing.specs.Grids.{Grid}
use Rattle.cur_screens.specs.Marks.{AreUnmarkedBeside, IsUnmarked, Marking, none_marked}
use Rattle.cur_screens.specs.declared.slots.Slot.{Slot}
use Rattle.cur_windows.specs.Desks.{State, grid_at, origin_at, slot_of}
use Rattle.cur_windows.specs.Refreshes.{area_on_screen}
use Rattle.cur_screens.specs.Touched.{IsOneCell, IsShownBut, IsWrittenLine, Markings, MarksArea, MarksNoMore, OnGrid}
use Rattle.cur_screens.specs.Touched.{cells_shown, grid_marks}

-- a screen shows the cells of each grid, except where the grid is marked; a pad's isn't on the screen
abbrev pub ShowsBut : Markings → State → Grid → Type 0
ShowsBut t d v =
    (k : ℕ) → (origin_at d k).pad ≡ false → IsShownBut (grid_marks t k) (origin_at d k) (grid_at d k) v

-- Each screen that shows desk `d` except at the marks `t` shows desk `e` except at the marks `u`. So marked places
-- stay marked, and each place in which grids differ is marked.
abbrev pub KeepsShown : Markings → State → Markings → State → Type 0
KeepsShown t d u e = (v : Grid) → ShowsBut t d v → ShowsBut u e v

-- the new marks of a window's grid cover only `count` cells, from the cursor on
abbrev pub MarksCellsAlone : Markings → Markings → State → Slot → ℕ → Type 0
MarksCellsAlone t u d s count =
    MarksNoMore (grid_marks t s.root) (grid_marks u s.root)
    (cells_shown (origin_at d s.root) s.window s.window.col count)

-- a window's rectangle of its grid becomes marked
abbrev pub MarksSlot : Markings → Markings → State → Slot → Type 0
MarksSlot t u d s = OnGrid (λ m n. MarksArea m n (area_on_screen d s)) t u s.root (origin_at d s.root).pad

-- the rectangle of the window of a number becomes marked, if there is one
abbrev pub MarksWindow : Markings → Markings → State → Result Slot Refusal → Type 0
MarksWindow t u d (Ok s) = MarksSlot t u d s
MarksWindow t u d (Err e) = u ≡ t

-- ---- no other place is marked

-- a line of the screen in which a call may have written, by a window of the grid k that was `s` before the call and
-- is `t` after it
pub record WritesOn (k : ℕ) (d : State) (s t : Slot) (i : ℕ) : Type 0 where
  pub root : t.root ≡ k
  pub lies : (origin_at d t.root).pad ≡ false
  pub line : IsWrittenLine t.window (origin_at d t.root) s.window.row i

abbrev pub WritesLine : ℕ → State → Result Slot Refusal → Result Slot Refusal → ℕ → Type 0
WritesLine k d (Ok s) (Ok t) i = WritesOn k d s t i
WritesLine k d (Ok s) (Err e) i = ⊥
WritesLine k d (Err e) t i = ⊥

-- an unmarked place of a grid stays unmarked, except in lines that the call may have written in window `id`
pub record MarksWritten (t u : Markings) (d e : State) (id : ℕ) : Type 0 where
  pub only : (k i j : ℕ) → IsUnmarked (grid_marks t k) i j → (WritesLine k d (slot_of d id) (slot_of e id) i → ⊥)
      → IsUnmarked (grid_marks u k) i j

-- addch marks what it changes, and no other lines; a character that becomes one cell of the cursor's line marks that
-- cell alone, and a call that is refused before it writes marks nothing
pub record MarksAdded (p : Put) (id : ℕ) (t : Markings) (d : State) (u : Markings) (e : State)
    (r : Result (Unit {0}) Refusal) : Type 0 where
  pub touched : KeepsShown t d u e
  pub only : MarksWritten t u d e id
  pub cells : IfOk (slot_of d id) (λ s. IsOneCell s.window p → MarksCellsAlone t u d s 1)
  pub refused : IfErr r (λ x. x ≢ NoScroll → u ≡ t)

-- a window as large as the screen
pub record IsScreenful (d : State) (s : Slot) : Type 0 where
  pub rows : s.window.area.rows ≡ d.rows
  pub cols : s.window.area.cols ≡ d.cols

-- a window that has the whole of its grid, or of the screen
abbrev pub HasAll : State → Slot → Type 0
HasAll d s = (s.parent ≡ None) ⊎ IsScreenful d s

-- The marks after a window was copied to a screen with the marks `o`: none for its grid if the window has all of that,
-- else the previous ones; for each other grid also the screen's.
pub record MarksCopied (t u : Markings) (o : Marking) (d : State) (s : Slot) : Type 0 where
  pub whole : s.root < length t → HasAll d s → grid_marks u s.root ≡ none_marked (length (grid_marks t s.root).lines)
  pub part : (HasAll d s → ⊥) → grid_marks u s.root ≡ grid_marks t s.root
  pub others : (k i j : ℕ) → k ≢ s.root → AreUnmarkedBeside (grid_marks t k) o d.cols i j
      → IsUnmarked (grid_marks u k) i j
