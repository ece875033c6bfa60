-- The results of copies, place by place (X/Open Curses Issue 7, noutrefresh, overlay, overwrite, copywin, dupwin).
use Rattle.std.specs.Prelude.{◌≡◌, ◌≢◌, ℕ, ◌+◌, ◌-◌, ◌<◌, ◌&&◌, length, Bool, if◌then◌else◌}
use Rattle.cur_drawing.specs.Cells.{copied_cell}
use Rattle.cur_drawing.specs.Grids.{is_in, line_at, cell_at}
use Rattle.cur_screens.specs.declared.slots.Slot.{Slot}
use Rattle.cur_windows.specs.Desks.{State, cell}
use Rattle.cur_windows.specs.Creations.{corner}
use Rattle.cur_screens.specs.VirtualScreen.{Screen}
use Rattle.cur_windows.specs.Refreshes.{area_on_screen}
use Rattle.cur_windows.specs.Laws.{is_between}

-- the window's places on the screen have its cells, and all others keep their cells
abbrev pub IsWindowShown : State → Slot → Screen → Screen → Type 0
IsWindowShown d s old new = (i j : ℕ) → j < length (line_at old.grid i) →
    cell_at new.grid i j ≡ (if is_in (area_on_screen d s) i j then cell d s (i - (corner d s).0) (j - (corner d s).1)
    else cell_at old.grid i j)

-- the places of the window's lines t to b on the screen have its cells, and all others keep their cells
abbrev pub AreLinesShown : State → Slot → ℕ → ℕ → Screen → Screen → Type 0
AreLinesShown d s t b old new = (i j : ℕ) → j < length (line_at old.grid i) →
    cell_at new.grid i j ≡
    (if is_in (area_on_screen d s) i j && is_between ((corner d s).0 + t) ((corner d s).0 + b) i
    then cell d s (i - (corner d s).0) (j - (corner d s).1)
    else cell_at old.grid i j)

-- the target's rows dr to er and columns dc to ec have the source's cells from row sr and column sc on, and all its
-- other places keep their cells; a place also keeps its cell if a space is skipped there
abbrev pub IsCopied : State → State → Slot → Slot → Bool → ℕ → ℕ → ℕ → ℕ → ℕ → ℕ → Type 0
IsCopied d after s t skip sr sc dr dc er ec = (y x : ℕ) → y < t.window.area.rows → x < t.window.area.cols →
    cell after t y x ≡
    (if is_between dr er y && is_between dc ec x
    then copied_cell skip (cell d t y x) (cell d s (sr + (y - dr)) (sc + (x - dc)))
    else cell d t y x)

-- the target's places that the source has on the screen have the source's cells, and all its other places keep theirs
abbrev pub IsOverlaid : State → State → Slot → Slot → Bool → Type 0
IsOverlaid d after s t skip = (y x : ℕ) → y < t.window.area.rows → x < t.window.area.cols →
    (let i = (corner d t).0 + y in let j = (corner d t).1 + x in
    cell after t y x ≡
    (if is_in (area_on_screen d s) i j
    then copied_cell skip (cell d t y x) (cell d s (i - (corner d s).0) (j - (corner d s).1))
    else cell d t y x))

-- window t has the size and the cells of window s, on a grid of its own; window s is as before
pub record IsCopyOf (d after : State) (s t : Slot) : Type 0 where
  pub rows : t.window.area.rows ≡ s.window.area.rows
  pub cols : t.window.area.cols ≡ s.window.area.cols
  pub cells : (y x : ℕ) → y < s.window.area.rows → x < s.window.area.cols → cell after t y x ≡ cell d s y x
  pub original : (y x : ℕ) → cell after s y x ≡ cell d s y x
  pub own_grid : s.root ≢ t.root
