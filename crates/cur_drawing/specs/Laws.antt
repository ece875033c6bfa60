-- Laws of the calls on one window, whatever each of them does.
use Rattle.std.specs.Prelude.{◌≡◌, ◌≢◌, ℕ, ◌+◌, ◌-◌, ◌<◌, ◌==◌, ◌&&◌, nat_le, nat_lt, Bool, false, Ok, Err}
use Rattle.std.specs.Prelude.{if◌then◌else◌}
use Rattle.cur_drawing.specs.declared.refusals.Refusal.{Refusal}
use Rattle.cur_drawing.specs.declared.refusals.Refusal.TheVariants.{NoScroll}
use Rattle.cur_drawing.specs.declared.windows.Window.{Window}
use Rattle.cur_drawing.specs.Cells.{Content}
use Rattle.cur_drawing.specs.Grids.{Grid, is_in, cell_at}
use Rattle.cur_drawing.specs.Calls.{Canvas, CanvasStep, IsCanvas, canvas}

-- a call changes no cell outside its window's rectangle, and the window stays at its place
pub record Stays (s t : Canvas) : Type 0 where
  pub canvas : IsCanvas t.grid t.window
  pub area : t.window.area ≡ s.window.area
  pub outside : (i j : ℕ) → is_in s.window.area i j ≡ false → cell_at t.grid i j ≡ cell_at s.grid i j

abbrev pub IsLocal : (Canvas → CanvasStep) → Type 0
IsLocal act = (s : Canvas) → IsCanvas s.grid s.window → Stays s (act s).0

-- a call that is refused changes nothing
abbrev pub ChangesNothingIfRefused : (Canvas → CanvasStep) → Type 0
ChangesNothingIfRefused act = (s : Canvas) (e : Refusal) → (act s).1 ≡ Err e → (act s).0 ≡ s

abbrev pub ChangesNothingIfRefusedButNoScroll : (Canvas → CanvasStep) → Type 0
ChangesNothingIfRefusedButNoScroll act = (s : Canvas) (e : Refusal) → e ≢ NoScroll → (act s).1 ≡ Err e → (act s).0 ≡ s

-- the cell at a place of a window
abbrev pub cell_of : Window → Grid → ℕ → ℕ → Content
cell_of w g y x = cell_at g (w.area.top + y) (w.area.left + x)

abbrev pub in_region : Window → ℕ → Bool
in_region w y = nat_le w.region_top y && nat_le y w.region_bottom

-- the cell at a place after the region moved up by n lines: the cell n lines below, or the background
abbrev pub went_up : Window → ℕ → Grid → ℕ → ℕ → Content
went_up w n g y x =
    if in_region w y then (if nat_le (y + n) w.region_bottom then cell_of w g (y + n) x else w.background)
    else cell_of w g y x

-- the cell at a place after the region moved down by n lines
abbrev pub went_down : Window → ℕ → Grid → ℕ → ℕ → Content
went_down w n g y x =
    if in_region w y then (if nat_le (w.region_top + n) y then cell_of w g (y - n) x else w.background)
    else cell_of w g y x

-- the cell at a place after insch at the cursor: the rest of the cursor's line is one place to the right
abbrev pub cell_inserted : Window → Content → Grid → ℕ → ℕ → Content
cell_inserted w c g y x =
    if y == w.row then (if nat_lt x w.col then cell_of w g y x else if x == w.col then c else cell_of w g y (x - 1))
    else cell_of w g y x

-- the cell at a place after delch: the rest of the cursor's line is one place to the left, and the background fills
-- its last place
abbrev pub cell_deleted : Window → Grid → ℕ → ℕ → Content
cell_deleted w g y x =
    if y == w.row
    then (if nat_lt x w.col then cell_of w g y x
    else if nat_lt (x + 1) w.area.cols then cell_of w g y (x + 1) else w.background)
    else cell_of w g y x

-- the cell at a place after insertln: the cursor's line is background, and the lines from there on are one line lower
abbrev pub line_inserted : Window → Grid → ℕ → ℕ → Content
line_inserted w g y x =
    if nat_lt y w.row then cell_of w g y x else if y == w.row then w.background else cell_of w g (y - 1) x

-- the cell at a place after deleteln: the lines below the cursor's are one line higher, and the last line is background
abbrev pub line_deleted : Window → Grid → ℕ → ℕ → Content
line_deleted w g y x =
    if nat_lt y w.row then cell_of w g y x
    else if nat_lt (y + 1) w.area.rows then cell_of w g (y + 1) x else w.background

-- after a call that isn't refused, each place of the window has this cell
abbrev pub LeavesCells : (Canvas → CanvasStep) → (Window → Grid → ℕ → ℕ → Content) → Type 0
LeavesCells act cell_then =
    (g : Grid) (w : Window) (y x : ℕ) → IsCanvas g w → y < w.area.rows → x < w.area.cols
    → (act (canvas g w)).1 ≡ Ok tt
    → cell_of w (act (canvas g w)).0.grid y x ≡ cell_then w g y x
