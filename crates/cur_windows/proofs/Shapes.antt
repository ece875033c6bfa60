-- Calls on one window leave its grid as large as it was.
use Rattle.std.proofs.Common.{◌≡◌, ℕ, ℤ, pos, negsuc, ◌+◌, ◌-◌, min, Bool, true, false, Result, Ok, Err, refl, ◌∙◌, if◌then◌else◌}
use Rattle.grids.specs.declared.areas.Area.{Area}
use Rattle.grids.specs.declared.areas.Place.{Place}
use Rattle.cur_drawing.specs.declared.puts.Put.{Put}
use Rattle.cur_drawing.specs.declared.puts.Border.{Border}
use Rattle.cur_drawing.specs.declared.refusals.Refusal.{Refusal}
use Rattle.cur_drawing.specs.declared.windows.Window.{Window}
use Rattle.cur_drawing.specs.Cells.{Content, restyled}
use Rattle.cur_drawing.specs.Grids.{Grid, drawn_in, filled, is_in, shape_of, shifted, taken}
use Rattle.cur_drawing.specs.Windows.{as_is, cells_of, column_of, content, count_to, lines_of}
use Rattle.cur_drawing.specs.Calls as calls
use Rattle.cur_drawing.specs.Calls.{Canvas, CanvasStep, checked_border, checked_cell, if_accepted, place, region_height}
use Rattle.cur_drawing.proofs.DrawingFacts.{shape_of-drawn}

abbrev pub KeepsShape : (Canvas → CanvasStep) → Type 0
KeepsShape act = (s : Canvas) → shape_of (act s).0.grid ≡ shape_of s.grid

drawn : (a : Area) (f : ℕ → ℕ → Content → Content) (g : Grid) → shape_of (drawn_in a f g) ≡ shape_of g
drawn a f g = shape_of-drawn (λ i j old. if is_in a i j then f i j old else old) g

fill : (a : Area) (x : Content) (g : Grid) → shape_of (filled a x g) ≡ shape_of g
fill a x g = drawn a (λ i j old. x) g

shift : (a : Area) (from : Place) (g : Grid) → shape_of (shifted a from g) ≡ shape_of g
shift a from g = drawn a (taken a from g) g

-- some cells of a grid are moved, and others are filled
shift_fill : (a b : Area) (from : Place) (x : Content) (g : Grid) → shape_of (filled b x (shifted a from g)) ≡ shape_of g
shift_fill a b from x g = fill b x (shifted a from g) ∙ shift a from g

lines_up : (w : Window) (from height n : ℕ) (g : Grid) → shape_of (calls.lines_up w from height n g) ≡ shape_of g
lines_up w from height n g = shift_fill (lines_of w from (height - min n height)) (lines_of w (from + (height - min n height)) (min n height)) (place (w.area.top + (from + min n height)) w.area.left) w.background g

lines_down : (w : Window) (from height n : ℕ) (g : Grid) → shape_of (calls.lines_down w from height n g) ≡ shape_of g
lines_down w from height n g = shift_fill (lines_of w (from + min n height) (height - min n height)) (lines_of w from (min n height)) (place (w.area.top + from) w.area.left) w.background g

scrolled : (n : ℤ) (w : Window) (g : Grid) → shape_of (calls.scrolled n w g) ≡ shape_of g
scrolled (pos n) w g = lines_up w w.region_top (region_height w) n g
scrolled (negsuc n) w g = lines_down w w.region_top (region_height w) (n + 1) g

-- a choice, and a step that needs a good judgement
either : (s : Canvas) (b : Bool) (x y : CanvasStep) → shape_of x.0.grid ≡ shape_of s.grid → shape_of y.0.grid ≡ shape_of s.grid → shape_of (if b then x else y).0.grid ≡ shape_of s.grid
either s true x y p q = p
either s false x y p q = q

accepted : (s : Canvas) (r : Result (Unit {0}) Refusal) (x : CanvasStep) → shape_of x.0.grid ≡ shape_of s.grid → shape_of (if_accepted r s x).0.grid ≡ shape_of s.grid
accepted s (Ok u) x p = p
accepted s (Err e) x p = refl

pub erased : KeepsShape calls.erased
erased s = fill s.window.area s.window.background s.grid

pub cleared : KeepsShape calls.cleared
cleared s = fill s.window.area s.window.background s.grid

pub insert_char : (p : Put) → KeepsShape (calls.insert_char p)
insert_char p s =
    let w : Window = s.window in
    accepted s (checked_cell p) _ (shift_fill (cells_of w w.row (w.col + 1) (w.area.cols - (w.col + 1))) (cells_of w w.row w.col 1) (place (w.area.top + w.row) (w.area.left + w.col)) (content w p) s.grid)

pub delete_char : KeepsShape calls.delete_char
delete_char s =
    let w : Window = s.window in
    shift_fill (cells_of w w.row w.col (w.area.cols - (w.col + 1))) (cells_of w w.row (w.area.cols - 1) 1) (place (w.area.top + w.row) (w.area.left + (w.col + 1))) w.background s.grid

pub insert_line : KeepsShape calls.insert_line
insert_line s = lines_down s.window s.window.row (s.window.area.rows - s.window.row) 1 s.grid

pub delete_line : KeepsShape calls.delete_line
delete_line s = lines_up s.window s.window.row (s.window.area.rows - s.window.row) 1 s.grid

pub clear_line : KeepsShape calls.clear_line
clear_line s = fill (cells_of s.window s.window.row s.window.col (s.window.area.cols - s.window.col)) s.window.background s.grid

pub clear_bottom : KeepsShape calls.clear_bottom
clear_bottom s = fill (lines_of s.window (s.window.row + 1) (s.window.area.rows - (s.window.row + 1))) s.window.background (calls.line_cleared s.window s.grid) ∙ clear_line s

pub horizontal : (p : Put) (n : ℤ) → KeepsShape (calls.horizontal p n)
horizontal p n s = accepted s (checked_cell p) _ (fill (cells_of s.window s.window.row s.window.col (count_to n (s.window.area.cols - s.window.col))) (content s.window p) s.grid)

pub vertical : (p : Put) (n : ℤ) → KeepsShape (calls.vertical p n)
vertical p n s = accepted s (checked_cell p) _ (fill (column_of s.window s.window.row s.window.col (count_to n (s.window.area.rows - s.window.row))) (content s.window p) s.grid)

pub change_background : (p : Put) → KeepsShape (calls.change_background p)
change_background p s = accepted s (checked_cell p) _ (drawn s.window.area (λ i j old. restyled s.window.background (as_is p) old) s.grid)

pub scroll_by : (n : ℤ) → KeepsShape (calls.scroll_by n)
scroll_by n s = either s s.window.scrolls _ _ (scrolled n s.window s.grid) refl

sides : (b : Border) (w : Window) (g : Grid) → shape_of (calls.sides b w g) ≡ shape_of g
sides b w g =
    let g1 : Grid = filled (lines_of w 0 1) (content w b.top) g in
    let g2 : Grid = filled (lines_of w (w.area.rows - 1) 1) (content w b.bottom) g1 in
    let g3 : Grid = filled (column_of w 0 0 w.area.rows) (content w b.left) g2 in
    fill (column_of w 0 (w.area.cols - 1) w.area.rows) (content w b.right) g3 ∙ fill (column_of w 0 0 w.area.rows) (content w b.left) g2
    ∙ fill (lines_of w (w.area.rows - 1) 1) (content w b.bottom) g1 ∙ fill (lines_of w 0 1) (content w b.top) g

corners : (b : Border) (w : Window) (g : Grid) → shape_of (calls.corners b w g) ≡ shape_of g
corners b w g =
    let g1 : Grid = filled (cells_of w 0 0 1) (content w b.top_left) g in
    let g2 : Grid = filled (cells_of w 0 (w.area.cols - 1) 1) (content w b.top_right) g1 in
    let g3 : Grid = filled (cells_of w (w.area.rows - 1) 0 1) (content w b.bottom_left) g2 in
    fill (cells_of w (w.area.rows - 1) (w.area.cols - 1) 1) (content w b.bottom_right) g3 ∙ fill (cells_of w (w.area.rows - 1) 0 1) (content w b.bottom_left) g2
    ∙ fill (cells_of w 0 (w.area.cols - 1) 1) (content w b.top_right) g1 ∙ fill (cells_of w 0 0 1) (content w b.top_left) g

pub bordered : (b : Border) → KeepsShape (calls.bordered b)
bordered b s = accepted s (checked_border b) _ (corners b s.window (calls.sides b s.window s.grid) ∙ sides b s.window s.grid)
