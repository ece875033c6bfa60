-- The effect of a call on one window and the grid under it (X/Open Curses Issue 7, the reference pages of the calls
-- named). A step is the canvas after it and the answer; after a refusal the changes made before it remain.
use Rattle.std.specs.Prelude.{◌≡◌, ℕ, ◌+◌, ◌-◌, ◌%◌, ◌==◌, ◌≤◌, ◌&&◌, ◌||◌, zero, suc, min, nat_lt, List, [], ◌∷◌, true}
use Rattle.std.specs.Prelude.{Result, Ok, Err, if◌then◌else◌, bit_xor, ℤ, pos, negsuc}
use Rattle.grids.specs.declared.areas.Place.{Place}
use Rattle.cur_drawing.specs.declared.puts.Put.{Put}
use Rattle.cur_drawing.specs.declared.puts.Border.{Border}
use Rattle.cur_drawing.specs.declared.refusals.Refusal.{Refusal}
use Rattle.cur_drawing.specs.declared.refusals.Refusal.TheVariants.{NoScroll}
use Rattle.cur_drawing.specs.declared.windows.Window.{Window}
use Rattle.cur_drawing.specs.Cells.{Content}
use Rattle.cur_drawing.specs.Grids.{Grid, Fits, filled, shifted, recolored, shape_of}
use Rattle.cur_drawing.specs.Windows.{IsWindow, WindowStep, lines_of, cells_of, column_of, content, checked, is_printed}
use Rattle.cur_drawing.specs.Windows.{is_pair, count_to, as_is, IsPut}

-- a window and the grid under it
pub record Canvas : Type 0 where
  pub grid : Grid
  pub window : Window

abbrev pub canvas : Grid → Window → Canvas
canvas g w = record { grid = g; window = w }

pub record IsCanvas (g : Grid) (w : Window) : Type 0 where
  pub window : IsWindow w
  pub fits : Fits w.area g

-- the window is on the grid, and has `height` lines from `from` on
pub record HasLines (g : Grid) (w : Window) (from height : ℕ) : Type 0 where
  pub canvas : IsCanvas g w
  pub within : from + height ≤ w.area.rows

-- after a step the window is at the same place, and the grid has the same shape
pub record IsKept (g : Grid) (w : Window) (h : Grid) (v : Window) : Type 0 where
  pub canvas : IsCanvas h v
  pub shape : shape_of h ≡ shape_of g
  pub area : v.area ≡ w.area

abbrev pub CanvasStep : Type 0
CanvasStep = Canvas × Result (Unit {0}) Refusal

abbrev pub step : Grid → Window → Result (Unit {0}) Refusal → CanvasStep
step g w r = (canvas g w, r)

abbrev pub done : Grid → Window → CanvasStep
done g w = (canvas g w, Ok tt)

-- the next step is done only if nothing was refused, and the changes so far remain
abbrev pub and_then : CanvasStep → (Canvas → CanvasStep) → CanvasStep
and_then (s, Ok u) next = next s
and_then (s, Err e) next = (s, Err e)

-- the rest is done only if the check passes
abbrev pub if_accepted : Result (Unit {0}) Refusal → Canvas → CanvasStep → CanvasStep
if_accepted (Ok u) s rest = rest
if_accepted (Err e) s rest = (s, Err e)

-- a call on the window alone
abbrev pub alone : (Window → WindowStep) → Canvas → CanvasStep
alone act s = (canvas s.grid (act s.window).0, (act s.window).1)

-- ---- shifting

abbrev pub place : ℕ → ℕ → Place
place row col = record { row = row; col = col }

-- of `height` lines from `from` on, the upper `n` are dropped, the others move up, and the background fills those below
abbrev pub lines_up : Window → ℕ → ℕ → ℕ → Grid → Grid
lines_up w from height n g =
    filled (lines_of w (from + (height - min n height)) (min n height)) w.background
    (shifted (lines_of w from (height - min n height)) (place (w.area.top + (from + min n height)) w.area.left) g)

-- the lower `n` are dropped, the others move down, and the background fills those above
abbrev pub lines_down : Window → ℕ → ℕ → ℕ → Grid → Grid
lines_down w from height n g =
    filled (lines_of w from (min n height)) w.background
    (shifted (lines_of w (from + min n height) (height - min n height)) (place (w.area.top + from) w.area.left) g)

abbrev pub region_height : Window → ℕ
region_height w = w.region_bottom + 1 - w.region_top

-- the scrolling region moves up by n lines, or down if negative
abbrev pub scrolled : ℤ → Window → Grid → Grid
scrolled (pos n) w g = lines_up w w.region_top (region_height w) n g
scrolled (negsuc n) w g = lines_down w w.region_top (region_height w) (n + 1) g

-- the cell is inserted at the cursor, and the rest of the line moves right
abbrev pub inserted : Content → Window → Grid → Grid
inserted c w g =
    filled (cells_of w w.row w.col 1) c
    (shifted (cells_of w w.row (w.col + 1) (w.area.cols - (w.col + 1)))
    (place (w.area.top + w.row) (w.area.left + w.col)) g)

-- the cursor's cell is deleted, the rest of the line moves left, and the background fills the line's last place
abbrev pub deleted : Window → Grid → Grid
deleted w g =
    filled (cells_of w w.row (w.area.cols - 1) 1) w.background
    (shifted (cells_of w w.row w.col (w.area.cols - (w.col + 1)))
    (place (w.area.top + w.row) (w.area.left + (w.col + 1))) g)

-- ---- erasing

-- the cells from the cursor to the line's end become background
abbrev pub line_cleared : Window → Grid → Grid
line_cleared w g = filled (cells_of w w.row w.col (w.area.cols - w.col)) w.background g

-- the cells from the cursor to the window's end become background
abbrev pub bottom_cleared : Window → Grid → Grid
bottom_cleared w g = filled (lines_of w (w.row + 1) (w.area.rows - (w.row + 1))) w.background (line_cleared w g)

-- erase
abbrev pub erased : Canvas → CanvasStep
erased s = done (filled s.window.area s.window.background s.grid) (record s.window { row = 0; col = 0 })

-- clear
abbrev pub cleared : Canvas → CanvasStep
cleared s = done (filled s.window.area s.window.background s.grid) (record s.window { row = 0; col = 0; clears = true })

-- ---- writing

abbrev pub advanced : Canvas → CanvasStep
advanced s =
    if s.window.scrolls && (s.window.row == s.window.region_bottom) then
    done (lines_up s.window s.window.region_top (region_height s.window) 1 s.grid) (record s.window { col = 0 })
    else if (s.window.row + 1) == s.window.area.rows then (s, Err NoScroll)
    else done s.grid (record s.window { row = s.window.row + 1; col = 0 })

-- a character at the cursor
abbrev pub written : Put → Canvas → CanvasStep
written p s =
    let g = filled (cells_of s.window s.window.row s.window.col 1) (content s.window p) s.grid in
    if nat_lt (s.window.col + 1) s.window.area.cols then done g (record s.window { col = s.window.col + 1 })
    else advanced (canvas g s.window)

-- one character, n times
abbrev pub written_times : ℕ → Put → Canvas → CanvasStep
written_times zero p s = (s, Ok tt)
written_times (suc n) p s = and_then (written p s) (λ t. written_times n p t)

-- the width of a tab in spaces: to the next multiple of 8, or to the line's end
abbrev pub tab_width : Window → ℕ
tab_width w = min (8 - w.col % 8) (w.area.cols - w.col)

-- one byte below 128: newline, tab, backspace, return, the other controls as ^X, and all others as they are
abbrev pub character : Put → Canvas → CanvasStep
character p s =
    if p.byte == 10 then advanced (canvas (line_cleared s.window s.grid) s.window)
    else if p.byte == 9 then written_times (tab_width s.window) (record p { byte = 32 }) s
    else if p.byte == 8 then done s.grid (record s.window { col = s.window.col - 1 })
    else if p.byte == 13 then done s.grid (record s.window { col = 0 })
    else if nat_lt p.byte 32 || (p.byte == 127) then
    and_then (written (record p { byte = 94 }) s) (λ t. written (record p { byte = bit_xor p.byte 64 }) t)
    else written p s

-- addch
abbrev pub added : Put → Canvas → CanvasStep
added p s = if_accepted (checked (nat_lt p.byte 128) (is_pair p.pair)) s (character p s)

abbrev pub plain : ℕ → Put
plain byte = record { byte = byte; attrs = record { 0 = 0 }; pair = 0 }

-- addstr
abbrev pub added_all : List ℕ → Canvas → CanvasStep
added_all [] s = (s, Ok tt)
added_all (b ∷ bs) s = and_then (added (plain b) s) (λ t. added_all bs t)

-- ---- the other calls

abbrev pub checked_cell : Put → Result (Unit {0}) Refusal
checked_cell p = checked (is_printed p.byte) (is_pair p.pair)

-- a cell's content as the argument of a call, and the cell made from such an argument
abbrev pub of_cell : Content → Put
of_cell c = record { byte = c.byte; attrs = record { 0 = c.attrs }; pair = c.pair }

abbrev pub made_if : Result (Unit {0}) Refusal → Content → Result Content Refusal
made_if (Ok u) c = Ok c
made_if (Err e) c = Err e

abbrev pub to_cell : Put → Result Content Refusal
to_cell p = made_if (checked_cell p) (as_is p)

-- insch
abbrev pub insert_char : Put → Canvas → CanvasStep
insert_char p s = if_accepted (checked_cell p) s (done (inserted (content s.window p) s.window s.grid) s.window)

-- hline, at most to the line's end
abbrev pub horizontal : Put → ℤ → Canvas → CanvasStep
horizontal p n s = if_accepted (checked_cell p) s
    (done (filled (cells_of s.window s.window.row s.window.col (count_to n (s.window.area.cols - s.window.col)))
    (content s.window p) s.grid) s.window)

-- vline, at most to the window's bottom
abbrev pub vertical : Put → ℤ → Canvas → CanvasStep
vertical p n s = if_accepted (checked_cell p) s
    (done (filled (column_of s.window s.window.row s.window.col (count_to n (s.window.area.rows - s.window.row)))
    (content s.window p) s.grid) s.window)

abbrev pub checked_border : Border → Result (Unit {0}) Refusal
checked_border b = checked
    ((is_printed b.left.byte && is_printed b.right.byte) && (is_printed b.top.byte && is_printed b.bottom.byte)
    && (is_printed b.top_left.byte && is_printed b.top_right.byte)
    && (is_printed b.bottom_left.byte && is_printed b.bottom_right.byte))
    ((is_pair b.left.pair && is_pair b.right.pair) && (is_pair b.top.pair && is_pair b.bottom.pair)
    && (is_pair b.top_left.pair && is_pair b.top_right.pair)
    && (is_pair b.bottom_left.pair && is_pair b.bottom_right.pair))

-- scroll
abbrev pub scroll_by : ℤ → Canvas → CanvasStep
scroll_by n s = if s.window.scrolls then done (scrolled n s.window s.grid) s.window else (s, Err NoScroll)

-- bkgd: in the cells, the old background becomes the new one
abbrev pub change_background : Put → Canvas → CanvasStep
change_background p s = if_accepted (checked_cell p) s
    (done (recolored s.window.area s.window.background (as_is p) s.grid) (record s.window { background = as_is p }))

-- insertln and deleteln, on the lines down to the window's bottom
abbrev pub insert_line : Canvas → CanvasStep
insert_line s = done (lines_down s.window s.window.row (s.window.area.rows - s.window.row) 1 s.grid) s.window

abbrev pub delete_line : Canvas → CanvasStep
delete_line s = done (lines_up s.window s.window.row (s.window.area.rows - s.window.row) 1 s.grid) s.window

-- delch
abbrev pub delete_char : Canvas → CanvasStep
delete_char s = done (deleted s.window s.grid) s.window

-- clrtoeol, clrtobot
abbrev pub clear_line : Canvas → CanvasStep
clear_line s = done (line_cleared s.window s.grid) s.window

abbrev pub clear_bottom : Canvas → CanvasStep
clear_bottom s = done (bottom_cleared s.window s.grid) s.window

-- a cell can hold each part of the border
pub record IsBorder (b : Border) : Type 0 where
  pub left : IsPut b.left
  pub right : IsPut b.right
  pub top : IsPut b.top
  pub bottom : IsPut b.bottom
  pub top_left : IsPut b.top_left
  pub top_right : IsPut b.top_right
  pub bottom_left : IsPut b.bottom_left
  pub bottom_right : IsPut b.bottom_right

-- the four sides, top and bottom first
abbrev pub sides : Border → Window → Grid → Grid
sides b w g =
    filled (column_of w 0 (w.area.cols - 1) w.area.rows) (content w b.right)
    (filled (column_of w 0 0 w.area.rows) (content w b.left)
    (filled (lines_of w (w.area.rows - 1) 1) (content w b.bottom)
    (filled (lines_of w 0 1) (content w b.top) g)))

abbrev pub corners : Border → Window → Grid → Grid
corners b w g =
    filled (cells_of w (w.area.rows - 1) (w.area.cols - 1) 1) (content w b.bottom_right)
    (filled (cells_of w (w.area.rows - 1) 0 1) (content w b.bottom_left)
    (filled (cells_of w 0 (w.area.cols - 1) 1) (content w b.top_right)
    (filled (cells_of w 0 0 1) (content w b.top_left) g)))

-- border: the top, bottom, left and right sides, and then the corners
abbrev pub bordered : Border → Canvas → CanvasStep
bordered b s = if_accepted (checked_border b) s (done (corners b s.window (sides b s.window s.grid)) s.window)

-- ---- default cells: characters of the alternate set (X/Open Curses Issue 7, "Line drawing"), by their letters
-- q
abbrev pub horizontal_bar : ℕ
horizontal_bar = 113

-- x
abbrev pub vertical_bar : ℕ
vertical_bar = 120

-- l
abbrev pub upper_left : ℕ
upper_left = 108

-- k
abbrev pub upper_right : ℕ
upper_right = 107

-- m
abbrev pub lower_left : ℕ
lower_left = 109

-- j
abbrev pub lower_right : ℕ
lower_right = 106

abbrev pub drawn_line : ℕ → Put
drawn_line byte = record { byte = byte; attrs = record { 0 = 128 }; pair = 0 }

abbrev pub default_border : Border
default_border = record {
  left = drawn_line vertical_bar;
  right = drawn_line vertical_bar;
  top = drawn_line horizontal_bar;
  bottom = drawn_line horizontal_bar;
  top_left = drawn_line upper_left;
  top_right = drawn_line upper_right;
  bottom_left = drawn_line lower_left;
  bottom_right = drawn_line lower_right;
}

-- box: the default corners
abbrev pub box_of : Put → Put → Border
box_of v h = record default_border { left = v; right = v; top = h; bottom = h }
