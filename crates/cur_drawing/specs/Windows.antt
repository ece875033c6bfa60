-- One window: a rectangle of a grid with a cursor and options (X/Open Curses Issue 7, "Windows", "Attributes").
use Rattle.std.specs.Prelude.{ℕ, ◌≡◌, ◌+◌, ◌-◌, ◌==◌, ◌&&◌, ◌≤◌, ◌<◌, nat_le, nat_lt, Bool, false, Option, Some, None}
use Rattle.std.specs.Prelude.{Result, Ok, Err, if◌then◌else◌, bit_or, ℤ, pos, negsuc}
use Rattle.grids.specs.declared.areas.Area.{Area}
use Rattle.grids.specs.declared.areas.Place.{Place}
use Rattle.grids.specs.Grids.{is_in}
use Rattle.cur_drawing.specs.declared.puts.Put.{Put}
use Rattle.cur_drawing.specs.declared.refusals.Refusal.{Refusal}
use Rattle.cur_drawing.specs.declared.refusals.Refusal.TheVariants.{OutOfWindow, BadRegion, BadCell, BadPair}
use Rattle.cur_drawing.specs.declared.windows.Window.{Window}
use Rattle.cur_drawing.specs.Cells.{Content, pair_count, space}

-- the most lines or columns of a grid of windows or of a pad
abbrev pub most_lines : ℕ
most_lines = 1000

-- the cursor and the scrolling region are in the window
pub record IsWindow (w : Window) : Type 0 where
  pub row : w.row < w.area.rows
  pub col : w.col < w.area.cols
  pub region : w.region_top ≤ w.region_bottom
  pub bottom : w.region_bottom < w.area.rows
  pub pair : w.pair < pair_count
  pub height : w.area.top + w.area.rows ≤ most_lines
  pub width : w.area.left + w.area.cols ≤ most_lines

-- after a call on a window alone it has the same rectangle, with the cursor and the region in it
pub record StaysInPlace (w v : Window) : Type 0 where
  pub legal : IsWindow v
  pub area : v.area ≡ w.area

-- a new window: the cursor at its corner, spaces as background, all options off
abbrev pub fresh : Area → Window
fresh a = record {
  area = a;
  row = 0;
  col = 0;
  attrs = record { 0 = 0 };
  background = space;
  pair = 0;
  scrolls = false;
  leaves = false;
  clears = false;
  region_top = 0;
  region_bottom = a.rows - 1;
}

-- ---- rectangles of a window, in the places of its grid

-- n of its lines
abbrev pub lines_of : Window → ℕ → ℕ → Area
lines_of w from n = record { top = w.area.top + from; left = w.area.left; rows = n; cols = w.area.cols }

-- n places of one of its lines
abbrev pub cells_of : Window → ℕ → ℕ → ℕ → Area
cells_of w row from n = record { top = w.area.top + row; left = w.area.left + from; rows = 1; cols = n }

-- n places of one of its columns
abbrev pub column_of : Window → ℕ → ℕ → ℕ → Area
column_of w from col n = record { top = w.area.top + from; left = w.area.left + col; rows = n; cols = 1 }

-- the place of a window's cursor on the screen if this part of it is shown from a place on: none if the window leaves
-- its cursor anywhere, or if the cursor isn't in the part
abbrev pub part_cursor : Window → Area → Place → Option Place
part_cursor w part to =
    if w.leaves then None
    else if is_in part w.row w.col
    then Some (record { row = to.row + (w.row - part.top); col = to.col + (w.col - part.left) })
    else None

-- ---- arguments of calls

-- a byte that a cell can hold
abbrev pub is_printed : ℕ → Bool
is_printed byte = nat_le 32 byte && nat_le byte 126

abbrev pub is_pair : ℕ → Bool
is_pair pair = nat_lt pair pair_count

-- a wrong byte is reported before a wrong pair
abbrev pub checked : Bool → Bool → Result (Unit {0}) Refusal
checked byte pair = if byte then (if pair then Ok tt else Err BadPair) else Err BadCell

-- a number, if it is a place below the limit
abbrev pub place_below : ℤ → ℕ → Option ℕ
place_below (pos n) limit = if nat_lt n limit then Some n else None
place_below (negsuc n) limit = None

-- a count that is at most the limit, and 0 for a negative number
abbrev pub count_to : ℤ → ℕ → ℕ
count_to (pos n) limit = if nat_lt n limit then n else limit
count_to (negsuc n) limit = 0

abbrev pub first_pair : ℕ → ℕ → ℕ → ℕ
first_pair own windows backgrounds = if own == 0 then (if windows == 0 then backgrounds else windows) else own

-- the cell for a character that is written in a window
abbrev pub content : Window → Put → Content
content w p = record {
  byte = if p.byte == 32 then w.background.byte else p.byte;
  attrs = bit_or (bit_or p.attrs.0 w.attrs.0) w.background.attrs;
  pair = first_pair p.pair w.pair w.background.pair;
}

-- ---- calls on a window alone: the window after, and the answer
abbrev pub WindowStep : Type 0
WindowStep = Window × Result (Unit {0}) Refusal

abbrev pub moved : Option ℕ → Option ℕ → Window → WindowStep
moved (Some y) (Some x) w = (record w { row = y; col = x }, Ok tt)
moved (Some y) None w = (w, Err OutOfWindow)
moved None x w = (w, Err OutOfWindow)

-- move
abbrev pub move_to : ℤ → ℤ → Window → WindowStep
move_to y x w = moved (place_below y w.area.rows) (place_below x w.area.cols) w

abbrev pub bounded : Option ℕ → Option ℕ → Window → WindowStep
bounded (Some t) (Some b) w =
    if nat_le t b then (record w { region_top = t; region_bottom = b }, Ok tt) else (w, Err BadRegion)
bounded (Some t) None w = (w, Err BadRegion)
bounded None b w = (w, Err BadRegion)

-- setscrreg
abbrev pub set_region : ℤ → ℤ → Window → WindowStep
set_region t b w = bounded (place_below t w.area.rows) (place_below b w.area.rows) w

abbrev pub paired : Option ℕ → Window → WindowStep
paired (Some p) w = (record w { pair = p }, Ok tt)
paired None w = (w, Err BadPair)

-- color_set
abbrev pub set_pair : ℤ → Window → WindowStep
set_pair p w = paired (place_below p pair_count) w

-- the argument of bkgdset and bkgd as a cell, without changes
abbrev pub as_is : Put → Content
as_is p = record { byte = p.byte; attrs = p.attrs.0; pair = p.pair }

abbrev pub if_ok : Result (Unit {0}) Refusal → Window → Window → WindowStep
if_ok (Ok u) was new = (new, Ok u)
if_ok (Err e) was new = (was, Err e)

-- bkgdset
abbrev pub set_background : Put → Window → WindowStep
set_background p w = if_ok (checked (is_printed p.byte) (is_pair p.pair)) w (record w { background = as_is p })

-- the characters that a cell can hold
pub record IsPut (p : Put) : Type 0 where
  pub low : 32 ≤ p.byte
  pub high : p.byte ≤ 126
  pub pair : p.pair < pair_count
