-- The calls that numbers encode, as include/ticurses.h fills them in (X/Open Curses Issue 7): one table, by their
-- kinds.
use Rattle.std.specs.Prelude.{ℕ, ℤ, pos, negsuc, ◌==◌, ◌&&◌, nat_le, List, [], ◌∷◌, ◌++◌, Option, Some, None}
use Rattle.std.specs.Prelude.{option_map, if◌then◌else◌}
use Rattle.cur_drawing.specs.Calls.{default_border}
use Rattle.cur_drawing.specs.declared.cells.Attrs.{Attrs}
use Rattle.cur_drawing.specs.declared.puts.Border.{Border}
use Rattle.cur_drawing.specs.declared.puts.Put.{Put}
use Rattle.cur_scripts.specs.declared.calls.Call.{Call}
use Rattle.cur_scripts.specs.declared.calls.Call.TheVariants.{Newwin, Newpad, Part, Dupwin, Plain}
use Rattle.cur_scripts.specs.declared.calls.Call.TheVariants.{Number, Numbers, Flag}
use Rattle.cur_scripts.specs.declared.calls.Call.TheVariants.{Attributes, Cell, Line, DrawBorder, DrawBox, Lay, Copywin}
use Rattle.cur_scripts.specs.declared.calls.Call.TheVariants.{Show, ShowPad, Screen, CursSet, InitPair}
use Rattle.cur_scripts.specs.declared.groups.AttrsCall.{AttrsCall}
use Rattle.cur_scripts.specs.declared.groups.AttrsCall.TheVariants.{Attron, Attroff, Attrset}
use Rattle.cur_scripts.specs.declared.groups.CellCall.{CellCall}
use Rattle.cur_scripts.specs.declared.groups.CellCall.TheVariants.{Addch, Insch, Bkgdset, Bkgd}
use Rattle.cur_scripts.specs.declared.groups.FlagCall.{FlagCall}
use Rattle.cur_scripts.specs.declared.groups.FlagCall.TheVariants.{Scrollok, Leaveok, Clearok, Idlok}
use Rattle.cur_scripts.specs.declared.groups.LayCall.{LayCall}
use Rattle.cur_scripts.specs.declared.groups.LayCall.TheVariants.{Overlay, Overwrite}
use Rattle.cur_scripts.specs.declared.groups.LineCall.{LineCall}
use Rattle.cur_scripts.specs.declared.groups.LineCall.TheVariants.{Hline, Vline}
use Rattle.cur_scripts.specs.declared.groups.NumberCall.{NumberCall}
use Rattle.cur_scripts.specs.declared.groups.NumberCall.TheVariants.{Scroll, ColorSet}
use Rattle.cur_scripts.specs.declared.groups.NumbersCall.{NumbersCall}
use Rattle.cur_scripts.specs.declared.groups.NumbersCall.TheVariants.{Mvwin, Move, Setscrreg, Touchline}
use Rattle.cur_scripts.specs.declared.groups.PadCall.{PadCall}
use Rattle.cur_scripts.specs.declared.groups.PadCall.TheVariants.{Pnoutrefresh, Prefresh}
use Rattle.cur_scripts.specs.declared.groups.PartCall.{PartCall}
use Rattle.cur_scripts.specs.declared.groups.PartCall.TheVariants.{Subwin, Derwin, Subpad}
use Rattle.cur_scripts.specs.declared.groups.PlainCall.{PlainCall}
use Rattle.cur_scripts.specs.declared.groups.PlainCall.TheVariants.{Delwin, Delch, Insertln, Deleteln}
use Rattle.cur_scripts.specs.declared.groups.PlainCall.TheVariants.{Clrtoeol, Clrtobot}
use Rattle.cur_scripts.specs.declared.groups.PlainCall.TheVariants.{Erase, Clear, Touchwin}
use Rattle.cur_scripts.specs.declared.groups.ScreenCall.{ScreenCall}
use Rattle.cur_scripts.specs.declared.groups.ScreenCall.TheVariants.{Doupdate, Beep, Endwin}
use Rattle.cur_scripts.specs.declared.groups.ShowCall.{ShowCall}
use Rattle.cur_scripts.specs.declared.groups.ShowCall.TheVariants.{Noutrefresh, Refresh}
use Rattle.cur_scripts.specs.Arguments.{default_of}
use Rattle.cur_scripts.specs.Numbers.{as_flag}
use Rattle.curses_c.specs.declared.queries.Standing.{Standing}
use Rattle.curses_c.specs.declared.requests.Frame.{Frame}
use Rattle.curses_c.specs.declared.requests.Request.{Request}

-- the attributes that a number from 0 to 255 encodes
abbrev pub attrs_in : ℤ → Option Attrs
attrs_in (pos n) = if nat_le n 255 then Some (record { 0 = n }) else None
attrs_in (negsuc n) = None

abbrev pub put_of : Standing → Put
put_of c = record { byte = c.byte; attrs = record { 0 = c.attrs }; pair = c.pair }

-- in lines and borders, a cell whose members are all 0 is the default cell
abbrev pub put_or : Put → Standing → Put
put_or default c = if c.byte == 0 && (c.attrs == 0 && c.pair == 0) then default else put_of c

abbrev pub newwin : Request → Option Call
newwin r = Some (Newwin r.window r.first r.second r.third r.fourth)

abbrev pub newpad : Request → Option Call
newpad r = Some (Newpad r.window r.first r.second)

abbrev pub part : PartCall → Request → Option Call
part call r = Some (Part call r.window r.other r.first r.second r.third r.fourth)

abbrev pub dupwin : Request → Option Call
dupwin r = Some (Dupwin r.window r.other)

abbrev pub plain : PlainCall → Request → Option Call
plain call r = Some (Plain call r.window)

abbrev pub number : NumberCall → Request → Option Call
number call r = Some (Number call r.window r.first)

abbrev pub numbers : NumbersCall → Request → Option Call
numbers call r = Some (Numbers call r.window r.first r.second)

abbrev pub flag : FlagCall → Request → Option Call
flag call r = option_map (λ on. Flag call r.window on) (as_flag r.flag)

-- the call for attributes that a number encodes
abbrev pub styled : AttrsCall → ℕ → ℤ → Option Call
styled call window attrs = option_map (λ a. Attributes call window a) (attrs_in attrs)

abbrev pub attributes : AttrsCall → Request → Option Call
attributes call r = styled call r.window r.attrs

abbrev pub cell : CellCall → Request → Option Call
cell call r = Some (Cell call r.window (put_of r.cell))

abbrev pub line : LineCall → Request → Option Call
line call r = Some (Line call r.window (put_or (default_of call) r.cell) r.first)

abbrev pub border_of : Frame → Border
border_of f = record {
  left = put_or default_border.left f.left;
  right = put_or default_border.right f.right;
  top = put_or default_border.top f.top;
  bottom = put_or default_border.bottom f.bottom;
  top_left = put_or default_border.top_left f.top_left;
  top_right = put_or default_border.top_right f.top_right;
  bottom_left = put_or default_border.bottom_left f.bottom_left;
  bottom_right = put_or default_border.bottom_right f.bottom_right;
}

abbrev pub draw_border : Request → Option Call
draw_border r = Some (DrawBorder r.window (border_of r.frame))

abbrev pub draw_box : Request → Option Call
draw_box r =
    Some (DrawBox r.window (put_or default_border.left r.frame.left) (put_or default_border.top r.frame.top))

abbrev pub lay : LayCall → Request → Option Call
lay call r = Some (Lay call r.window r.other)

abbrev pub copywin : Request → Option Call
copywin r =
    option_map (λ skip. Copywin skip r.window r.other r.first r.second r.third r.fourth r.fifth r.sixth)
    (as_flag r.flag)

abbrev pub show : ShowCall → Request → Option Call
show call r = Some (Show call r.window)

abbrev pub show_pad : PadCall → Request → Option Call
show_pad call r = Some (ShowPad call r.window r.first r.second r.third r.fourth r.fifth r.sixth)

abbrev pub screen : ScreenCall → Request → Option Call
screen call r = Some (Screen call)

abbrev pub curs_set : Request → Option Call
curs_set r = Some (CursSet r.first)

abbrev pub init_pair : Request → Option Call
init_pair r = Some (InitPair r.first r.second r.third)

-- the number of a kind, and the call that arguments encode for it
abbrev pub Row : Type 0
Row = ℕ × (Request → Option Call)

-- making, moving and deleting windows
abbrev pub rows_made : List Row
rows_made =
    (1, newwin) ∷ (2, newpad) ∷
    (3, part Subwin) ∷ (4, part Derwin) ∷ (5, part Subpad) ∷ (6, dupwin) ∷
    (7, plain Delwin) ∷ (8, numbers Mvwin) ∷ []

-- characters, lines and borders
abbrev pub rows_written : List Row
rows_written =
    (9, numbers Move) ∷ (10, cell Addch) ∷ (11, cell Insch) ∷
    (12, plain Delch) ∷ (13, plain Insertln) ∷ (14, plain Deleteln) ∷
    (15, plain Clrtoeol) ∷ (16, plain Clrtobot) ∷ (17, plain Erase) ∷ (18, plain Clear) ∷
    (19, line Hline) ∷ (20, line Vline) ∷ (21, draw_border) ∷ (22, draw_box) ∷
    (23, number Scroll) ∷ (24, numbers Setscrreg) ∷ []

-- attributes and backgrounds, and copying from window to window
abbrev pub rows_styled : List Row
rows_styled =
    (25, attributes Attron) ∷ (26, attributes Attroff) ∷ (27, attributes Attrset) ∷ (28, number ColorSet) ∷
    (29, cell Bkgdset) ∷ (30, cell Bkgd) ∷
    (31, lay Overlay) ∷ (32, lay Overwrite) ∷ (33, copywin) ∷ []

-- options, and showing
abbrev pub rows_shown : List Row
rows_shown =
    (34, flag Scrollok) ∷ (35, flag Leaveok) ∷ (36, flag Clearok) ∷ (37, flag Idlok) ∷
    (38, plain Touchwin) ∷ (39, numbers Touchline) ∷
    (40, show Noutrefresh) ∷ (41, show Refresh) ∷ (42, screen Doupdate) ∷
    (43, show_pad Pnoutrefresh) ∷ (44, show_pad Prefresh) ∷
    (45, curs_set) ∷ (46, init_pair) ∷ (47, screen Beep) ∷ (48, screen Endwin) ∷ []

-- the call of the first row of this kind
abbrev pub call_in : List Row → Request → Option Call
call_in [] r = None
call_in (row ∷ rows) r = if r.kind == row.0 then row.1 r else call_in rows r

abbrev pub table : List Row
table = rows_made ++ (rows_written ++ (rows_styled ++ rows_shown))

-- the call that numbers encode; none if the kind has no row, or if its call doesn't take one of the numbers
abbrev pub call_of : Request → Option Call
call_of r = call_in table r
