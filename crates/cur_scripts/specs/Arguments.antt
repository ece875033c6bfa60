-- The arguments of each call: the words after its name, in order, and no more.
use Rattle.std.specs.Prelude.{ℕ, List, Option, Some}
use Rattle.cur_drawing.specs.declared.puts.Put.{Put}
use Rattle.cur_drawing.specs.declared.puts.Border.{Border}
use Rattle.cur_drawing.specs.Calls.{drawn_line, horizontal_bar, vertical_bar, default_border}
use Rattle.cur_scripts.specs.declared.calls.Call.{Call}
use Rattle.cur_scripts.specs.declared.calls.Call.TheVariants.{Newwin, Newpad, Part, Dupwin, Plain}
use Rattle.cur_scripts.specs.declared.calls.Call.TheVariants.{Number, Numbers, Flag}
use Rattle.cur_scripts.specs.declared.calls.Call.TheVariants.{Attributes, Cell, Addstr, Line, DrawBorder, DrawBox, Lay}
use Rattle.cur_scripts.specs.declared.calls.Call.TheVariants.{Copywin, Show, ShowPad, Screen, CursSet, InitPair}
use Rattle.cur_scripts.specs.declared.groups.PartCall.{PartCall}
use Rattle.cur_scripts.specs.declared.groups.PlainCall.{PlainCall}
use Rattle.cur_scripts.specs.declared.groups.NumberCall.{NumberCall}
use Rattle.cur_scripts.specs.declared.groups.NumbersCall.{NumbersCall}
use Rattle.cur_scripts.specs.declared.groups.FlagCall.{FlagCall}
use Rattle.cur_scripts.specs.declared.groups.AttrsCall.{AttrsCall}
use Rattle.cur_scripts.specs.declared.groups.CellCall.{CellCall}
use Rattle.cur_scripts.specs.declared.groups.LineCall.{LineCall}
use Rattle.cur_scripts.specs.declared.groups.LayCall.{LayCall}
use Rattle.cur_scripts.specs.declared.groups.ShowCall.{ShowCall}
use Rattle.cur_scripts.specs.declared.groups.PadCall.{PadCall}
use Rattle.cur_scripts.specs.declared.groups.ScreenCall.{ScreenCall}
use Rattle.cur_scripts.specs.declared.groups.LineCall.TheVariants.{Hline, Vline}
use Rattle.cur_scripts.specs.declared.groups.ScreenCall.TheVariants.{Beep}
use Rattle.cur_scripts.specs.Cuts.{◌>>=◌}
use Rattle.cur_scripts.specs.Numbers.{number_in, window_in, flag_in, zero_in}
use Rattle.cur_scripts.specs.Cells.{cell_in, cell_or, attrs_in}
use Rattle.cur_scripts.specs.Words.{first, ended, rest, two_numbers, four_numbers, two_windows}

-- the number of a window, what `read` reads after it, and no more
abbrev pub with_window : {A : Type 0} → (List (List ℕ) → Option (A × List (List ℕ))) → (ℕ → A → Call) → List (List ℕ)
    → Option Call
with_window read made words = do
  a ← first window_in words
  b ← read a.1
  _ ← ended b.1
  Some (made a.0 b.0)

-- the number of a window, and no more
abbrev pub only_window : (ℕ → Call) → List (List ℕ) → Option Call
only_window made words = do
  a ← first window_in words
  _ ← ended a.1
  Some (made a.0)

-- newwin n l c y x
abbrev pub newwin : List (List ℕ) → Option Call
newwin words = with_window four_numbers (λ window b. Newwin window b.0 b.1 b.2 b.3) words

-- newpad n l c
abbrev pub newpad : List (List ℕ) → Option Call
newpad words = with_window two_numbers (λ window b. Newpad window b.0 b.1) words

-- subwin n w l c y x
abbrev pub part : PartCall → List (List ℕ) → Option Call
part call words = do
  a ← two_windows words
  b ← four_numbers a.1
  _ ← ended b.1
  Some (Part call a.0.0 a.0.1 b.0.0 b.0.1 b.0.2 b.0.3)

-- dupwin n w
abbrev pub dupwin : List (List ℕ) → Option Call
dupwin words = do
  a ← two_windows words
  _ ← ended a.1
  Some (Dupwin a.0.0 a.0.1)

-- erase w
abbrev pub plain : PlainCall → List (List ℕ) → Option Call
plain call words = only_window (Plain call) words

-- scroll w n
abbrev pub number : NumberCall → List (List ℕ) → Option Call
number call words = with_window (first number_in) (Number call) words

-- move w y x
abbrev pub numbers : NumbersCall → List (List ℕ) → Option Call
numbers call words = with_window two_numbers (λ window b. Numbers call window b.0 b.1) words

-- scrollok w f
abbrev pub flag : FlagCall → List (List ℕ) → Option Call
flag call words = with_window (first flag_in) (Flag call) words

-- attron w A
abbrev pub attributes : AttrsCall → List (List ℕ) → Option Call
attributes call words = with_window (first attrs_in) (Attributes call) words

-- addch w cell
abbrev pub cell : CellCall → List (List ℕ) → Option Call
cell call words = with_window (first cell_in) (Cell call) words

-- addstr w TEXT
abbrev pub addstr : List (List ℕ) → Option Call
addstr words = do
  a ← first window_in words
  text ← rest a.1
  Some (Addstr a.0 text)

-- the default cell of a line
abbrev pub default_of : LineCall → Put
default_of Hline = drawn_line horizontal_bar
default_of Vline = drawn_line vertical_bar

-- hline w cell n
abbrev pub line : LineCall → List (List ℕ) → Option Call
line call words = do
  a ← first window_in words
  b ← first (cell_or (default_of call)) a.1
  c ← first number_in b.1
  _ ← ended c.1
  Some (Line call a.0 b.0 c.0)

-- ls rs ts bs
abbrev pub sides : List (List ℕ) → Option (Border × List (List ℕ))
sides words = do
  a ← first (cell_or (drawn_line vertical_bar)) words
  b ← first (cell_or (drawn_line vertical_bar)) a.1
  c ← first (cell_or (drawn_line horizontal_bar)) b.1
  d ← first (cell_or (drawn_line horizontal_bar)) c.1
  Some (record default_border { left = a.0; right = b.0; top = c.0; bottom = d.0 }, d.1)

-- tl tr bl br
abbrev pub corners : Border → List (List ℕ) → Option (Border × List (List ℕ))
corners border words = do
  a ← first (cell_or default_border.top_left) words
  b ← first (cell_or default_border.top_right) a.1
  c ← first (cell_or default_border.bottom_left) b.1
  d ← first (cell_or default_border.bottom_right) c.1
  Some (record border { top_left = a.0; top_right = b.0; bottom_left = c.0; bottom_right = d.0 }, d.1)

-- border w ls rs ts bs tl tr bl br
abbrev pub draw_border : List (List ℕ) → Option Call
draw_border words = do
  a ← first window_in words
  b ← sides a.1
  c ← corners b.0 b.1
  _ ← ended c.1
  Some (DrawBorder a.0 c.0)

-- box w v h
abbrev pub draw_box : List (List ℕ) → Option Call
draw_box words = do
  a ← first window_in words
  b ← first (cell_or (drawn_line vertical_bar)) a.1
  c ← first (cell_or (drawn_line horizontal_bar)) b.1
  _ ← ended c.1
  Some (DrawBox a.0 b.0 c.0)

-- overlay s d
abbrev pub lay : LayCall → List (List ℕ) → Option Call
lay call words = do
  a ← two_windows words
  _ ← ended a.1
  Some (Lay call a.0.0 a.0.1)

-- copywin s d sr sc dr dc er ec f
abbrev pub copywin : List (List ℕ) → Option Call
copywin words = do
  a ← two_windows words
  b ← two_numbers a.1
  c ← four_numbers b.1
  d ← first flag_in c.1
  _ ← ended d.1
  Some (Copywin d.0 a.0.0 a.0.1 b.0.0 b.0.1 c.0.0 c.0.1 c.0.2 c.0.3)

-- refresh w
abbrev pub show : ShowCall → List (List ℕ) → Option Call
show call words = only_window (Show call) words

-- prefresh w pr pc sr sc er ec
abbrev pub show_pad : PadCall → List (List ℕ) → Option Call
show_pad call words = do
  a ← first window_in words
  b ← two_numbers a.1
  c ← four_numbers b.1
  _ ← ended c.1
  Some (ShowPad call a.0 b.0.0 b.0.1 c.0.0 c.0.1 c.0.2 c.0.3)

-- beep 0
abbrev pub beep : List (List ℕ) → Option Call
beep words = do
  a ← first zero_in words
  _ ← ended a.1
  Some (Screen Beep)

-- curs_set n
abbrev pub curs_set : List (List ℕ) → Option Call
curs_set words = do
  a ← first number_in words
  _ ← ended a.1
  Some (CursSet a.0)

-- init_pair p f b
abbrev pub init_pair : List (List ℕ) → Option Call
init_pair words = do
  a ← first number_in words
  b ← two_numbers a.1
  _ ← ended b.1
  Some (InitPair a.0 b.0.0 b.0.1)

-- doupdate
abbrev pub bare : ScreenCall → List (List ℕ) → Option Call
bare call words = do
  _ ← ended words
  Some (Screen call)
