-- The names of the calls in X/Open Curses Issue 7.
use Rattle.std.specs.Prelude.{ℕ, List, codes}
use Rattle.cur_scripts.specs.declared.calls.Call.{Call}
use Rattle.cur_scripts.specs.declared.calls.Call.TheVariants.{Newwin, Newpad, Part, Dupwin, Plain}
use Rattle.cur_scripts.specs.declared.calls.Call.TheVariants.{Number, Numbers, Flag}
use Rattle.cur_scripts.specs.declared.calls.Call.TheVariants.{Attributes, Cell, Addstr, Line, DrawBorder, DrawBox, Lay}
use Rattle.cur_scripts.specs.declared.calls.Call.TheVariants.{Copywin, Show, ShowPad, Screen, CursSet, InitPair}
use Rattle.cur_scripts.specs.declared.groups.PartCall.{PartCall}
use Rattle.cur_scripts.specs.declared.groups.PartCall.TheVariants.{Subwin, Derwin, Subpad}
use Rattle.cur_scripts.specs.declared.groups.PlainCall.{PlainCall}
use Rattle.cur_scripts.specs.declared.groups.PlainCall.TheVariants.{Delwin, Delch, Insertln, Deleteln}
use Rattle.cur_scripts.specs.declared.groups.PlainCall.TheVariants.{Clrtoeol, Clrtobot}
use Rattle.cur_scripts.specs.declared.groups.PlainCall.TheVariants.{Erase, Clear, Touchwin}
use Rattle.cur_scripts.specs.declared.groups.NumberCall.{NumberCall}
use Rattle.cur_scripts.specs.declared.groups.NumberCall.TheVariants.{Scroll, ColorSet}
use Rattle.cur_scripts.specs.declared.groups.NumbersCall.{NumbersCall}
use Rattle.cur_scripts.specs.declared.groups.NumbersCall.TheVariants.{Mvwin, Move, Setscrreg, Touchline}
use Rattle.cur_scripts.specs.declared.groups.FlagCall.{FlagCall}
use Rattle.cur_scripts.specs.declared.groups.FlagCall.TheVariants.{Scrollok, Leaveok, Clearok, Idlok}
use Rattle.cur_scripts.specs.declared.groups.AttrsCall.{AttrsCall}
use Rattle.cur_scripts.specs.declared.groups.AttrsCall.TheVariants.{Attron, Attroff, Attrset}
use Rattle.cur_scripts.specs.declared.groups.CellCall.{CellCall}
use Rattle.cur_scripts.specs.declared.groups.CellCall.TheVariants.{Addch, Insch, Bkgdset, Bkgd}
use Rattle.cur_scripts.specs.declared.groups.LineCall.{LineCall}
use Rattle.cur_scripts.specs.declared.groups.LineCall.TheVariants.{Hline, Vline}
use Rattle.cur_scripts.specs.declared.groups.LayCall.{LayCall}
use Rattle.cur_scripts.specs.declared.groups.LayCall.TheVariants.{Overlay, Overwrite}
use Rattle.cur_scripts.specs.declared.groups.ShowCall.{ShowCall}
use Rattle.cur_scripts.specs.declared.groups.ShowCall.TheVariants.{Noutrefresh, Refresh}
use Rattle.cur_scripts.specs.declared.groups.PadCall.{PadCall}
use Rattle.cur_scripts.specs.declared.groups.PadCall.TheVariants.{Pnoutrefresh, Prefresh}
use Rattle.cur_scripts.specs.declared.groups.ScreenCall.{ScreenCall}
use Rattle.cur_scripts.specs.declared.groups.ScreenCall.TheVariants.{Doupdate, Beep, Endwin}

abbrev pub part_name : PartCall → List ℕ
part_name = elim [ Subwin ↦ codes "subwin" | Derwin ↦ codes "derwin" | Subpad ↦ codes "subpad" ]

abbrev pub plain_name : PlainCall → List ℕ
plain_name = elim [
  | Delwin ↦ codes "delwin"
  | Delch ↦ codes "delch"
  | Insertln ↦ codes "insertln"
  | Deleteln ↦ codes "deleteln"
  | Clrtoeol ↦ codes "clrtoeol"
  | Clrtobot ↦ codes "clrtobot"
  | Erase ↦ codes "erase"
  | Clear ↦ codes "clear"
  | Touchwin ↦ codes "touchwin"
]

abbrev pub number_name : NumberCall → List ℕ
number_name = elim [ Scroll ↦ codes "scroll" | ColorSet ↦ codes "color_set" ]

abbrev pub numbers_name : NumbersCall → List ℕ
numbers_name =
    elim [ Mvwin ↦ codes "mvwin" | Move ↦ codes "move" | Setscrreg ↦ codes "setscrreg" | Touchline ↦ codes "touchline" ]

abbrev pub flag_name : FlagCall → List ℕ
flag_name =
    elim [ Scrollok ↦ codes "scrollok" | Leaveok ↦ codes "leaveok" | Clearok ↦ codes "clearok" | Idlok ↦ codes "idlok" ]

abbrev pub attrs_name : AttrsCall → List ℕ
attrs_name = elim [ Attron ↦ codes "attron" | Attroff ↦ codes "attroff" | Attrset ↦ codes "attrset" ]

abbrev pub cell_name : CellCall → List ℕ
cell_name = elim [ Addch ↦ codes "addch" | Insch ↦ codes "insch" | Bkgdset ↦ codes "bkgdset" | Bkgd ↦ codes "bkgd" ]

abbrev pub line_name : LineCall → List ℕ
line_name = elim [ Hline ↦ codes "hline" | Vline ↦ codes "vline" ]

abbrev pub lay_name : LayCall → List ℕ
lay_name = elim [ Overlay ↦ codes "overlay" | Overwrite ↦ codes "overwrite" ]

abbrev pub show_name : ShowCall → List ℕ
show_name = elim [ Noutrefresh ↦ codes "noutrefresh" | Refresh ↦ codes "refresh" ]

abbrev pub pad_name : PadCall → List ℕ
pad_name = elim [ Pnoutrefresh ↦ codes "pnoutrefresh" | Prefresh ↦ codes "prefresh" ]

abbrev pub screen_name : ScreenCall → List ℕ
screen_name = elim [ Doupdate ↦ codes "doupdate" | Beep ↦ codes "beep" | Endwin ↦ codes "endwin" ]

abbrev pub call_name : Call → List ℕ
call_name (Newwin _ _ _ _ _) = codes "newwin"
call_name (Newpad _ _ _) = codes "newpad"
call_name (Part call _ _ _ _ _ _) = part_name call
call_name (Dupwin _ _) = codes "dupwin"
call_name (Plain call _) = plain_name call
call_name (Number call _ _) = number_name call
call_name (Numbers call _ _ _) = numbers_name call
call_name (Flag call _ _) = flag_name call
call_name (Attributes call _ _) = attrs_name call
call_name (Cell call _ _) = cell_name call
call_name (Addstr _ _) = codes "addstr"
call_name (Line call _ _ _) = line_name call
call_name (DrawBorder _ _) = codes "border"
call_name (DrawBox _ _ _) = codes "box"
call_name (Lay call _ _) = lay_name call
call_name (Copywin _ _ _ _ _ _ _ _ _) = codes "copywin"
call_name (Show call _) = show_name call
call_name (ShowPad call _ _ _ _ _ _ _) = pad_name call
call_name (Screen call) = screen_name call
call_name (CursSet _) = codes "curs_set"
call_name (InitPair _ _ _) = codes "init_pair"
