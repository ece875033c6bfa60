-- The effects of the calls on windows alone (X/Open Curses Issue 7, the reference pages of the calls named): each is
-- the equation of the window library.
use Rattle.std.specs.Prelude.{ℕ, ℤ, ◌-◌, Bool, true, false, bit_and, bit_or}
use Rattle.cur_drawing.specs.declared.cells.Attrs.{Attrs}
use Rattle.cur_drawing.specs.declared.puts.Put.{Put}
use Rattle.cur_drawing.specs.Calls as call
use Rattle.cur_drawing.specs.Windows as window
use Rattle.cur_windows.specs.Desks.{State, DeskStep, on_cursor, on_grid, on_window, set, unchanged}
use Rattle.cur_windows.specs.Creations as make
use Rattle.cur_pads.specs.Creations as pads
use Rattle.cur_scripts.specs.declared.calls.Call.{Call}
use Rattle.cur_scripts.specs.declared.calls.Call.TheVariants.{Newwin, Newpad, Part, Dupwin, Plain}
use Rattle.cur_scripts.specs.declared.calls.Call.TheVariants.{Number, Numbers, Flag}
use Rattle.cur_scripts.specs.declared.calls.Call.TheVariants.{Attributes, Cell, Addstr, Line, DrawBorder, DrawBox, Lay}
use Rattle.cur_scripts.specs.declared.calls.Call.TheVariants.{Copywin, Show, ShowPad, Screen, CursSet, InitPair}
use Rattle.cur_scripts.specs.declared.groups.PartCall.{PartCall}
use Rattle.cur_scripts.specs.declared.groups.PartCall.TheVariants.{Subwin, Derwin, Subpad}
use Rattle.cur_scripts.specs.declared.groups.PlainCall.{PlainCall}
use Rattle.cur_scripts.specs.declared.groups.PlainCall.TheVariants.{Delwin, Delch, Insertln, Deleteln}
use Rattle.cur_scripts.specs.declared.groups.PlainCall.TheVariants.{Clrtoeol, Clrtobot}
use Rattle.cur_scripts.specs.declared.groups.PlainCall.TheVariants.{Erase, Clear, Touchwin}
use Rattle.cur_scripts.specs.declared.groups.NumberCall.{NumberCall}
use Rattle.cur_scripts.specs.declared.groups.NumberCall.TheVariants.{Scroll, ColorSet}
use Rattle.cur_scripts.specs.declared.groups.NumbersCall.{NumbersCall}
use Rattle.cur_scripts.specs.declared.groups.NumbersCall.TheVariants.{Mvwin, Move, Setscrreg, Touchline}
use Rattle.cur_scripts.specs.declared.groups.FlagCall.{FlagCall}
use Rattle.cur_scripts.specs.declared.groups.FlagCall.TheVariants.{Scrollok, Leaveok, Clearok, Idlok}
use Rattle.cur_scripts.specs.declared.groups.AttrsCall.{AttrsCall}
use Rattle.cur_scripts.specs.declared.groups.AttrsCall.TheVariants.{Attron, Attroff, Attrset}
use Rattle.cur_scripts.specs.declared.groups.CellCall.{CellCall}
use Rattle.cur_scripts.specs.declared.groups.CellCall.TheVariants.{Addch, Insch, Bkgdset, Bkgd}
use Rattle.cur_scripts.specs.declared.groups.LineCall.{LineCall}
use Rattle.cur_scripts.specs.declared.groups.LineCall.TheVariants.{Hline, Vline}
use Rattle.cur_scripts.specs.declared.groups.LayCall.{LayCall}
use Rattle.cur_scripts.specs.declared.groups.LayCall.TheVariants.{Overlay, Overwrite}

abbrev pub part_step : PartCall → State → ℕ → ℕ → ℤ → ℤ → ℤ → ℤ → DeskStep
part_step Subwin d n w lines cols y x = make.subwin d n w lines cols y x
part_step Derwin d n w lines cols y x = make.derwin d n w lines cols y x
part_step Subpad d n w lines cols y x = pads.subpad d n w lines cols y x

-- the calls that need memory, which may be refused for the lack of it
abbrev pub takes_memory : Call → Bool
takes_memory (Newwin n lines cols y x) = true
takes_memory (Newpad n lines cols) = true
takes_memory (Part k n w lines cols y x) = false
takes_memory (Dupwin n w) = true
takes_memory (Plain k n) = false
takes_memory (Number k n x) = false
takes_memory (Numbers k n x y) = false
takes_memory (Flag k n on) = false
takes_memory (Attributes k n a) = false
takes_memory (Cell k n p) = false
takes_memory (Addstr n text) = false
takes_memory (Line k n p x) = false
takes_memory (DrawBorder n b) = false
takes_memory (DrawBox n v h) = false
takes_memory (Lay k from to) = false
takes_memory (Copywin skip from to from_row from_col row col last_row last_col) = false
takes_memory (Show k n) = false
takes_memory (ShowPad k n row col top left bottom right) = false
takes_memory (Screen k) = false
takes_memory (CursSet n) = false
takes_memory (InitPair p f b) = false

abbrev pub plain_step : PlainCall → State → ℕ → DeskStep
plain_step Delwin d n = make.delwin d n
plain_step Delch d n = on_grid d n call.delete_char
plain_step Insertln d n = on_grid d n call.insert_line
plain_step Deleteln d n = on_grid d n call.delete_line
plain_step Clrtoeol d n = on_grid d n call.clear_line
plain_step Clrtobot d n = on_grid d n call.clear_bottom
plain_step Erase d n = on_window d n call.erased
plain_step Clear d n = on_window d n call.cleared
plain_step Touchwin d n = unchanged d n

abbrev pub number_step : NumberCall → State → ℕ → ℤ → DeskStep
number_step Scroll d n k = on_grid d n (call.scroll_by k)
number_step ColorSet d n k = on_cursor d n (window.set_pair k)

abbrev pub numbers_step : NumbersCall → State → ℕ → ℤ → ℤ → DeskStep
numbers_step Mvwin d n y x = make.mvwin d n y x
numbers_step Move d n y x = on_cursor d n (window.move_to y x)
numbers_step Setscrreg d n top bottom = on_cursor d n (window.set_region top bottom)
numbers_step Touchline d n y count = unchanged d n

abbrev pub flag_step : FlagCall → State → ℕ → Bool → DeskStep
flag_step Scrollok d n on = set d n (λ w. record w { scrolls = on })
flag_step Leaveok d n on = set d n (λ w. record w { leaves = on })
flag_step Clearok d n on = set d n (λ w. record w { clears = on })
flag_step Idlok d n on = unchanged d n

abbrev pub attributes_step : AttrsCall → State → ℕ → Attrs → DeskStep
attributes_step Attron d n a = set d n (λ w. record w { attrs = record { 0 = bit_or w.attrs.0 a.0 } })
attributes_step Attroff d n a = set d n (λ w. record w { attrs = record { 0 = bit_and w.attrs.0 (255 - a.0) } })
attributes_step Attrset d n a = set d n (λ w. record w { attrs = a })

abbrev pub cell_step : CellCall → State → ℕ → Put → DeskStep
cell_step Addch d n p = on_window d n (call.added p)
cell_step Insch d n p = on_grid d n (call.insert_char p)
cell_step Bkgdset d n p = on_cursor d n (window.set_background p)
cell_step Bkgd d n p = on_window d n (call.change_background p)

abbrev pub line_step : LineCall → State → ℕ → Put → ℤ → DeskStep
line_step Hline d n p k = on_grid d n (call.horizontal p k)
line_step Vline d n p k = on_grid d n (call.vertical p k)

-- `overlay` skips spaces
abbrev pub skips : LayCall → Bool
skips Overlay = true
skips Overwrite = false
