-- No call changes the size of the desk or of the virtual screen.
use Rattle.std.proofs.Common.{◌≡◌, ℕ, ◌-◌, Bool, Option, Some, None, Result, Ok, Err, refl}
use Rattle.std.specs.Prelude.{ℤ, bit_and, bit_or}
use Rattle.cur_drawing.specs.declared.cells.Attrs.{Attrs}
use Rattle.cur_drawing.specs.declared.puts.Put.{Put}
use Rattle.cur_drawing.specs.declared.refusals.Refusal.{Refusal}
use Rattle.cur_drawing.specs.declared.refusals.Refusal.TheVariants.{OutOfScreen, OutOfWindow}
use Rattle.cur_drawing.specs.Calls as call
use Rattle.cur_drawing.specs.Calls.{Canvas, CanvasStep}
use Rattle.cur_drawing.specs.Windows.{WindowStep}
use Rattle.cur_drawing.specs.Windows as window
use Rattle.cur_drawing.specs.declared.windows.Window.{Window}
use Rattle.cur_drawing.specs.Spans.{area_within, start_within}
use Rattle.cur_screens.specs.declared.slots.Slot.{Slot}
use Rattle.cur_drawing.specs.declared.spans.CopySpan.{CopySpan}
use Rattle.cur_windows.specs.Desks.{State, DeskStep, after, slot_of, on_cursor, on_grid, on_window, unchanged}
use Rattle.cur_windows.specs.Creations as make
use Rattle.cur_windows.specs.Copies as copy
use Rattle.cur_pads.specs.Creations as pads
use Rattle.cur_scripts.specs.declared.calls.Call.{Call}
use Rattle.cur_scripts.specs.declared.calls.Call.TheVariants.{Newwin, Newpad, Part, Dupwin, Plain, Number, Numbers, Flag, Attributes, Cell, Addstr, Line, DrawBorder, DrawBox, Lay, Copywin}
use Rattle.cur_scripts.specs.declared.groups.PartCall.{PartCall}
use Rattle.cur_scripts.specs.declared.groups.PartCall.TheVariants.{Subwin, Derwin, Subpad}
use Rattle.cur_scripts.specs.declared.groups.PlainCall.{PlainCall}
use Rattle.cur_scripts.specs.declared.groups.PlainCall.TheVariants.{Delwin, Delch, Insertln, Deleteln, Clrtoeol, Clrtobot, Erase, Clear, Touchwin}
use Rattle.cur_scripts.specs.declared.groups.NumberCall.{NumberCall}
use Rattle.cur_scripts.specs.declared.groups.NumberCall.TheVariants.{Scroll, ColorSet}
use Rattle.cur_scripts.specs.declared.groups.NumbersCall.{NumbersCall}
use Rattle.cur_scripts.specs.declared.groups.NumbersCall.TheVariants.{Mvwin, Move, Setscrreg, Touchline}
use Rattle.cur_scripts.specs.declared.groups.FlagCall.{FlagCall}
use Rattle.cur_scripts.specs.declared.groups.FlagCall.TheVariants.{Scrollok, Leaveok, Clearok, Idlok}
use Rattle.cur_scripts.specs.declared.groups.AttrsCall.{AttrsCall}
use Rattle.cur_scripts.specs.declared.groups.AttrsCall.TheVariants.{Attron, Attroff, Attrset}
use Rattle.cur_scripts.specs.declared.groups.CellCall.{CellCall}
use Rattle.cur_scripts.specs.declared.groups.CellCall.TheVariants.{Addch, Insch, Bkgdset, Bkgd}
use Rattle.cur_scripts.specs.declared.groups.LineCall.{LineCall}
use Rattle.cur_scripts.specs.declared.groups.LineCall.TheVariants.{Hline, Vline}
use Rattle.cur_play.specs.Windows.{part_step, plain_step, number_step, numbers_step, flag_step, attributes_step, cell_step, line_step, skips}
use Rattle.cur_play.specs.Groups.{making, changing}

pub record IsSized (d : State) (x : DeskStep) : Type 0 where
  pub rows : x.0.rows ≡ d.rows
  pub cols : x.0.cols ≡ d.cols

after_sized : {A : Type 0} (r : Result A Refusal) (d : State) (next : A → DeskStep) → ((a : A) → IsSized d (next a)) → IsSized d (after r d next)
after_sized (Ok a) d next h = h a
after_sized (Err e) d next h = record { rows = refl; cols = refl }

window_sized : (d : State) (n : ℕ) (act : Canvas → CanvasStep) → IsSized d (on_window d n act)
window_sized d n act = after_sized (slot_of d n) d _ (λ s. record { rows = refl; cols = refl })

grid_sized : (d : State) (n : ℕ) (act : Canvas → CanvasStep) → IsSized d (on_grid d n act)
grid_sized d n act = after_sized (slot_of d n) d _ (λ s. record { rows = refl; cols = refl })

cursor_sized : (d : State) (n : ℕ) (act : Window → WindowStep) → IsSized d (on_cursor d n act)
cursor_sized d n act = after_sized (slot_of d n) d _ (λ s. record { rows = refl; cols = refl })

unchanged_sized : (d : State) (n : ℕ) → IsSized d (unchanged d n)
unchanged_sized d n = after_sized (slot_of d n) d _ (λ s. record { rows = refl; cols = refl })

subwindow_sized : (d : State) (n w : ℕ) (s : Slot) (lines cols y x : ℤ) → IsSized d (make.subwindow_at d n w s lines cols y x)
subwindow_sized d n w s lines cols y x = after_sized (area_within s.window.area.rows s.window.area.cols lines cols y x OutOfWindow) d _ (λ a. record { rows = refl; cols = refl })

newwin_sized : (d : State) (n : ℕ) (lines cols y x : ℤ) → IsSized d (make.newwin d n lines cols y x)
newwin_sized d n lines cols y x = after_sized (make.free d n) d _ (λ u. after_sized (area_within d.rows d.cols lines cols y x OutOfScreen) d _ (λ a. record { rows = refl; cols = refl }))

newpad_sized : (d : State) (n : ℕ) (lines cols : ℤ) → IsSized d (pads.newpad d n lines cols)
newpad_sized d n lines cols = after_sized (make.free d n) d _ (λ u. after_sized (pads.both_sides (pads.side lines) (pads.side cols)) d _ (λ a. record { rows = refl; cols = refl }))

dupwin_sized : (d : State) (n w : ℕ) → IsSized d (make.dupwin d n w)
dupwin_sized d n w = after_sized (make.in_range n w) d _ (λ u. after_sized (make.free d n) d _ (λ v. after_sized (slot_of d w) d _ (λ s. record { rows = refl; cols = refl })))

part_sized : (k : PartCall) (d : State) (n w : ℕ) (lines cols y x : ℤ) → IsSized d (part_step k d n w lines cols y x)
part_sized Subwin d n w lines cols y x = after_sized (make.in_range n w) d _ (λ u. after_sized (make.free d n) d _ (λ v. after_sized (slot_of d w) d _ (λ s. after_sized (make.window_only d s) d _ (λ o. subwindow_sized d n w s lines cols _ _))))
part_sized Derwin d n w lines cols y x = after_sized (make.in_range n w) d _ (λ u. after_sized (make.free d n) d _ (λ v. after_sized (slot_of d w) d _ (λ s. after_sized (make.window_only d s) d _ (λ o. subwindow_sized d n w s lines cols y x))))
part_sized Subpad d n w lines cols y x = after_sized (make.in_range n w) d _ (λ u. after_sized (make.free d n) d _ (λ v. after_sized (pads.pad_of d w) d _ (λ s. subwindow_sized d n w s lines cols y x)))

-- the step of a call, if it has one, keeps the sizes
abbrev pub MaySize : State → Option DeskStep → Type 0
MaySize d (Some x) = IsSized d x
MaySize d None = Unit {0}

pub making_sized : (d : State) (k : Call) → MaySize d (making d k)
making_sized d (Newwin n lines cols y x) = newwin_sized d n lines cols y x
making_sized d (Newpad n lines cols) = newpad_sized d n lines cols
making_sized d (Part k n w lines cols y x) = part_sized k d n w lines cols y x
making_sized d (Dupwin n w) = dupwin_sized d n w
making_sized d _ = tt

delwin_sized : (d : State) (n : ℕ) → IsSized d (make.delwin d n)
delwin_sized d n = after_sized (slot_of d n) d _ (λ s. after_sized (make.childless d n) d _ (λ u. record { rows = refl; cols = refl }))

plain_sized : (k : PlainCall) (d : State) (n : ℕ) → IsSized d (plain_step k d n)
plain_sized Delwin d n = delwin_sized d n
plain_sized Delch d n = grid_sized d n call.delete_char
plain_sized Insertln d n = grid_sized d n call.insert_line
plain_sized Deleteln d n = grid_sized d n call.delete_line
plain_sized Clrtoeol d n = grid_sized d n call.clear_line
plain_sized Clrtobot d n = grid_sized d n call.clear_bottom
plain_sized Erase d n = window_sized d n call.erased
plain_sized Clear d n = window_sized d n call.cleared
plain_sized Touchwin d n = unchanged_sized d n

number_sized : (k : NumberCall) (d : State) (n : ℕ) (x : ℤ) → IsSized d (number_step k d n x)
number_sized Scroll d n x = grid_sized d n (call.scroll_by x)
number_sized ColorSet d n x = cursor_sized d n (window.set_pair x)

moved_sized : (d : State) (s : Slot) (y x : Option ℕ) → IsSized d (make.moved d s y x)
moved_sized d s (Some y) (Some x) = record { rows = refl; cols = refl }
moved_sized d s (Some y) None = record { rows = refl; cols = refl }
moved_sized d s None x = record { rows = refl; cols = refl }

numbers_sized : (k : NumbersCall) (d : State) (n : ℕ) (x y : ℤ) → IsSized d (numbers_step k d n x y)
numbers_sized Mvwin d n y x = after_sized (slot_of d n) d _ (λ s. after_sized (make.window_only d s) d _ (λ u. after_sized (make.no_sub s.parent) d _ (λ v. moved_sized d s (start_within y s.window.area.rows d.rows) (start_within x s.window.area.cols d.cols))))
numbers_sized Move d n y x = cursor_sized d n (window.move_to y x)
numbers_sized Setscrreg d n y x = cursor_sized d n (window.set_region y x)
numbers_sized Touchline d n y x = unchanged_sized d n

flag_sized : (k : FlagCall) (d : State) (n : ℕ) (on : Bool) → IsSized d (flag_step k d n on)
flag_sized Scrollok d n on = cursor_sized d n (λ w. (record w { scrolls = on }, Ok tt))
flag_sized Leaveok d n on = cursor_sized d n (λ w. (record w { leaves = on }, Ok tt))
flag_sized Clearok d n on = cursor_sized d n (λ w. (record w { clears = on }, Ok tt))
flag_sized Idlok d n on = unchanged_sized d n

attributes_sized : (k : AttrsCall) (d : State) (n : ℕ) (a : Attrs) → IsSized d (attributes_step k d n a)
attributes_sized Attron d n a = cursor_sized d n (λ w. (record w { attrs = record { 0 = bit_or w.attrs.0 a.0 } }, Ok tt))
attributes_sized Attroff d n a = cursor_sized d n (λ w. (record w { attrs = record { 0 = bit_and w.attrs.0 (255 - a.0) } }, Ok tt))
attributes_sized Attrset d n a = cursor_sized d n (λ w. (record w { attrs = a }, Ok tt))

cell_sized : (k : CellCall) (d : State) (n : ℕ) (p : Put) → IsSized d (cell_step k d n p)
cell_sized Addch d n p = window_sized d n (call.added p)
cell_sized Insch d n p = grid_sized d n (call.insert_char p)
cell_sized Bkgdset d n p = cursor_sized d n (window.set_background p)
cell_sized Bkgd d n p = window_sized d n (call.change_background p)

line_sized : (k : LineCall) (d : State) (n : ℕ) (p : Put) (x : ℤ) → IsSized d (line_step k d n p x)
line_sized Hline d n p x = grid_sized d n (call.horizontal p x)
line_sized Vline d n p x = grid_sized d n (call.vertical p x)

copied_sized : (r : Result (Unit {0}) Refusal) (d : State) (s u : Slot) (skip : Bool) (v h : Option CopySpan) → IsSized d (copy.copied_or r d s u skip v h)
copied_sized r d s u skip (Some v) (Some h) = record { rows = refl; cols = refl }
copied_sized r d s u skip (Some v) None = record { rows = refl; cols = refl }
copied_sized r d s u skip None h = record { rows = refl; cols = refl }

lay_sized : (skip : Bool) (d : State) (n m : ℕ) → IsSized d (copy.common_part skip d n m)
lay_sized skip d n m = after_sized (make.in_range n m) d _ (λ u. after_sized (slot_of d n) d _ (λ s. after_sized (slot_of d m) d _ (λ t. after_sized (make.window_only d s) d _ (λ v. after_sized (make.window_only d t) d _ (λ w. copied_sized (Ok tt) d s t skip _ _)))))

copy_sized : (d : State) (n m : ℕ) (sr sc dr dc er ec : ℤ) (skip : Bool) → IsSized d (copy.copywin d n m sr sc dr dc er ec skip)
copy_sized d n m sr sc dr dc er ec skip = after_sized (make.in_range n m) d _ (λ u. after_sized (slot_of d n) d _ (λ s. after_sized (slot_of d m) d _ (λ t. after_sized (copy.in_order dr er dc ec) d _ (λ v. copied_sized (Err OutOfWindow) d s t skip _ _))))

pub changing_sized : (d : State) (k : Call) → MaySize d (changing d k)
changing_sized d (Plain k n) = plain_sized k d n
changing_sized d (Number k n x) = number_sized k d n x
changing_sized d (Numbers k n x y) = numbers_sized k d n x y
changing_sized d (Flag k n on) = flag_sized k d n on
changing_sized d (Attributes k n a) = attributes_sized k d n a
changing_sized d (Cell k n p) = cell_sized k d n p
changing_sized d (Addstr n text) = window_sized d n (call.added_all text)
changing_sized d (Line k n p x) = line_sized k d n p x
changing_sized d (DrawBorder n b) = grid_sized d n (call.bordered b)
changing_sized d (DrawBox n v h) = grid_sized d n (call.bordered (call.box_of v h))
changing_sized d (Lay k s t) = lay_sized (skips k) d s t
changing_sized d (Copywin skip s t from_row from_col row col last_row last_col) = copy_sized d s t from_row from_col row col last_row last_col skip
changing_sized d _ = tt
