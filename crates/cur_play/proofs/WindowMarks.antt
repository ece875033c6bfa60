-- Calls that change the grid of one window, whose rectangle was marked.
use Rattle.std.proofs.Common.{◌≡◌, ℕ, ℤ, Option, Some, None, Result, refl}
use Rattle.cur_drawing.specs.declared.puts.Put.{Put}
use Rattle.cur_drawing.specs.declared.puts.Border.{Border}
use Rattle.cur_drawing.specs.declared.refusals.Refusal.{Refusal}
use Rattle.cur_drawing.specs.Calls as call
use Rattle.cur_drawing.proofs.Stability as staying
use Rattle.cur_windows.specs.Desks.{IsDesk, State, slot_of, step}
use Rattle.cur_screens.specs.Touched.{Markings}
use Rattle.cur_windows.specs.TouchedWindows.{KeepsShown, MarksWindow}
use Rattle.cur_windows.proofs.AreaMarks.{keeps_on_grid, keeps_on_window, keeps_untouched}
use Rattle.cur_windows.proofs.Shapes as shapes
use Rattle.cur_scripts.specs.declared.calls.Call.TheVariants.{Line, DrawBorder, DrawBox}
use Rattle.cur_scripts.specs.declared.groups.LineCall.{LineCall}
use Rattle.cur_scripts.specs.declared.groups.LineCall.TheVariants.{Hline, Vline}
use Rattle.cur_scripts.specs.declared.groups.PlainCall.{PlainCall}
use Rattle.cur_scripts.specs.declared.groups.PlainCall.TheVariants.{Delwin, Delch, Insertln, Deleteln, Clrtoeol, Clrtobot, Erase, Clear, Touchwin}
use Rattle.cur_play.specs.Groups.{Does}
use Rattle.cur_play.specs.Windows.{line_step, plain_step}
use Rattle.cur_play.specs.Groups.{shaping}

-- all plain calls but the one that deletes a window
pub keeps_plain : (t u : Markings) (k : PlainCall) (d e : State) (n : ℕ) (r : Result (Unit {0}) Refusal) → IsDesk d → (k ≡ Delwin → ⊥) → step e r ≡ plain_step k d n → MarksWindow t u d (slot_of d n) → KeepsShown t d u e
keeps_plain t u Delwin d e n r desk not is marks = absurd (not refl)
keeps_plain t u Delch d e n r desk not is marks = keeps_on_grid t u d e n call.delete_char r desk staying.delete_char shapes.delete_char is marks
keeps_plain t u Insertln d e n r desk not is marks = keeps_on_grid t u d e n call.insert_line r desk staying.insert_line shapes.insert_line is marks
keeps_plain t u Deleteln d e n r desk not is marks = keeps_on_grid t u d e n call.delete_line r desk staying.delete_line shapes.delete_line is marks
keeps_plain t u Clrtoeol d e n r desk not is marks = keeps_on_grid t u d e n call.clear_line r desk staying.clear_line shapes.clear_line is marks
keeps_plain t u Clrtobot d e n r desk not is marks = keeps_on_grid t u d e n call.clear_bottom r desk staying.clear_bottom shapes.clear_bottom is marks
keeps_plain t u Erase d e n r desk not is marks = keeps_on_window t u d e n call.erased r desk staying.erased shapes.erased is marks
keeps_plain t u Clear d e n r desk not is marks = keeps_on_window t u d e n call.cleared r desk staying.cleared shapes.cleared is marks
keeps_plain t u Touchwin d e n r desk not is marks = keeps_untouched t u d e n r desk is marks

keeps_line_step : (t u : Markings) (k : LineCall) (d e : State) (n : ℕ) (p : Put) (x : ℤ) (r : Result (Unit {0}) Refusal) → IsDesk d → step e r ≡ line_step k d n p x → MarksWindow t u d (slot_of d n) → KeepsShown t d u e
keeps_line_step t u Hline d e n p x r desk is marks = keeps_on_grid t u d e n (call.horizontal p x) r desk (staying.horizontal p x) (shapes.horizontal p x) is marks
keeps_line_step t u Vline d e n p x r desk is marks = keeps_on_grid t u d e n (call.vertical p x) r desk (staying.vertical p x) (shapes.vertical p x) is marks

pub keeps_line : (t u : Markings) (k : LineCall) (d e : State) (n : ℕ) (p : Put) (x : ℤ) (r : Option (Result (Unit {0}) Refusal)) → IsDesk d → Does d e r (shaping d (Line k n p x)) → MarksWindow t u d (slot_of d n) → KeepsShown t d u e
keeps_line t u k d e n p x (Some r) desk is marks = keeps_line_step t u k d e n p x r desk is marks
keeps_line t u k d e n p x None desk is marks = absurd is

pub keeps_border : (t u : Markings) (d e : State) (n : ℕ) (b : Border) (r : Option (Result (Unit {0}) Refusal)) → IsDesk d → Does d e r (shaping d (DrawBorder n b)) → MarksWindow t u d (slot_of d n) → KeepsShown t d u e
keeps_border t u d e n b (Some r) desk is marks = keeps_on_grid t u d e n (call.bordered b) r desk (staying.bordered b) (shapes.bordered b) is marks
keeps_border t u d e n b None desk is marks = absurd is

pub keeps_box : (t u : Markings) (d e : State) (n : ℕ) (v h : Put) (r : Option (Result (Unit {0}) Refusal)) → IsDesk d → Does d e r (shaping d (DrawBox n v h)) → MarksWindow t u d (slot_of d n) → KeepsShown t d u e
keeps_box t u d e n v h (Some r) desk is marks = keeps_on_grid t u d e n (call.bordered (call.box_of v h)) r desk (staying.bordered (call.box_of v h)) (shapes.bordered (call.box_of v h)) is marks
keeps_box t u d e n v h None desk is marks = absurd is
