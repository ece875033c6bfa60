use Rattle.std.proofs.Common.{[], ℕ, IfOk, Result, length, inl, inr, refl, subst, sym}
use Rattle.cur_drawing.specs.Calls as calls
use Rattle.cur_drawing.specs.declared.refusals.Refusal.{Refusal}
use Rattle.cur_drawing.proofs.Stability as staying
use Rattle.cur_screens.specs.declared.slots.Slot.{Slot}
use Rattle.cur_screens.specs.Touched.{AreTouched, FitsLine, IsTouched}
use Rattle.cur_windows.specs.TouchedWindows.{MarksCellsAlone}
use Rattle.cur_windows.proofs.CellFacts.{StaysInLine, alone_cells, text_stays, touched_cells, written_cells}
use Rattle.cur_windows.proofs.Closures.{closes_canvas}
use Rattle.cur_windows.proofs.TouchedFacts.{touched_by, written_by}
use Rattle.cur_windows.proofs.WrittenLines as writing
use Rattle.cur_windows.proofs.desks.Desk.addstr_marked.Goals as goal

pub invariant_of-self : goal.invariant_of-self
invariant_of-self c = closes_canvas _ _ c.args.id _ _ _ _ c.self.view_is c.self.invariant c.in_ok-slot.ensures.there c.index_mut-grid.ensures.value c.add_all-answer.ensures.kept

pub returns-clause-touched : goal.returns-clause-touched
returns-clause-touched c = elim c.touch_text.ensures.touched [
  | inl cells ↦ (let fits = c.start_of_text-start.ensures.cells cells.0 in
      touched_cells _ _ [] c.args.id _ _ _ _ _ _ _ c.start_of_text-start.result.cells
      (subst (StaysInLine _ _) (sym fits.1) (text_stays c.args.text.now _ _ fits.0 c.add_all-answer.ensures.value)) c.self.view_is c.self.invariant c.in_ok-slot.ensures.placed c.index_mut-grid.ensures.value c.add_all-answer.ensures.kept c.origin_of-origin.ensures.value
      (subst (λ (n : ℕ). AreTouched c.args.touched.now c.touch_text.new.touched (record c.in_ok-slot.slot { window = c.add_all-answer.new.self }) c.origin_of-origin.result n c.start_of_text-start.result.cells) c.start_of_text-start.ensures.col cells.1))
  | inr is ↦ touched_by _ _ [] c.args.id _ _ _ _ _ _ _ (calls.added_all c.args.text.now) c.add_all-answer.result (writing.added_all c.args.text.now) (staying.added_all c.args.text.now) c.self.view_is c.self.invariant c.in_ok-slot.ensures.placed c.index_mut-grid.ensures.value c.add_all-answer.ensures.value c.add_all-answer.ensures.kept c.origin_of-origin.ensures.value
      (subst (λ (n : ℕ). IsTouched c.args.touched.now c.touch_text.new.touched (record c.in_ok-slot.slot { window = c.add_all-answer.new.self }) c.origin_of-origin.result n) c.start_of_text-start.ensures.row is)
]

pub returns-clause-only : goal.returns-clause-only
returns-clause-only c = elim c.touch_text.ensures.touched [
  | inl cells ↦ (let fits = c.start_of_text-start.ensures.cells cells.0 in
      written_cells _ _ _ c.args.id _ _ _ _ _ _ _ c.start_of_text-start.result.cells
      (subst (StaysInLine _ _) (sym fits.1) (text_stays c.args.text.now _ _ fits.0 c.add_all-answer.ensures.value)) c.self.view_is c.self.invariant c.in_ok-slot.ensures.there c.in_ok-slot.ensures.value refl c.origin_of-origin.ensures.value
      (subst (λ (n : ℕ). AreTouched c.args.touched.now c.touch_text.new.touched (record c.in_ok-slot.slot { window = c.add_all-answer.new.self }) c.origin_of-origin.result n c.start_of_text-start.result.cells) c.start_of_text-start.ensures.col cells.1))
  | inr is ↦ written_by _ _ _ c.args.id _ _ _ _ _ c.self.view_is c.self.invariant c.in_ok-slot.ensures.there c.in_ok-slot.ensures.value refl c.origin_of-origin.ensures.value
      (subst (λ (n : ℕ). IsTouched c.args.touched.now c.touch_text.new.touched (record c.in_ok-slot.slot { window = c.add_all-answer.new.self }) c.origin_of-origin.result n) c.start_of_text-start.ensures.row is)
]

pub returns-clause-cells : goal.returns-clause-cells
returns-clause-cells c = subst (λ (r : Result Slot Refusal). IfOk r (λ s. FitsLine s.window c.args.text.now → MarksCellsAlone c.args.touched.now c.touch_text.new.touched c.args.self.now s (length c.args.text.now))) c.in_ok-slot.ensures.value (λ is.
    let fits = c.start_of_text-start.ensures.exact is in
    alone_cells c.args.self.now c.in_ok-slot.slot _ _ _ _ _ _ _ _ (length c.args.text.now) (text_stays c.args.text.now _ _ is c.add_all-answer.ensures.value) c.origin_of-origin.ensures.value c.start_of_text-start.ensures.col (c.start_of_text-start.ensures.cells fits).1 (c.touch_text.ensures.cells fits))
