use Rattle.std.proofs.Common.{[], ℕ, IfOk, OnOk, Result, inl, inr, refl, subst, sym}
use Rattle.cur_drawing.specs.Calls as calls
use Rattle.cur_drawing.specs.declared.refusals.Refusal.{Refusal}
use Rattle.cur_drawing.proofs.RefusalFacts as refusing
use Rattle.cur_drawing.proofs.Stability as staying
use Rattle.cur_screens.specs.declared.slots.Slot.{Slot}
use Rattle.cur_screens.specs.Touched.{AreTouched, IsOneCell, IsTouched}
use Rattle.cur_windows.specs.TouchedWindows.{MarksCellsAlone}
use Rattle.cur_windows.proofs.CellFacts.{StaysInLine, alone_cells, put_answers, put_stays, touched_cells, written_cells}
use Rattle.cur_windows.proofs.Closures.{closes_canvas}
use Rattle.cur_windows.proofs.TouchedFacts.{left_by, left_unmarked, touched_by, written_by}
use Rattle.cur_windows.proofs.WrittenLines as writing
use Rattle.cur_windows.proofs.desks.Desk.add_any.Goals as goal

pub invariant_of-self : goal.invariant_of-self
invariant_of-self c = closes_canvas _ _ c.args.id _ _ _ _ c.self.view_is c.self.invariant c.in_ok-slot.ensures.there c.index_mut-grid.ensures.value c.add-answer.ensures.kept

pub returns-clause-marks : goal.returns-clause-marks
returns-clause-marks c = record {
  touched = elim c.touch_written.ensures.touched [
    | inl cells ↦ (let one = c.start_of-start.ensures.one cells.0 in
        touched_cells _ _ [] c.args.id _ _ _ _ _ _ _ c.start_of-start.result.cells
        (subst (StaysInLine _ _) (sym one.1) (put_stays c.args.put _ _ one.0 c.add-answer.ensures.value)) c.self.view_is c.self.invariant c.in_ok-slot.ensures.placed c.index_mut-grid.ensures.value c.add-answer.ensures.kept c.origin_of-origin.ensures.value
        (subst (λ (n : ℕ). AreTouched c.args.touched.now c.touch_written.new.touched (record c.in_ok-slot.slot { window = c.add-answer.new.self }) c.origin_of-origin.result n c.start_of-start.result.cells) c.start_of-start.ensures.col cells.1))
    | inr lines ↦ elim lines [
      | inl is ↦ touched_by _ _ [] c.args.id _ _ _ _ _ _ _ (calls.added c.args.put) c.add-answer.result (writing.added c.args.put) (staying.added c.args.put) c.self.view_is c.self.invariant c.in_ok-slot.ensures.placed c.index_mut-grid.ensures.value c.add-answer.ensures.value c.add-answer.ensures.kept c.origin_of-origin.ensures.value
          (subst (λ (n : ℕ). IsTouched c.args.touched.now c.touch_written.new.touched (record c.in_ok-slot.slot { window = c.add-answer.new.self }) c.origin_of-origin.result n) c.start_of-start.ensures.row is)
      | inr left ↦ left_by _ _ [] c.args.id _ _ _ _ _ _ (calls.added c.args.put) c.add-answer.result (refusing.added c.args.put) c.self.view_is c.self.invariant c.in_ok-slot.ensures.placed c.index_mut-grid.ensures.value c.add-answer.ensures.value left
    ]
  ];
  only = elim c.touch_written.ensures.touched [
    | inl cells ↦ (let one = c.start_of-start.ensures.one cells.0 in
        written_cells _ _ _ c.args.id _ _ _ _ _ _ _ c.start_of-start.result.cells
        (subst (StaysInLine _ _) (sym one.1) (put_stays c.args.put _ _ one.0 c.add-answer.ensures.value)) c.self.view_is c.self.invariant c.in_ok-slot.ensures.there c.in_ok-slot.ensures.value refl c.origin_of-origin.ensures.value
        (subst (λ (n : ℕ). AreTouched c.args.touched.now c.touch_written.new.touched (record c.in_ok-slot.slot { window = c.add-answer.new.self }) c.origin_of-origin.result n c.start_of-start.result.cells) c.start_of-start.ensures.col cells.1))
    | inr lines ↦ elim lines [
      | inl is ↦ written_by _ _ _ c.args.id _ _ _ _ _ c.self.view_is c.self.invariant c.in_ok-slot.ensures.there c.in_ok-slot.ensures.value refl c.origin_of-origin.ensures.value
          (subst (λ (n : ℕ). IsTouched c.args.touched.now c.touch_written.new.touched (record c.in_ok-slot.slot { window = c.add-answer.new.self }) c.origin_of-origin.result n) c.start_of-start.ensures.row is)
      | inr left ↦ left_unmarked _ _ c.args.id _ _ c.add-answer.result left
    ]
  ];
  cells = subst (λ (r : Result Slot Refusal). IfOk r (λ s. IsOneCell s.window c.args.put → MarksCellsAlone c.args.touched.now c.touch_written.new.touched c.args.self.now s 1)) c.in_ok-slot.ensures.value (λ is.
      let fits = c.start_of-start.ensures.exact is in
      alone_cells c.args.self.now c.in_ok-slot.slot _ _ _ _ _ _ _ _ 1 (put_stays c.args.put _ _ is c.add-answer.ensures.value) c.origin_of-origin.ensures.value c.start_of-start.ensures.col (c.start_of-start.ensures.one fits).1
      (subst (λ (r : Result (Unit {0}) Refusal). OnOk r (AreTouched c.args.touched.now c.touch_written.new.touched (record c.in_ok-slot.slot { window = c.add-answer.new.self }) c.origin_of-origin.result c.start_of-start.result.col c.start_of-start.result.cells))
      (put_answers c.args.put _ _ is c.add-answer.ensures.value) (c.touch_written.ensures.cells fits)));
  refused = c.touch_written.ensures.refused;
}
