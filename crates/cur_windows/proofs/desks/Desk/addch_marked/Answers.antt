use Rattle.std.proofs.Common.{[], IfOk, Option, Result, ap, refl, set, subst}
use Rattle.std.proofs.lemmas.Bool.{not-false}
use Rattle.cur_drawing.specs.declared.refusals.Refusal.{Refusal}
use Rattle.cur_screens.specs.declared.slots.Slot.{Slot}
use Rattle.cur_screens.specs.Touched.{IsOneCell}
use Rattle.cur_windows.specs.TouchedWindows.{MarksCellsAlone}
use Rattle.cur_windows.proofs.CellFacts.{alone_cells, put_stays, touched_cells, written_cells}
use Rattle.cur_windows.proofs.Closures.{closes_moved, column_set}
use Rattle.cur_windows.proofs.desks.Desk.addch_marked.Goals as goal

pub invariant_of-self : goal.invariant_of-self
invariant_of-self c =
    let is = column_set _ _ c.args.id _ _ _ _ c.self.view_is c.self.invariant c.in_ok-slot.ensures.there c.index_mut.ensures.value c.set_column.ensures in
    closes_moved _ _ c.args.id _ _ _ _ _ is c.self.view_is c.self.invariant c.in_ok-slot.ensures.there c.index_mut-grid.ensures.value c.put_next.ensures.kept

pub returns-clause-marks : goal.returns-clause-marks
returns-clause-marks c = record {
  touched =
      touched_cells _ _ [] c.args.id _ _ _ _ _ _ _ 1 (put_stays c.args.put _ _ (c.start_of-start.ensures.one (not-false _ c.if-not-start.false)).0 c.put_next.ensures.value)
      c.self.view_is c.self.invariant c.in_ok-slot.ensures.placed c.index_mut-grid.ensures.value c.put_next.ensures.kept c.origin_of-origin.ensures.value c.touch_cells.ensures;
  only =
      let is = column_set _ _ c.args.id _ _ _ _ c.self.view_is c.self.invariant c.in_ok-slot.ensures.there c.index_mut.ensures.value c.set_column.ensures in
      written_cells _ _ _ c.args.id _ _ _ _ _ _ _ 1 (put_stays c.args.put _ _ (c.start_of-start.ensures.one (not-false _ c.if-not-start.false)).0 c.put_next.ensures.value)
      c.self.view_is c.self.invariant c.in_ok-slot.ensures.there c.in_ok-slot.ensures.value (ap (λ (o : Option Slot). set c.self.inside.windows.items c.args.id o) is) c.origin_of-origin.ensures.value c.touch_cells.ensures;
  cells = subst (λ (r : Result Slot Refusal). IfOk r (λ s. IsOneCell s.window c.args.put → MarksCellsAlone c.args.touched.now c.touch_cells.new.touched c.args.self.now s 1)) c.in_ok-slot.ensures.value (λ is.
      alone_cells c.args.self.now c.in_ok-slot.slot _ _ _ _ _ _ _ _ 1 (put_stays c.args.put _ _ is c.put_next.ensures.value) c.origin_of-origin.ensures.value refl refl c.touch_cells.ensures);
  refused = tt;
}
