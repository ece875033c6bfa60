use Rattle.std.proofs.Common.{refl, subst, sym}
use Rattle.ti_steps.proofs.StepFacts.{HaveSteps, steps_next}
use Rattle.ti_steps.specs.Steps.{AreSteps}
use Rattle.ti_fixes.specs.declared.files.Texts.{Texts}
use Rattle.ti_rounds.proofs.rounds.after_rounds.Goals.{in-Done, in-Unplaced+in_ok-push-in-Unplaced}
use Rattle.ti_rounds.proofs.rounds.after_rounds.Goals as goal

pub loop-round-init : goal.loop-round-init
loop-round-init g c = record { steps = AreSteps.NoStep; whole = c.requires.whole; fit = c.requires.fit; many = refl }

-- another step, or the same files
pub loop-round-preserved : goal.loop-round-preserved
loop-round-preserved g c =
    let before : HaveSteps (g.A.Adviser.finds c.args.adviser.now) c.args.source c.loop-round.texts = record {
      steps = c.loop-round.invariant.steps;
      whole = c.loop-round.invariant.whole;
      fit = c.loop-round.invariant.fit;
      many = c.loop-round.invariant.many;
    } in
    let after : HaveSteps (g.A.Adviser.finds c.args.adviser.now) c.args.source c.match-branch-2.texts = elim c.match-branch-2.branch [
      | in-Done w ↦ subst (λ (t : Texts). HaveSteps (g.A.Adviser.finds c.args.adviser.now) c.args.source t) (sym w.texts-is)
          (steps_next (g.A.Adviser.finds c.args.adviser.now) c.args.source c.loop-round.texts w.in-Done.next c.in_ok-next.field-0 w.in-Done.is c.in_ok-next.ensures before)
      | in-Unplaced+in_ok-push-in-Unplaced w ↦ subst (λ (t : Texts). HaveSteps (g.A.Adviser.finds c.args.adviser.now) c.args.source t) (sym w.texts-is) before
    ] in
    record { steps = after.steps; whole = after.whole; fit = after.fit; many = after.many }
