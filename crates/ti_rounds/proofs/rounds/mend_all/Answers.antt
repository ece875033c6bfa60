use Rattle.std.proofs.Common.{List, ◌∙◌, map, subst}
use Rattle.std.specs.List.{AllByRecursion}
use Rattle.ti_steps.proofs.StepFacts.{steps_none}
use Rattle.ti_fixes.specs.Files.{sheets}
use Rattle.ti_steps.specs.Mended.{AreWanted}
use Rattle.ti_steps.specs.Reasons.{IsKept}
use Rattle.ti_source.specs.declared.types.RawEntry.{RawEntry}
use Rattle.ti_rounds.proofs.rounds.mend_all.Goals as goal

pub returns-clause-mended : goal.returns-clause-mended
returns-clause-mended g c = record {
  steps = c.in_ok-texts.ensures.steps;
  advised = subst (λ (raws : List RawEntry). AreWanted (g.A.Adviser.advises c.args.adviser.now) raws c.args.wanted (map (λ one. one.remedy) c.in_ok-kept.kept.items)) (c.as_slice.ensures.value ∙ c.in_ok-texts.ensures.whole) c.in_ok-kept.ensures.advised;
  reasons = subst (λ (raws : List RawEntry). AllByRecursion (IsKept (g.A.Adviser.finds c.args.adviser.now) raws) c.in_ok-kept.kept.items) (c.as_slice.ensures.value ∙ c.in_ok-texts.ensures.whole) c.in_ok-kept.ensures.reasons;
  right = λ right. steps_none (g.A.Adviser.finds c.args.adviser.now) (sheets c.args.source.files.items) (sheets c.in_ok-texts.field-0.texts.files.items) right c.in_ok-texts.ensures.steps;
}
