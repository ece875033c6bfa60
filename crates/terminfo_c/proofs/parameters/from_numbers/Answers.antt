use Rattle.std.proofs.Common.{◌∙◌}
use Rattle.std.proofs.lemmas.List.{length-set}
use Rattle.ti_parm.specs.Value.{Number, value_of}
use Rattle.terminfo_c.proofs.Filled.{filled_more}
use Rattle.terminfo_c.proofs.parameters.from_numbers.Goals as goal

pub loop-place-preserved : goal.loop-place-preserved
loop-place-preserved c = record {
  len = length-set c.loop-place.params c.loop-place.place c.param_for.result ∙ c.loop-place.invariant.len;
  filled = filled_more value_of (λ n. Number n) c.loop-place.params c.args.numbers.now c.loop-place.place c.param_for.result _ c.loop-place.invariant.len c.requires c.loop-place-test.true c.param_for.ensures c.loop-place.invariant.filled;
}
