use Rattle.std.proofs.Common.{◌∙◌}
use Rattle.std.proofs.lemmas.List.{length-set}
use Rattle.ti_parm.specs.Value.{value_of}
use Rattle.terminfo_c.specs.Parameters.{value_given}
use Rattle.terminfo_c.proofs.Filled.{filled_more}
use Rattle.terminfo_c.proofs.parameters.from_given.Goals as goal

pub loop-place-preserved : goal.loop-place-preserved
loop-place-preserved c = record {
  len = length-set c.loop-place.params c.loop-place.place c.param_of.result ∙ c.loop-place.invariant.len;
  filled = filled_more value_of value_given c.loop-place.params c.args.given.now c.loop-place.place c.param_of.result _ c.loop-place.invariant.len c.requires c.loop-place-test.true c.param_of.ensures c.loop-place.invariant.filled;
}
