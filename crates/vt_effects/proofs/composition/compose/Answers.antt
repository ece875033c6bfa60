use Rattle.vt_effects.proofs.Joins.{if_composed}
use Rattle.vt_effects.proofs.composition.compose.Goals as goal

pub returns-clause-both : goal.returns-clause-both
returns-clause-both c = if_composed c.args.first.now c.args.second.now c.composed.result c.composed.ensures
