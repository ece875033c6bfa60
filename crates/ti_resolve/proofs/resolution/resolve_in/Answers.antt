use Rattle.ti_resolve.proofs.Told.{told_fails}
use Rattle.ti_resolve.proofs.Whole.{walk_none, walk_named}
use Rattle.ti_resolve.proofs.resolution.resolve_in.Goals as goal

pub returns-in-Some-clause-walk : goal.returns-in-Some-clause-walk
returns-in-Some-clause-walk c = walk_named c.args.index.now.raws.now c.args.name.now c.in-Some.root c.resolve_from.result c.in-Some.ensures.value c.resolve_from.ensures.walk

pub returns-in-None-clause-walk : goal.returns-in-None-clause-walk
returns-in-None-clause-walk c = told_fails _ _ _ c.no_such_entry.ensures (walk_none c.args.index.now.raws.now c.args.name.now c.in-None.ensures.value)
