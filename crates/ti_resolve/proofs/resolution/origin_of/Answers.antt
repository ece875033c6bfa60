use Rattle.std.proofs.Common.{sym}
use Rattle.std.proofs.lemmas.Result.{IfOk-weaker}
use Rattle.ti_resolve.proofs.OriginFacts.{gives_value}
use Rattle.ti_resolve.proofs.Told.{told_fails}
use Rattle.ti_resolve.proofs.Whole.{walk_none, walk_named}
use Rattle.ti_resolve.proofs.resolution.origin_of.Goals as goal

pub returns-in-Some-clause-value : goal.returns-in-Some-clause-value
returns-in-Some-clause-value c =
    IfOk-weaker c.origin_from.result _ _ (λ found gives. gives_value c.args.index.now.raws.now c.args.name.now c.in-Some.root c.args.cap found (sym c.in-Some.ensures.value) gives) c.origin_from.ensures.value

pub returns-in-Some-clause-walk : goal.returns-in-Some-clause-walk
returns-in-Some-clause-walk c = walk_named c.args.index.now.raws.now c.args.name.now c.in-Some.root c.origin_from.result c.in-Some.ensures.value c.origin_from.ensures.walk

pub returns-in-None-clause-walk : goal.returns-in-None-clause-walk
returns-in-None-clause-walk c = told_fails _ _ _ c.no_such_entry.ensures (walk_none c.args.index.now.raws.now c.args.name.now c.in-None.ensures.value)
