use Rattle.std.proofs.Common.{Bool, subst}
use Rattle.ti_cert.specs.Seen.{AreFound}
use Rattle.ti_cert.proofs.Together.{all_found}
use Rattle.ti_cert.proofs.clashes.all_clashes.Goals as goal

pub returns : goal.returns
returns c = λ t found. all_found t c.args.facts.reach c.args.facts.changes.now c.args.facts.resync c.args.facts.smacs c.args.facts.escapes c.args.facts.has_acsc c.settled_of-settled.result c.clashes_of.result c.settled_of-settled.ensures
    (subst (λ (b : Bool). AreFound c.settled_of-settled.result c.args.facts.smacs c.args.facts.resync.rmacs b c.args.facts.escapes c.clashes_of.result) c.all_there-sent.ensures c.clashes_of.ensures) found
