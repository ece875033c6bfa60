use Rattle.std.proofs.Common.{Bool, subst}
use Rattle.ti_cert.specs.Clashes.{AreClashes}
use Rattle.ti_checker.proofs.switches.clashes_together.Goals as goal

pub returns : goal.returns
returns c = λ t h. subst (λ (b : Bool). AreClashes b t c.all_clashes.result) c.in_ok-all.ensures.pairs (c.all_clashes.ensures t (c.in_ok-all.ensures.found t h))
