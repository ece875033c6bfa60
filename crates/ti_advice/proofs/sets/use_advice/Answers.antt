use Rattle.std.proofs.Common.{Option, false, refl, subst}
use Rattle.ti_advice.specs.Sets.{IsSentAdvice, OfPlain}
use Rattle.ti_advice.specs.declared.advice.Advice.{Advice}
use Rattle.ti_advice.proofs.sets.use_advice.Goals as goal

pub returns-in-Some : goal.returns-in-Some
returns-in-Some c =
    OfPlain c.in-Some.found refl (subst (λ (found : Option Advice). IsSentAdvice c.args.entry.now c.args.set_use false found) c.in-Some.is c.in_ok-found.ensures)
