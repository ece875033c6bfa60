use Rattle.std.proofs.Common.{List, ℕ, refl, subst}
use Rattle.ti_advice.specs.Deeds.{DoesAsMeant, Right}
use Rattle.ti_advice.proofs.deeds.own_judged.Goals as goal

pub returns-then-branch : goal.returns-then-branch
returns-then-branch c =
    Right (subst (λ (own : List ℕ). DoesAsMeant c.args.entry.now c.args.duty own) c.as_slice.ensures.value (c.in_ok-does_as_meant.ensures.meant c.if-branch.true)) refl
