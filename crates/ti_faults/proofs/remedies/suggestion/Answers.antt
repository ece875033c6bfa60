use Rattle.std.proofs.Common.{List, ℕ, Option, subst}
use Rattle.std.specs.Option.{option_copied}
use Rattle.ti_faults.specs.Remedies.{IsIfAccepted, OfChecked}
use Rattle.ti_faults.proofs.remedies.suggestion.Goals as goal

-- the string that is tried is the candidate
pub returns-in-Some-clause-found : goal.returns-in-Some-clause-found
returns-in-Some-clause-found c = OfChecked c.in-Some.row c.in-Some.ensures.found
    (subst (λ (o : Option (List ℕ)). IsIfAccepted c.args.entry.now c.args.mended.now c.in-Some.row o (option_copied c.accepted.result)) c.candidate.ensures.value c.accepted.ensures.found)
