use Rattle.std.proofs.Common.{Bool, List, None, Option, subst, sym, true, ◌≡◌, ◌∙◌, ℕ}
use Rattle.std.specs.Option.{option_copied}
use Rattle.ti_faults.specs.Remedies.{IsSuggestion}
use Rattle.ti_repairs.specs.Advices.{MayAdvise}
use Rattle.ti_repairs.proofs.suggestions.advice.Goals as goal
use denote.Ref.{Bor}

-- nothing is suggested
pub returns-in-None-clause-found : goal.returns-in-None-clause-found
returns-in-None-clause-found c =
    subst (λ (may : Bool). MayAdvise may c.args.entry.now c.args.mended.now c.args.listed.now None) (sym c.if-not-may_suggest.false ∙ c.may_suggest.ensures)
    (subst (λ (o : Option (Bor (List ℕ))). IsSuggestion c.args.entry.now c.args.mended.now c.args.listed.now.cap (option_copied o)) c.in-None.is c.suggestion.ensures.found)
