use Rattle.std.proofs.Common.{Bool, sym, subst, ◌∙◌}
use Rattle.std.specs.Option.{option_copied}
use Rattle.ti_verdicts.specs.Remedies.{IsSuggestedBy}
use Rattle.ti_verdicts.proofs.remedies.suggested.Goals as goal

-- the faults show no terminal of another kind
pub returns-else-is_of_another_kind-clause-judged : goal.returns-else-is_of_another_kind-clause-judged
returns-else-is_of_another_kind-clause-judged c =
    subst (λ (b : Bool). IsSuggestedBy b c.args.faulty.now.entry.now c.args.faulty.now.mended.now c.args.cap (option_copied c.suggestion.result))
    (sym c.if-is_of_another_kind.false ∙ c.is_of_another_kind.ensures) c.suggestion.ensures.found
