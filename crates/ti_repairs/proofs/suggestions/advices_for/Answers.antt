use Rattle.std.proofs.Common.{List, [], ap, subst, sym, ◌∙◌, ◌≡◌}
use Rattle.ti_fixes.proofs.FileFacts.{none_of}
use Rattle.std.proofs.lemmas.Result.{IfOk-weaker}
use Rattle.ti_repairs.specs.Advices.{Advises, AreAdvices, all_listed}
use Rattle.ti_repairs.specs.declared.suggestions.Listed.{Listed}
use Rattle.ti_steps.specs.declared.advice.Finding.{Finding}
use Rattle.ti_repairs.proofs.suggestions.advices_for.Goals as goal

-- nothing is suggested for a terminal of another kind
pub returns-then-is_other-clause-advised : goal.returns-then-is_other-clause-advised
returns-then-is_other-clause-advised c = Advises.OtherKind c.args.nos.now c.requires (sym c.is_other.ensures ∙ c.if-is_other.true) c.new.ensures.items

-- nothing is listed
pub returns-then-is_empty-clause-advised : goal.returns-then-is_empty-clause-advised
returns-then-is_empty-clause-advised c =
    let none : c.in_ok-listed.listed.items ≡ [] = none_of c.in_ok-listed.listed.items c.in_ok-listed.listed.len c.in_ok-listed.listed.ok.0 (sym c.if-is_empty.true ∙ c.is_empty.ensures) in
    Advises.NoneListed c.args.nos.now c.requires c.in_ok-findings.findings.items c.in_ok-findings.ensures
    (sym (c.in_ok-listed.ensures ∙ ap (λ (findings : List Finding). all_listed c.args.nos.now findings) c.as_slice.ensures.value) ∙ none) c.new-then-is_empty.ensures.items

pub returns-clause-advised : goal.returns-clause-advised
returns-clause-advised c =
    IfOk-weaker c.all_advices.result _ _
    (λ advices h. Advises.Each c.args.nos.now c.requires (sym c.is_other.ensures ∙ c.if-is_other.false) c.in_ok-findings.findings.items c.in_ok-findings.ensures c.in_ok-mended.mended c.in_ok-mended.ensures
    (subst (λ (listed : List Listed). AreAdvices c.args.entry.now c.in_ok-mended.mended listed advices.items) (c.as_slice-2.ensures.value ∙ (c.in_ok-listed.ensures ∙ ap (λ (findings : List Finding). all_listed c.args.nos.now findings) c.as_slice.ensures.value)) h))
    c.all_advices.ensures.advised
