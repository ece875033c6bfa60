use Rattle.std.proofs.Common.{◌≡◌, ◌∙◌, List, ℕ, ap, subst, sym}
use Rattle.std.proofs.lemmas.Result.{IfOk-weaker}
use Rattle.std.specs.Str.{IsUtf8}
use Rattle.ti_source.specs.Escapes.{unescaped}
use Rattle.ti_source.specs.Prints.{string_text}
use Rattle.ti_reports.proofs.SpelledFacts.{string_is_text}
use Rattle.ti_reports.proofs.spellings.source_form.Goals as goal

-- the form is text, so that none of it is replaced
pub returns-clause-printed : goal.returns-clause-printed
returns-clause-printed c =
    let are : c.as_slice.result.now ≡ string_text c.args.string.now = c.as_slice.ensures.value ∙ c.in_ok-text.ensures.text in
    let is_text : IsUtf8 c.as_slice.result.now = subst (λ (bytes : List ℕ). IsUtf8 bytes) (sym are) (string_is_text c.args.string.now c.are_bytes.ensures) in
    IfOk-weaker c.from_utf8_lossy.result _ _ (λ text same. same is_text ∙ are) c.from_utf8_lossy.ensures.ok

pub returns-clause-reads : goal.returns-clause-reads
returns-clause-reads c =
    let are : c.as_slice.result.now ≡ string_text c.args.string.now = c.as_slice.ensures.value ∙ c.in_ok-text.ensures.text in
    let is_text : IsUtf8 c.as_slice.result.now = subst (λ (bytes : List ℕ). IsUtf8 bytes) (sym are) (string_is_text c.args.string.now c.are_bytes.ensures) in
    IfOk-weaker c.from_utf8_lossy.result _ _ (λ text same. ap unescaped (same is_text ∙ c.as_slice.ensures.value) ∙ c.in_ok-text.ensures.reads_back) c.from_utf8_lossy.ensures.ok
