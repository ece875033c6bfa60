use Rattle.std.proofs.Common.{◌≡◌, ◌++◌, ◌∙◌, List, ℕ, ap, subst, sym}
use Rattle.std.proofs.lemmas.Result.{IfOk-weaker}
use Rattle.std.specs.Str.{IsUtf8}
use Rattle.ti_files.specs.Shown.{shown}
use Rattle.ti_reports.proofs.ShownFacts.{shown_is_text}
use Rattle.ti_reports.proofs.texts.shown.Goals as goal

-- shown bytes are text, so that none of them is replaced
pub returns : goal.returns
returns c =
    let are : c.as_slice.result.now ≡ shown c.args.bytes.now = c.as_slice.ensures.value ∙ (c.in_ok-push_shown.ensures.shown ∙ ap (λ (front : List ℕ). front ++ shown c.args.bytes.now) c.new-text.ensures.items) in
    let is_text : IsUtf8 c.as_slice.result.now = subst (λ (bytes : List ℕ). IsUtf8 bytes) (sym are) (shown_is_text c.args.bytes.now c.are_bytes.ensures) in
    IfOk-weaker c.from_utf8_lossy.result _ _ (λ text same. same is_text ∙ are) c.from_utf8_lossy.ensures.ok
