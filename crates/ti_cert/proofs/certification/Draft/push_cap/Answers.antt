use Rattle.std.proofs.Common.{ℕ, ap, sym, ◌∙◌}
use Rattle.std.proofs.lemmas.Result.{on_ok_weaker}
use Rattle.ti_caps.specs.Entry.{string_at}
use Rattle.ti_cert.proofs.Drafts.{adds_cap, skips_cap}
use Rattle.ti_cert.proofs.certification.Draft.push_cap.Goals as goal

pub returns-then-not-is_checked : goal.returns-then-not-is_checked
returns-then-not-is_checked c = skips_cap c.args.entry.now c.args.first c.args.self.now (sym c.is_checked.ensures ∙ c.if-not-is_checked.true)

pub returns-in-Some : goal.returns-in-Some
returns-in-Some c = on_ok_weaker c.push_string.result
    (adds_cap c.args.entry.now c.args.first c.in-Some.string.now c.args.self.now c.push_string.new.self (sym c.is_checked.ensures ∙ c.if-not-is_checked.false) (sym (c.in-Some.ensures ∙ ap (λ (n : ℕ). string_at c.args.entry.now n) c.cap.ensures)))
    c.push_string.ensures
