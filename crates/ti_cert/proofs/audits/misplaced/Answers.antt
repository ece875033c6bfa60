use Rattle.std.proofs.Common.{IfSome, refl, subst}
use Rattle.ti_lines.specs.Heads.{IsAcscText}
use Rattle.ti_cert.specs.Audits.{HasPairs}
use Rattle.ti_cert.proofs.audits.misplaced.Goals as goal

pub returns-in-Ok-Some : goal.returns-in-Ok-Some
returns-in-Ok-Some c = HasPairs c.in-Ok-Some.field-0-0.items (subst (λ o. IfSome o (λ b. IsAcscText c.args.text.now b.items)) c.in-Ok-Some.field-0-is c.in-Ok-Some.ensures.found) refl
