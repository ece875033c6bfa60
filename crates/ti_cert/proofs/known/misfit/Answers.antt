use Rattle.std.proofs.Common.{refl}
use Rattle.std.proofs.lemmas.Bool.{both_ways}
use Rattle.ti_cert.specs.Certificates.{Misdoes}
use Rattle.ti_cert.proofs.known.misfit.Goals as goal

pub returns-else-is_some_look : goal.returns-else-is_some_look
returns-else-is_some_look c = Misdoes (λ alone look. both_ways c.is_some_look.result c.if-is_some_look.false (c.is_some_look.ensures.no look)) refl
