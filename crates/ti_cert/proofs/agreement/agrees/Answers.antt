use Rattle.std.proofs.Common.{◌≡◌, refl}
use Rattle.std.proofs.lemmas.Result.{IfErr-weaker}
use Rattle.ti_cert.specs.Disagreements.{IsDisagreeing}
use Rattle.ti_cert.specs.declared.faults.AgreeFault.TheVariants.{NoMemory}
use Rattle.ti_cert.proofs.BasicAgreement.{table_for, none_disagrees}
use Rattle.ti_cert.proofs.Disagreements.{unfit_at}
use Rattle.ti_cert.proofs.agreement.agrees.Goals as goal

pub returns-in-Some-clause-disagrees : goal.returns-in-Some-clause-disagrees
returns-in-Some-clause-disagrees c = unfit_at c.args.table.now c.args.entry.now c.in-Some.why c.cap.result c.at_cap.result c.cap.ensures c.at_cap.ensures c.in-Some.ensures.some

pub returns-then-not-has_pairs-clause-basic : goal.returns-then-not-has_pairs-clause-basic
returns-then-not-has_pairs-clause-basic c = λ basic. absurd (c.if-not-has_pairs.ensures.differs refl (table_for c.args.entry.now c.args.table.now basic).pairs)

pub returns-clause-basic : goal.returns-clause-basic
returns-clause-basic c = λ basic. IfErr-weaker c.lines_agree.result (IsDisagreeing c.args.table.now c.args.entry.now) (λ fault. fault ≡ NoMemory)
    (λ fault h. none_disagrees c.args.entry.now c.args.table.now fault basic h) c.lines_agree.ensures.disagrees
