use Rattle.std.proofs.Common.{Some, sym}
use Rattle.ti_cert.proofs.Smallness.{sent_few}
use Rattle.ti_cert.proofs.limits.len.Goals as goal

pub returns-in-Some-clause-small : goal.returns-in-Some-clause-small
returns-in-Some-clause-small c = sent_few c.args.table.now.known.strings c.args.row (Some c.in-Some.bytes.now) (sym c.in-Some.ensures) c.requires.few
