use Rattle.std.proofs.Common.{arith}
use Rattle.ti_cert.proofs.Smallness.{longest_few}
use Rattle.ti_cert.proofs.limits.longest.Goals as goal

pub returns-clause-small : goal.returns-clause-small
returns-clause-small c = omega (arith, c.longest.ensures, longest_few c.args.table.now.known.strings c.args.row c.requires.few)
