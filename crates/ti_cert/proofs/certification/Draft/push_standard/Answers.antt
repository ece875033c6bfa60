use Rattle.std.proofs.Common.{refl, arith}
use Rattle.ti_cert.proofs.Drafts.{standard_pushed}
use Rattle.ti_cert.proofs.certification.Draft.push_standard.Goals as goal

pub returns : goal.returns
returns c = standard_pushed c.args.self.now _ c.args.row c.args.self.now.bytes.items c.add_standard.new.self c.requires c.in_ok-add_standard.ensures refl (let enough = c.if-room-lt-LONGEST.false in omega (arith, enough))
