use Rattle.ti_cert.proofs.Certified.{is_checked}
use Rattle.ti_cert.proofs.certificates.CheckedCertificate.rows.Goals as goal

pub returns-clause-checked : goal.returns-clause-checked
returns-clause-checked c = is_checked c.args.self.now c.size.ensures.verified
