use Rattle.ti_cert.specs.Certification.{AddsCaps}
use Rattle.ti_cert.proofs.certification.Draft.push_caps.Given as goal

abbrev pub invariant-loop-place : goal.invariant-loop-place
invariant-loop-place l = AddsCaps l.entry 0 l.place l.fn.self l.self
