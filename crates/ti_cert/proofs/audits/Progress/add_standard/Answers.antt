use Rattle.ti_cert.proofs.Drafts.{standard_stands}
use Rattle.ti_cert.proofs.audits.Progress.add_standard.Goals as goal

pub returns : goal.returns
returns c = standard_stands c.args.self.now _ c.args.row c.args.bytes.now c.add_standard.new.self c.after-self.result.last c.self.view_is c.requires c.in_ok-check.ensures.range
    c.in_ok-check.ensures.passes c.in_ok-add_standard.ensures.strings c.in_ok-add_standard.ensures.looks c.in_ok-add_standard.ensures.holds c.after-self.ensures
