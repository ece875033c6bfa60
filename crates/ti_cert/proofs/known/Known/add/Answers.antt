use Rattle.ti_cert.proofs.Preservation.{holds_to}
use Rattle.ti_cert.proofs.known.Known.add.Goals as goal

pub returns-in-Ok-clause-holds : goal.returns-in-Ok-clause-holds
returns-in-Ok-clause-holds c = λ h. holds_to c.args.self.now c.self.inside.strings c.self.inside.looks c.self.inside.reach c.self.inside.changes.items c.self.view_is
    c.push.new.self c.args.row c.args.bytes.now c.requires.record.tokens c.args.effect.now c.args.looks c.learn_row.new.reach c.push_change.new.changes.items
    h c.in_ok-push.ensures c.requires.record.whole c.requires.looks c.requires.record.has (c.in-Ok.ensures.learned c.requires.record.tokens c.requires.record.whole) c.in_ok-push_change.ensures
