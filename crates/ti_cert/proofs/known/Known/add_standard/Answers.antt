use Rattle.std.proofs.Common.{ap, ◌∙◌}
use Rattle.vt_effects.specs.declared.effects.Effect.{Effect}
use Rattle.ti_conforms.specs.Table.{settles}
use Rattle.ti_cert.specs.Known.{with_change}
use Rattle.ti_cert.proofs.Standards.{standard_holds}
use Rattle.ti_cert.proofs.known.Known.add_standard.Goals as goal

pub returns-clause-holds : goal.returns-clause-holds
returns-clause-holds c = λ h. standard_holds c.args.self.now c.self.inside.strings c.self.inside.looks c.self.inside.reach c.self.inside.changes.items c.self.view_is
    c.push.new.self c.args.row c.args.bytes.now c.push_change.new.changes.items h c.in_ok-push.ensures c.requires.form c.requires.range
    (c.in_ok-push_change.ensures ∙ ap (λ (e : Effect). with_change (settles c.args.row) c.self.inside.changes.items e.charset) c.unchanged.ensures)
