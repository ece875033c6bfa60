use Rattle.std.proofs.Common.{sym, ◌∙◌, ap}
use Rattle.ti_caps.specs.Entry.{number_at}
use Rattle.ti_compiled.specs.Readings.{parts_view}
use Rattle.ti_compiled.proofs.Contents.{number_got, no_number}
use Rattle.ti_compiled.proofs.packed.Packed.get_number.Goals as goal

pub returns-in-Number : goal.returns-in-Number
returns-in-Number c =
    number_got (parts_view c.self.inside.parts) c.args.self.now c.args.cap c.position.result _ c.self.view_is
    (sym c.kind.ensures ∙ c.in-Number.is) c.position.ensures.value c.number_in.ensures.value

pub returns-in_default : goal.returns-in_default
returns-in_default c =
    no_number (parts_view c.self.inside.parts) c.args.cap c.kind.result (sym c.kind.ensures) c.in_default.not-Number
    ∙ ap (λ e. number_at e c.args.cap) c.self.view_is
