use Rattle.std.proofs.Common.{◌<◌, sym, ◌∙◌, ap, subst}
use Rattle.ti_caps.specs.Table.{count_of}
use Rattle.ti_caps.specs.Entry.{string_at}
use Rattle.ti_compiled.specs.Readings.{parts_view}
use Rattle.ti_compiled.proofs.Contents.{string_got, no_string}
use Rattle.ti_compiled.proofs.packed.Packed.get_string.Goals as goal

pub returns-in-String : goal.returns-in-String
returns-in-String c =
    string_got (parts_view c.self.inside.parts) c.args.self.now c.args.cap c.position.result _ c.self.view_is
    (sym c.kind.ensures ∙ c.in-String.is) c.position.ensures.value (subst (λ kind. c.position.result < count_of kind) (sym c.kind.ensures ∙ c.in-String.is) c.position.ensures.range) c.string_in.ensures

pub returns-in_default : goal.returns-in_default
returns-in_default c =
    no_string (parts_view c.self.inside.parts) c.args.cap c.kind.result (sym c.kind.ensures) c.in_default.not-String
    ∙ ap (λ e. string_at e c.args.cap) c.self.view_is
