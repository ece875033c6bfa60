use Rattle.std.proofs.Common.{sym, ◌∙◌, ap}
use Rattle.ti_caps.specs.Entry.{flag_at}
use Rattle.ti_compiled.specs.Readings.{parts_view}
use Rattle.ti_compiled.proofs.Contents.{flag_got, no_flag}
use Rattle.ti_compiled.proofs.packed.Packed.get_flag.Goals as goal

pub returns-in-Flag : goal.returns-in-Flag
returns-in-Flag c =
    flag_got (parts_view c.self.inside.parts) c.args.self.now c.args.cap c.position.result _ c.self.view_is
    (sym c.kind.ensures ∙ c.in-Flag.is) c.position.ensures.value c.flag_in.ensures

pub returns-in_default : goal.returns-in_default
returns-in_default c =
    no_flag (parts_view c.self.inside.parts) c.args.cap c.kind.result (sym c.kind.ensures) c.in_default.not-Flag
    ∙ ap (λ e. flag_at e c.args.cap) c.self.view_is
