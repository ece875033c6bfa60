use Rattle.std.proofs.Common.{◌∙◌}
use Rattle.ti_compiled.proofs.Fills.{number_put, number_left}
use Rattle.ti_compiled.specs.Readings.{parts_view}
use Rattle.ti_compiled.proofs.unpack.put_number.Goals as goal

pub returns-in-Some : goal.returns-in-Some
returns-in-Some c =
    c.set_number.ensures.value
    ∙ number_put (parts_view c.args.parts.now) c.args.entry.now c.cap_at-cap.result c.args.position c.in-Some.number c.cap_at-cap.ensures.place c.in-Some.ensures.value

pub returns-in_default : goal.returns-in_default
returns-in_default c = number_left (parts_view c.args.parts.now) c.args.entry.now c.args.position c.in_default.ensures.value
