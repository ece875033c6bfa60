use Rattle.std.proofs.Common.{sym, ◌∙◌}
use Rattle.ti_compiled.proofs.Fills.{flag_put, flag_left}
use Rattle.ti_compiled.specs.Readings.{parts_view}
use Rattle.ti_compiled.proofs.unpack.put_flag.Goals as goal

pub returns-then-flag_in : goal.returns-then-flag_in
returns-then-flag_in c =
    c.set_flag.ensures.value
    ∙ flag_put (parts_view c.args.parts.now) c.args.entry.now c.cap_at-cap.result c.args.position c.cap_at-cap.ensures.place (sym c.flag_in.ensures ∙ c.if-flag_in.true)

pub returns-else-flag_in : goal.returns-else-flag_in
returns-else-flag_in c = flag_left (parts_view c.args.parts.now) c.args.entry.now c.args.position (sym c.flag_in.ensures ∙ c.if-flag_in.false)
