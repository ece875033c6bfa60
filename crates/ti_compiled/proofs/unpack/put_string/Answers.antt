use Rattle.std.proofs.Common.{◌∙◌}
use Rattle.ti_compiled.proofs.Fills.{string_put, string_left, string_fit}
use Rattle.std.proofs.lemmas.Result.{on_ok_weaker}
use Rattle.ti_compiled.specs.Readings.{parts_view}
use Rattle.ti_compiled.proofs.unpack.put_string.Goals as goal

pub set_string-requires-clause-fits : goal.set_string-requires-clause-fits
set_string-requires-clause-fits c = string_fit (parts_view c.args.parts.now) c.args.position c.in-Some.string.now c.in-Some.ensures c.requires.short

pub returns-in-Some : goal.returns-in-Some
returns-in-Some c =
    on_ok_weaker c.set_string.result
    (λ set. set ∙ string_put (parts_view c.args.parts.now) c.args.entry.now c.cap_at-cap.result c.args.position c.in-Some.string.now c.cap_at-cap.ensures.place c.in-Some.ensures)
    c.set_string.ensures.value

pub returns-in-None : goal.returns-in-None
returns-in-None c = string_left (parts_view c.args.parts.now) c.args.entry.now c.args.position c.in-None.ensures
