use Rattle.std.proofs.Common.{◌≡◌, false, sym, ◌∙◌}
use Rattle.cur_scripts.specs.Texts.{is_skipped}
use Rattle.cur_scripts.proofs.Taken.{as_line}
use Rattle.cur_scripts.proofs.lines.read_line.Goals as goal

pub returns-in-Ok-clause-ok : goal.returns-in-Ok-clause-ok
returns-in-Ok-clause-ok c =
    let read : is_skipped c.args.line.now ≡ false = sym c.is_skipped.ensures ∙ c.if-is_skipped.false in
    as_line c.args.line.now c.args.calls.now.items false c.hand_on_call.new.to.items c.hand_on_call.result c.in-Ok.field-0 read c.in-Ok.is c.hand_on_call.ensures
