use Rattle.std.proofs.Common.{true, rules, sym, ◌∙◌}
use Rattle.cur_scripts.specs.Table.{call_of}
use Rattle.cur_scripts.proofs.Taken.{alone, as_single}
use Rattle.cur_scripts.proofs.scripts.only_call.Goals as goal

pub returns-in-Ok : goal.returns-in-Ok
returns-in-Ok c =
    let line = c.in_ok-line.line.now in
    let taken = as_single (call_of line) c.hand_on_call.new.to.call true c.hand_on_call.result c.in-Ok.field-0 c.in-Ok.is c.hand_on_call.ensures in
    taken ∙ sym (alone c.args.text.now line (search rules) (search rules) (search rules))
