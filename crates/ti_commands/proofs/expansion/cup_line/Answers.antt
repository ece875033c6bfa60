use Rattle.std.proofs.Common.{rules, ◌≢◌}
use Rattle.std.specs.String.{string_bytes}
use Rattle.ti_conforms.specs.declared.cup_reach.MissKind.TheVariants as miss_kinds
use Rattle.ti_commands.proofs.Expansions.{line_missed, line_served}
use Rattle.ti_commands.proofs.expansion.cup_line.Goals as goal

pub returns-in-Ok : goal.returns-in-Ok
returns-in-Ok c = line_served (λ s. string_bytes s) c.args.string.now c.args.size.rows c.args.size.cols c.from_str.result c.in-Ok.ensures.reached c.from_str.ensures.ok

pub returns-in-Parm : goal.returns-in-Parm
returns-in-Parm c =
    let miss = c.in-Err.miss in
    let claims : c.in-Err.miss.kind ≢ miss_kinds.NoMemory = search rules in
    line_missed (λ s. string_bytes s) c.args.string.now c.args.size.rows c.args.size.cols miss.row miss.col miss.kind c.miss_line.result c.in-Err.ensures.row c.in-Err.ensures.col claims c.in-Err.ensures.first c.in-Err.ensures.why c.miss_line.ensures
