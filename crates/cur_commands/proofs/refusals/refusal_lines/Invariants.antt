use Rattle.std.proofs.Common.{◌≡◌, ◌++◌, drop}
use Rattle.cur_commands.specs.Shows.{refusals_text}
use Rattle.cur_commands.proofs.refusals.refusal_lines.Given as goal

abbrev pub invariant-loop-at : goal.invariant-loop-at
invariant-loop-at l = l.lines.items ++ refusals_text l.at (drop l.at l.log) ≡ refusals_text 0 l.log
