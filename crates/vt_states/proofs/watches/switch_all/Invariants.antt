-- The remaining numbers lead from these switches to the final ones.
use Rattle.std.proofs.Common.{◌≡◌, drop}
use Rattle.vt_states.specs.Watches.{all_switched}
use Rattle.vt_states.proofs.watches.switch_all.Given as goal

abbrev pub invariant-loop-number : goal.invariant-loop-number
invariant-loop-number l = all_switched l.kind l.on (drop l.number-index l.numbers) l.switches ≡ all_switched l.kind l.on l.numbers l.fn.before
