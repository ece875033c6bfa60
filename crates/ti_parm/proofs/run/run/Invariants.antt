use Rattle.std.proofs.Common.{◌≡◌, length, take}
use Rattle.ti_parm.specs.Machine.{state_of}
use Rattle.ti_parm.specs.Runs.{judged_ahead, judged_run}
use Rattle.ti_parm.specs.Syntax.{ahead}
use Rattle.ti_parm.proofs.run.run.Given as goal

abbrev pub invariant-loop-rest : goal.invariant-loop-rest
invariant-loop-rest l = record {
  meant : judged_ahead (ahead l.rest) l.nest (state_of l.machine l.out.items) ≡ judged_run l.string (state_of l.initial.machine l.initial.out.items);
  kept : take (length l.initial.out.items) l.out.items ≡ l.initial.out.items;
}

abbrev pub decreases-loop-rest : goal.decreases-loop-rest
decreases-loop-rest l = length l.rest
