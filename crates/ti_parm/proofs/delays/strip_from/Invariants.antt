use Rattle.std.proofs.Common.{◌≡◌, ◌≤◌, ◌-◌, ◌++◌, drop, length, take}
use Rattle.ti_parm.specs.Delays.{strip}
use Rattle.ti_parm.proofs.delays.strip_from.Given as goal

abbrev pub invariant-loop-read : goal.invariant-loop-read
invariant-loop-read l = record {
  ordered : l.kept ≤ l.read;
  within : l.read ≤ length l.bytes.items;
  stripped : take l.kept l.bytes.items ++ strip (drop l.read l.bytes.items) ≡ take l.start l.initial.bytes.items ++ strip (drop l.start l.initial.bytes.items);
}

abbrev pub decreases-loop-read : goal.decreases-loop-read
decreases-loop-read l = length l.bytes.items - l.read
