-- The bytes visited so far are run.
use Rattle.std.proofs.Common.{◌≡◌, ◌≤◌, ◌-◌, length, take}
use Rattle.vt_term.specs.Run.{Runs}
use Rattle.vt_term.proofs.terminals.Terminal.feed.Given as goal

abbrev pub invariant-loop-at : goal.invariant-loop-at
invariant-loop-at l = record {
  within : l.at ≤ length l.bytes;
  runs : Runs l.fn.self (take l.at l.bytes) l.self;
  rows : l.self.screen.rows ≡ l.fn.self.screen.rows;
  cols : l.self.screen.cols ≡ l.fn.self.screen.cols;
}

abbrev pub decreases-loop-at : goal.decreases-loop-at
decreases-loop-at l = length l.bytes - l.at
