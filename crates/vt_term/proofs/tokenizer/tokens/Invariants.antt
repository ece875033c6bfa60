-- The bytes visited so far split into the tokens found.
use Rattle.std.proofs.Common.{◌≤◌, ◌-◌, drop, length}
use Rattle.vt_term.specs.Scanned.{Begins}
use Rattle.vt_term.proofs.tokenizer.tokens.Given as goal

abbrev pub invariant-loop-end : goal.invariant-loop-end
invariant-loop-end l = record {
  within : l.start ≤ length l.bytes;
  begins : Begins l.bytes l.found.items (drop l.start l.bytes);
}

abbrev pub decreases-loop-end : goal.decreases-loop-end
decreases-loop-end l = length l.bytes - l.start
