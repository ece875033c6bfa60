-- The bytes visited so far are all inside.
use Rattle.std.proofs.Common.{◌≡◌, ◌+◌, drop}
use Rattle.vt_states.specs.Sequences.{inside_length}
use Rattle.vt_states.proofs.sequences.inside_length.Given as goal

abbrev pub invariant-loop-count : goal.invariant-loop-count
invariant-loop-count l = l.count + inside_length l.high (drop l.count l.bytes) ≡ inside_length l.high l.bytes
