-- The marks so far.
use Rattle.std.proofs.Common.{◌≡◌, ◌++◌, take}
use Rattle.vt_states.specs.Kinds.{marks}
use Rattle.vt_states.proofs.kinds.push_marks.Given as goal

abbrev pub invariant-loop-byte : goal.invariant-loop-byte
invariant-loop-byte l = l.kind.items ≡ l.fn.kind.items ++ marks (take l.byte-index l.front)
