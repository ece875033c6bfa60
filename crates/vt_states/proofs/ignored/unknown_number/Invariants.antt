-- What is left, behind the number that is being read, has the answer.
use Rattle.std.proofs.Common.{◌≡◌, drop}
use Rattle.vt_term.specs.Parameters.{numbers}
use Rattle.vt_states.specs.Ignored.{first_unknown, is_unknown, unknown_from}
use Rattle.vt_states.proofs.ignored.unknown_number.Given as goal

abbrev pub invariant-loop-byte : goal.invariant-loop-byte
invariant-loop-byte l = unknown_from (is_unknown l.kind) l.number (drop l.byte-index l.numbers) ≡ first_unknown (is_unknown l.kind) (numbers l.numbers)
