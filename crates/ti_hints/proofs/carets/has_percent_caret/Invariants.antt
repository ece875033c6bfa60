use Rattle.std.proofs.Common.{◌≡◌, drop}
use Rattle.ti_hints.specs.Carets.{has_caret, has_percent_caret}
use Rattle.ti_hints.proofs.carets.has_percent_caret.Given as goal

abbrev pub invariant-loop-byte : goal.invariant-loop-byte
invariant-loop-byte l = has_caret l.opener l.percent (drop l.byte-index l.value) ≡ has_percent_caret l.value
