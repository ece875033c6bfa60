-- The characters so far.
use Rattle.std.proofs.Common.{◌≡◌, ◌∷◌, take}
use Rattle.std.specs.List.{flat_map}
use Rattle.vt_states.specs.Json.{escaped}
use Rattle.vt_states.proofs.json.quoted.Given as goal

abbrev pub invariant-loop-byte : goal.invariant-loop-byte
invariant-loop-byte l = l.text.items ≡ 34 ∷ flat_map escaped (take l.byte-index l.bytes)
