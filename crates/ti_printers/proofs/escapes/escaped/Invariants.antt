use Rattle.std.proofs.Common.{◌≡◌, take, flat_map}
use Rattle.ti_printers.specs.Escapes.{json_char}
use Rattle.ti_printers.proofs.escapes.escaped.Given as goal

-- the characters so far are written
abbrev pub invariant-loop-letter : goal.invariant-loop-letter
invariant-loop-letter l = l.line.items ≡ flat_map json_char (take l.letter-index l.letters)
