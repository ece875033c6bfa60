use Rattle.std.proofs.Common.{◌≡◌, ◌++◌, drop}
use Rattle.hex.specs.Hex.{encode_lower}
use Rattle.ti_lines.proofs.line_writer.push_digits.Given as goal

-- the text has the digits so far, and with the remaining ones it is the whole
abbrev pub invariant-loop-byte : goal.invariant-loop-byte
invariant-loop-byte l = l.text.items ++ encode_lower (drop l.byte-index l.bytes) ≡ l.initial.text.items ++ encode_lower l.bytes
