use Rattle.std.proofs.Common.{◌≡◌, ◌+◌, ◌≤◌, length}
use Rattle.std.specs.Prelude.{option_map}
use Rattle.ti_source.specs.Escapes.{decoding_of}
use Rattle.ti_source.proofs.Decodings.{put_before}
use Rattle.ti_source.proofs.escapes.decode.Given as goal

-- the decoding so far, followed by that of the rest, is the whole
abbrev pub invariant-loop-rest : goal.invariant-loop-rest
invariant-loop-rest l = record {
  few : l.odd + length l.rest ≤ length l.text;
  whole : option_map (put_before l.bytes.items l.odd) (decoding_of l.rest) ≡ decoding_of l.text;
}

abbrev pub decreases-loop-rest : goal.decreases-loop-rest
decreases-loop-rest l = length l.rest
