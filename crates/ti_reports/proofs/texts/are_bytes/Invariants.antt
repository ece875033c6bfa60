use Rattle.std.proofs.Common.{◌<◌, drop}
use Rattle.std.specs.List.{AllByRecursion}
use Rattle.ti_reports.proofs.texts.are_bytes.Given as goal

abbrev pub invariant-loop-byte : goal.invariant-loop-byte
invariant-loop-byte l = AllByRecursion (λ b. b < 256) (drop l.byte-index l.bytes) → AllByRecursion (λ b. b < 256) l.bytes
