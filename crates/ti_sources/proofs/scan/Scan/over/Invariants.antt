use Rattle.std.proofs.Common.{◌≡◌, drop}
use Rattle.ti_sources.specs.Steps.{scan_from}
use Rattle.ti_sources.proofs.scan.Scan.over.Given as goal

abbrev pub invariant-loop-byte : goal.invariant-loop-byte
invariant-loop-byte l = scan_from l.scan (drop l.byte-index l.bytes) ≡ scan_from l.fn.self l.bytes
