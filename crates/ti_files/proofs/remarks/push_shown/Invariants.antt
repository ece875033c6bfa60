use Rattle.std.proofs.Common.{◌≡◌, ◌++◌, take, flat_map}
use Rattle.std.specs.List.{AllByRecursion}
use Rattle.ti_files.specs.Remarks.{IsPrintable}
use Rattle.ti_files.specs.Shown.{shown_byte}
use Rattle.ti_files.proofs.remarks.push_shown.Given as goal

-- the bytes before this one are shown
abbrev pub invariant-loop-byte : goal.invariant-loop-byte
invariant-loop-byte l = record {
  shown : l.text.items ≡ l.fn.text.items ++ flat_map shown_byte (take l.byte-index l.bytes);
  printable : AllByRecursion IsPrintable (flat_map shown_byte (take l.byte-index l.bytes));
}
