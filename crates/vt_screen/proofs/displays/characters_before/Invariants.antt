-- The bytes visited so far are characters; the rest of the count is in the remaining bytes.
use Rattle.std.proofs.Common.{◌≡◌, ◌+◌, take, drop}
use Rattle.std.specs.List.{AllByRecursion, prefix_len}
use Rattle.vt_screen.specs.Look.{IsPrinted, is_printed}
use Rattle.vt_screen.proofs.displays.characters_before.Given as goal

abbrev pub invariant-loop-k : goal.invariant-loop-k
invariant-loop-k l = record {
  printed : AllByRecursion IsPrinted (take l.k l.bytes);
  count : prefix_len is_printed (take l.limit l.bytes) ≡ l.k + prefix_len is_printed (drop l.k (take l.limit l.bytes));
}
