-- The elements visited so far are the values at their positions.
use Rattle.std.proofs.Common.{◌≡◌, ◌<◌, ℕ, length, slice_index_or}
use Rattle.terminfo_c.specs.Tables.{number_of, number_value}
use Rattle.terminfo_c.specs.declared.tables.Number.{Number}
use Rattle.terminfo_c.proofs.tables.put_numbers.Given as goal

abbrev pub invariant-loop-position : goal.invariant-loop-position
invariant-loop-position l = record {
  size : length l.numbers ≡ length l.fn.numbers;
  each : (k : ℕ) (other : Number) → k < l.position → number_of (slice_index_or l.numbers k other) ≡ number_value l.packed k;
}
