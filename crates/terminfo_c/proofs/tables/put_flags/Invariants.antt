-- The elements visited so far are the values at their positions.
use Rattle.std.proofs.Common.{◌≡◌, ◌<◌, ℕ, Bool, length, slice_index_or}
use Rattle.terminfo_c.specs.Tables.{flag_value}
use Rattle.terminfo_c.proofs.tables.put_flags.Given as goal

abbrev pub invariant-loop-position : goal.invariant-loop-position
invariant-loop-position l = record {
  size : length l.flags ≡ length l.fn.flags;
  each : (k : ℕ) (other : Bool) → k < l.position → slice_index_or l.flags k other ≡ flag_value l.packed k;
}
