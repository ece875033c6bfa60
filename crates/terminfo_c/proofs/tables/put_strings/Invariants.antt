-- The elements visited so far are the values at their positions.
use Rattle.std.proofs.Common.{◌≡◌, ◌<◌, ℕ, length, slice_index_or}
use Rattle.terminfo_c.specs.Tables.{string_value, text_of}
use Rattle.terminfo_c.specs.declared.tables.Text.{Text}
use Rattle.terminfo_c.proofs.tables.put_strings.Given as goal

abbrev pub invariant-loop-position : goal.invariant-loop-position
invariant-loop-position l = record {
  size : length l.strings ≡ length l.fn.strings;
  each : (k : ℕ) (other : Text) → k < l.position → text_of (slice_index_or l.strings k other) ≡ string_value l.packed k;
}
