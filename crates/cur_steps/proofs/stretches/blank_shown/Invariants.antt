use Rattle.std.proofs.Common.{◌≡◌, ◌==◌, ◌&&◌, ◌<◌, ℕ, false, length, slice_index_or}
use Rattle.cur_steps.proofs.stretches.blank_shown.Given as goal

abbrev pub invariant-loop-n : goal.invariant-loop-n
invariant-loop-n l = record {
  length : length l.same ≡ length l.fn.same;
  found : (k : ℕ) → k < l.n → slice_index_or l.same k false ≡ (l.is_plain && (slice_index_or l.text k 0 == 32));
}
