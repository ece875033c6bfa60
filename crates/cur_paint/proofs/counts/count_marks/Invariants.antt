use Rattle.std.proofs.Common.{◌≡◌, ◌≤◌, ℕ}
use Rattle.cur_steps.specs.declared.inks.Ink.{Ink}
use Rattle.cur_paint.specs.Differ.{span, IsSameBy}
use Rattle.cur_paint.proofs.counts.count_marks.Given as goal

abbrev pub invariant-loop-k : goal.invariant-loop-k
invariant-loop-k l = record {
  value : (old new : ℕ → ℕ → Ink) (row from : ℕ) → IsSameBy old new row from l.same → l.count ≡ span old new row from l.k;
  few : l.count ≤ l.k;
}
