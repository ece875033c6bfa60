use Rattle.std.proofs.Common.{◌+◌, ◌*◌, ◌≤◌, ℕ}
use Rattle.cur_steps.specs.declared.inks.Ink.{Ink}
use Rattle.cur_paint.specs.Differ.{span, IsSameBy}
use Rattle.cur_paint.proofs.pieces.piece_end.Given as goal

abbrev pub invariant-loop-k : goal.invariant-loop-k
invariant-loop-k l = record {
  within : l.end ≤ l.k;
  near : l.k ≤ l.end + l.few;
  few : (old new : ℕ → ℕ → Ink) (row from : ℕ) → IsSameBy old new row from l.same → l.end ≤ span old new row from l.end * (l.few + 1);
}
