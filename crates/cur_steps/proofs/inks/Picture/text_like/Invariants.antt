use Rattle.std.proofs.Common.{◌≡◌, ◌≤◌, ◌-◌, length}
use Rattle.cur_steps.specs.Stretches.{AreLike}
use Rattle.cur_steps.proofs.inks.Picture.text_like.Given as goal

abbrev pub invariant-loop-n : goal.invariant-loop-n
invariant-loop-n g l = record {
  within : l.n ≤ l.stretch.count;
  room : l.n ≤ length l.text;
  length : length l.text ≡ length l.fn.text;
  known : AreLike (g.Self.Picture.cells l.self) l.stretch l.like l.n l.text;
}

abbrev pub decreases-loop-n : goal.decreases-loop-n
decreases-loop-n g l = l.stretch.count - l.n
