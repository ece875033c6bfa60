use Rattle.std.proofs.Common.{◌≡◌, length}
use Rattle.cur_steps.specs.Stretches.{AreShown}
use Rattle.cur_steps.proofs.inks.Picture.shows_text.Given as goal

abbrev pub invariant-loop-n : goal.invariant-loop-n
invariant-loop-n g l = record {
  length : length l.shown ≡ length l.fn.shown;
  found : AreShown (g.Self.Picture.cells l.self) (record l.stretch { count = l.n }) l.ink l.text l.shown;
}
