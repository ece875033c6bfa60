use Rattle.std.proofs.Common.{◌≡◌, length}
use Rattle.cur_update.proofs.Notes.{AreNoted}
use Rattle.cur_update.proofs.screens.PrintedScreen.cells_show.Given as goal

abbrev pub invariant-loop-n : goal.invariant-loop-n
invariant-loop-n l = record {
  size : length l.shown ≡ length l.fn.shown;
  found : AreNoted l.self.means.now l.self.screen.now l.line l.ink l.text l.n l.shown;
}
