-- Applying the remaining numbers now gives the same rendition as applying all of them at the start.
use Rattle.std.proofs.Common.{◌≡◌, drop}
use Rattle.vt_screen.specs.Step.{all_rendered}
use Rattle.vt_screen.proofs.displays.all_rendered.Given as goal

abbrev pub invariant-loop-number : goal.invariant-loop-number
invariant-loop-number l = all_rendered (drop l.number-index l.numbers) l.now ≡ all_rendered l.numbers l.fn.now
