-- Setting the remaining modes now gives the same screen as setting all of them at the start.
use Rattle.std.proofs.Common.{◌≡◌, drop}
use Rattle.vt_screen.specs.Step.{all_modes_set}
use Rattle.vt_screen.proofs.displays.Display.set_modes.Given as goal

abbrev pub invariant-loop-number : goal.invariant-loop-number
invariant-loop-number l = all_modes_set l.kind l.on (drop l.number-index l.numbers) l.self ≡ all_modes_set l.kind l.on l.numbers l.fn.self
