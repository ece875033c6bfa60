use Rattle.std.proofs.Common.{◌≡◌, take}
use Rattle.curses_c.specs.LeftOut.{left_text}
use Rattle.curses_c.proofs.left_out.left_lines.Given as goal

abbrev pub invariant-loop-one : goal.invariant-loop-one
invariant-loop-one l = l.lines.items ≡ left_text (take l.one-index l.left)
