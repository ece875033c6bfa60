use Rattle.std.proofs.Common.{◌≡◌, ◌≤◌, ◌+◌, get_or, length}
use Rattle.std.specs.Prelude.{option_map}
use Rattle.cur_scripts.specs.Cuts.{parts_left, left_size}
use Rattle.curses_c.specs.Lines.{call_lines, line_of}
use Rattle.curses_c.proofs.lines.line_of.Given as goal

abbrev pub invariant-loop-left : goal.invariant-loop-left
invariant-loop-left l = record {
  number : l.number + left_size (option_map (λ text. text.now) l.left) ≤ length l.text + 2;
  rest : get_or (call_lines l.number (parts_left 10 (option_map (λ text. text.now) l.left))) l.before 0 ≡ line_of l.text l.place;
}

abbrev pub decreases-loop-left : goal.decreases-loop-left
decreases-loop-left l = left_size (option_map (λ text. text.now) l.left)
