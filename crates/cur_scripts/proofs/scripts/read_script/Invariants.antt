use Rattle.std.proofs.Common.{◌≡◌, ◌≤◌, ◌+◌, length}
use Rattle.std.specs.Prelude.{option_map}
use Rattle.cur_scripts.specs.Cuts.{parts_left, left_size}
use Rattle.cur_scripts.specs.Texts.{behind, calls_of, script_of}
use Rattle.cur_scripts.proofs.scripts.read_script.Given as goal

abbrev pub invariant-loop-left : goal.invariant-loop-left
invariant-loop-left l = record {
  number : l.number + left_size (option_map (λ text. text.now) l.left) ≤ length l.text + 2;
  rest : behind l.calls.items (calls_of l.number (parts_left 10 (option_map (λ text. text.now) l.left))) ≡ script_of l.text;
}

abbrev pub decreases-loop-left : goal.decreases-loop-left
decreases-loop-left l = left_size (option_map (λ text. text.now) l.left)
