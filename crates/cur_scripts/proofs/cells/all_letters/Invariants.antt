use Rattle.std.proofs.Common.{◌≡◌, drop}
use Rattle.cur_scripts.specs.Cells.{letters_after}
use Rattle.cur_scripts.proofs.cells.all_letters.Given as goal

abbrev pub invariant-loop-byte : goal.invariant-loop-byte
invariant-loop-byte l = letters_after l.attrs.0 (drop l.byte-index l.text) ≡ letters_after 0 l.text
