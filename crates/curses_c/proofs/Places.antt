-- The place of a line's end.
use Rattle.std.proofs.Common.{◌≡◌, ℕ, ◌+◌, ◌==◌, List, [], ◌∷◌, None, Some, take, drop, sym, ap, ◌∙◌}
use Rattle.std.specs.List.{position}
use Rattle.cur_scripts.specs.Cuts.{lines_of}
use Rattle.cur_scripts.proofs.CutFacts.{around, cut_found, part_alone, part_first}

pub line_first : (text : List ℕ) (at : ℕ) → position (λ b. b == 10) text ≡ Some at → lines_of text ≡ take at text ∷ lines_of (drop (at + 1) text)
line_first text at e = part_first 10 text (take at text) (drop (at + 1) text) (sym (cut_found 10 text) ∙ ap (around text) e)

pub line_alone : (text : List ℕ) → position (λ b. b == 10) text ≡ None → lines_of text ≡ text ∷ []
line_alone text e = part_alone 10 text (sym (cut_found 10 text) ∙ ap (around text) e)
