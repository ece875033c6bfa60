use Rattle.std.proofs.Common.{◌∙◌, ◌++◌, List, ℕ, ap, take}
use Rattle.std.proofs.lemmas.List.{take-append-drop}
use Rattle.ti_fixes.proofs.Written.{parts_of}
use Rattle.ti_fixes.proofs.texts.written.Goals as goal

-- the two parts at the place of the piece
pub returns-then-piece-eq0 : goal.returns-then-piece-eq0
returns-then-piece-eq0 c =
    parts_of c.args.cap c.args.string.now c.args.text.now c.split_at.result.0.now c.split_at.result.1.now c.in_ok-after.after.items
    (ap (λ (t : List ℕ). t ++ c.split_at.result.1.now) c.split_at.ensures.front ∙ (ap (λ (t : List ℕ). take c.args.piece.start c.args.text.now ++ t) c.split_at.ensures.back ∙ take-append-drop c.args.piece.start c.args.text.now))
    c.in_ok-after.ensures
