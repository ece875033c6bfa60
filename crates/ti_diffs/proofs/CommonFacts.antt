-- How many lines two lists have in common at their beginning.
use Rattle.std.proofs.Common.{◌≡◌, ◌≤◌, ◌+◌, ℕ, zero, suc, List, [], ◌∷◌, arith, drop, length, refl}
use denote.Ref.{Bor}
use Rattle.ti_diffs.specs.Pieces.{common, lines_of}

none_common : (old : List (List ℕ)) → common old [] ≡ 0
none_common [] = refl
none_common (line ∷ old) = refl

-- with nothing that is past the end of a list
pub ended_common : (old : List (List ℕ)) (new : List (Bor (List ℕ))) (at : ℕ) → length new ≤ at → common old (lines_of (drop at new)) ≡ 0
ended_common old [] zero l = none_common old
ended_common old [] (suc at) l = none_common old
ended_common old (line ∷ new) zero l = absurd (omega (arith, l))
ended_common old (line ∷ new) (suc at) l = ended_common old new at (omega (arith, l))

pub all_common : (all at : ℕ) (old : List (List ℕ)) (new : List (Bor (List ℕ))) → all ≡ at + common old (lines_of (drop at new)) → length new ≤ at → at ≡ all
all_common all at old new h l = let none = ended_common old new at l in omega (arith, h, none)
