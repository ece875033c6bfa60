-- A piece behind those so far.
use Rattle.std.proofs.Common.{◌≡◌, ◌≤◌, ◌+◌, ◌∙◌, ℕ, zero, suc, List, [], ◌∷◌, ◌++◌, ap, arith, drop, length, refl, subst, sym}
use Rattle.std.proofs.lemmas.List.{append-nil, append_assoc, drop-drop, drop-map, length-drop, length-map}
use denote.Ref.{Bor}
use Rattle.ti_diffs.specs.Pieces.{IsDiff, IsFront, IsWithin, lines_of, new_lines, old_lines}
use Rattle.ti_diffs.specs.declared.pieces.Piece.{Piece}

-- the lines behind a piece of what is left
behind : (lines : List (Bor (List ℕ))) (at count : ℕ) → lines_of (drop (at + count) lines) ≡ drop count (lines_of (drop at lines))
behind lines at count = ap lines_of (sym (drop-drop count at lines)) ∙ sym (drop-map (λ (line : Bor (List ℕ)). line.now) count (drop at lines))

passed_within : (lines : List (Bor (List ℕ))) (at count : ℕ) → at ≤ length lines → count ≤ length (drop at lines) → at + count ≤ length lines
passed_within lines at count a c = let e = length-drop at lines in omega (arith, a, c, e)

within_lines : (old new : List (Bor (List ℕ))) (removed added : ℕ) → IsWithin removed added old new → IsWithin removed added (lines_of old) (lines_of new)
within_lines old new removed added w = (
  subst (λ (n : ℕ). removed ≤ n) (sym (length-map old (λ (line : Bor (List ℕ)). line.now))) w.0,
  subst (λ (n : ℕ). added ≤ n) (sym (length-map new (λ (line : Bor (List ℕ)). line.now))) w.1,
)

first : (old new : List (Bor (List ℕ))) (passed added : ℕ) (piece : Piece) (rest : List Piece) → IsFront piece (lines_of (drop passed old)) (lines_of (drop added new))
    → IsWithin (old_lines piece) (new_lines piece) (drop passed old) (drop added new)
    → IsDiff rest (lines_of (drop (passed + old_lines piece) old)) (lines_of (drop (added + new_lines piece) new))
    → IsDiff (piece ∷ rest) (lines_of (drop passed old)) (lines_of (drop added new))
unfolding IsDiff
first old new passed added piece rest f w h = (
  f,
  within_lines (drop passed old) (drop added new) (old_lines piece) (new_lines piece) w,
  subst (λ (l : List (List ℕ)). IsDiff rest l (drop (new_lines piece) (lines_of (drop added new)))) (behind old passed (old_lines piece))
      (subst (λ (l : List (List ℕ)). IsDiff rest (lines_of (drop (passed + old_lines piece) old)) l) (behind new added (new_lines piece)) h),
)

-- the pieces so far and this one, with those of the rest, are those of both lists
goes_on : (old new : List (Bor (List ℕ))) (passed added : ℕ) (pieces pushed : List Piece) (piece : Piece) → pushed ≡ pieces ++ piece ∷ []
    → IsFront piece (lines_of (drop passed old)) (lines_of (drop added new)) → IsWithin (old_lines piece) (new_lines piece) (drop passed old) (drop added new)
    → ((rest : List Piece) → IsDiff rest (lines_of (drop passed old)) (lines_of (drop added new)) → IsDiff (pieces ++ rest) (lines_of old) (lines_of new))
    → (rest : List Piece) → IsDiff rest (lines_of (drop (passed + old_lines piece) old)) (lines_of (drop (added + new_lines piece) new)) → IsDiff (pushed ++ rest) (lines_of old) (lines_of new)
goes_on old new passed added pieces pushed piece e f w so rest h =
    let together : pushed ++ rest ≡ pieces ++ (piece ∷ rest) = ap (λ (l : List Piece). l ++ rest) e ∙ append_assoc pieces (piece ∷ []) rest in
    subst (λ (l : List Piece). IsDiff l (lines_of old) (lines_of new)) (sym together) (so (piece ∷ rest) (first old new passed added piece rest f w h))

next : (old new : List (Bor (List ℕ))) (passed added removes adds : ℕ) (pieces pushed : List Piece) (piece : Piece) → removes ≡ old_lines piece → adds ≡ new_lines piece
    → pushed ≡ pieces ++ piece ∷ [] → IsFront piece (lines_of (drop passed old)) (lines_of (drop added new))
    → IsWithin (old_lines piece) (new_lines piece) (drop passed old) (drop added new) → passed ≤ length old → added ≤ length new
    → ((rest : List Piece) → IsDiff rest (lines_of (drop passed old)) (lines_of (drop added new)) → IsDiff (pieces ++ rest) (lines_of old) (lines_of new))
    → (passed + removes ≤ length old) × (added + adds ≤ length new)
    × ((rest : List Piece) → IsDiff rest (lines_of (drop (passed + removes) old)) (lines_of (drop (added + adds) new)) → IsDiff (pushed ++ rest) (lines_of old) (lines_of new))
next old new passed added removes adds pieces pushed piece r a e f w p q so = (
  subst (λ (n : ℕ). passed + n ≤ length old) (sym r) (passed_within old passed (old_lines piece) p w.0),
  subst (λ (n : ℕ). added + n ≤ length new) (sym a) (passed_within new added (new_lines piece) q w.1),
  λ rest h. goes_on old new passed added pieces pushed piece e f w so rest
      (subst (λ (n : ℕ). IsDiff rest (lines_of (drop (passed + n) old)) (lines_of (drop (added + new_lines piece) new))) r
      (subst (λ (n : ℕ). IsDiff rest (lines_of (drop (passed + removes) old)) (lines_of (drop (added + n) new))) a h)),
)

pub next_behind : (old new o n : List (Bor (List ℕ))) (passed added removes adds : ℕ) (pieces pushed : List Piece) (piece : Piece) → o ≡ drop passed old → n ≡ drop added new
    → removes ≡ old_lines piece → adds ≡ new_lines piece
    → pushed ≡ pieces ++ piece ∷ [] → IsFront piece (lines_of o) (lines_of n)
    → IsWithin (old_lines piece) (new_lines piece) o n → passed ≤ length old → added ≤ length new
    → ((rest : List Piece) → IsDiff rest (lines_of (drop passed old)) (lines_of (drop added new)) → IsDiff (pieces ++ rest) (lines_of old) (lines_of new))
    → (passed + removes ≤ length old) × (added + adds ≤ length new)
    × ((rest : List Piece) → IsDiff rest (lines_of (drop (passed + removes) old)) (lines_of (drop (added + adds) new)) → IsDiff (pushed ++ rest) (lines_of old) (lines_of new))
next_behind old new o n passed added removes adds pieces pushed piece oe ne r a e f w p q so =
    let front : IsFront piece (lines_of (drop passed old)) (lines_of (drop added new)) =
    subst (λ (l : List (Bor (List ℕ))). IsFront piece (lines_of l) (lines_of (drop added new))) oe (subst (λ (l : List (Bor (List ℕ))). IsFront piece (lines_of o) (lines_of l)) ne f) in
    let within : IsWithin (old_lines piece) (new_lines piece) (drop passed old) (drop added new) =
    subst (λ (l : List (Bor (List ℕ))). IsWithin (old_lines piece) (new_lines piece) l (drop added new)) oe (subst (λ (l : List (Bor (List ℕ))). IsWithin (old_lines piece) (new_lines piece) o l) ne w) in
    next old new passed added removes adds pieces pushed piece r a e front within p q so

none_left : (lines : List (Bor (List ℕ))) (at : ℕ) → length lines ≤ at → lines_of (drop at lines) ≡ []
none_left [] zero l = refl
none_left [] (suc at) l = refl
none_left (line ∷ lines) zero l = absurd (omega (arith, l))
none_left (line ∷ lines) (suc at) l = none_left lines at (omega (arith, l))

pub all_passed : (old new : List (Bor (List ℕ))) (passed added : ℕ) (pieces : List Piece) → length old ≤ passed → length new ≤ added
    → ((rest : List Piece) → IsDiff rest (lines_of (drop passed old)) (lines_of (drop added new)) → IsDiff (pieces ++ rest) (lines_of old) (lines_of new))
    → IsDiff pieces (lines_of old) (lines_of new)
unfolding IsDiff
all_passed old new passed added pieces o n so =
    subst (λ (l : List Piece). IsDiff l (lines_of old) (lines_of new)) (append-nil pieces) (so [] (none_left old passed o, none_left new added n))
