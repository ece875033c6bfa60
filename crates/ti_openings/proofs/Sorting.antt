-- Names in the order of the alphabet.
use Rattle.std.proofs.Common.{◌≡◌, ◌+◌, ◌<◌, ℕ, List, [], ◌∷◌, Bor, IsSorted, length, map, get_or, is_lt, false, nat_cmp, subst, arith}
use Rattle.std.proofs.lemmas.List.{get_or-map, length-map}
use Rattle.std.specs.Cmp.Lexicographic.{slice_cmp}
use Rattle.ti_openings.specs.Openings.{texts_of}

-- texts that are sorted are so wherever each is kept
pub sorted_texts : (told : List (Bor (List ℕ))) → IsSorted (λ a b. slice_cmp nat_cmp a.now b.now) told → IsSorted (slice_cmp nat_cmp) (texts_of told)
sorted_texts [] h k d low high = absurd (omega (arith, high))
sorted_texts (first ∷ told) h k d low high =
    let all = first ∷ told in
    let here : k + 1 < length all = subst (λ (n : ℕ). k + 1 < n) (length-map all (λ (t : Bor (List ℕ)). t.now)) high in
    rw (get_or-map (λ (t : Bor (List ℕ)). t.now) all (k + 1) first d here, get_or-map (λ (t : Bor (List ℕ)). t.now) all k first d (omega (arith, here))) (h k first low here)
