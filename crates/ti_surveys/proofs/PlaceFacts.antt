-- The faults of a survey at their places, and the lines of one more.
use Rattle.std.proofs.Common.{◌≡◌, ◌∙◌, ◌<◌, ◌+◌, ◌++◌, ℕ, List, [], ◌∷◌, append_assoc, ap, drop, get_or, length, map, sym, take}
use Rattle.std.proofs.lemmas.List.{drop_more, map-append, take_more}
use Rattle.ti_surveys.specs.Places.{lines_behind, lines_unless}
use Rattle.ti_verdicts.specs.Locations.{PlacedText, placed_in}
use Rattle.ti_verdicts.specs.declared.locations.PlacedFault.{PlacedFault}

-- the lines of the faults that are left begin with those of the next one
next_lines : {X : Type 0} (P : X → PlacedText) (xs : List X) (n : ℕ) (x : X) → n < length xs → x ≡ get_or xs n x → lines_behind (map P (take n xs)) (map P (drop n xs))
    ≡ lines_unless (map P (take n xs)) (P x) (map P (drop (n + 1) xs)) ++ lines_behind (map P (take (n + 1) xs)) (map P (drop (n + 1) xs))
next_lines {X} P xs n x l is =
    ap (λ (rest : List X). lines_behind (map P (take n xs)) (map P rest)) (drop_more xs n x l)
    ∙ (ap (λ (y : X). lines_unless (map P (take n xs)) (P y) (map P (drop (n + 1) xs)) ++ lines_behind (map P (take n xs) ++ P y ∷ []) (map P (drop (n + 1) xs))) (sym is)
    ∙ ap (λ (before : List PlacedText). lines_unless (map P (take n xs)) (P x) (map P (drop (n + 1) xs)) ++ lines_behind before (map P (drop (n + 1) xs)))
    (sym (map-append P (take n xs) (x ∷ [])) ∙ (ap (λ (y : X). map P (take n xs ++ y ∷ [])) is ∙ ap (map P) (sym (take_more xs n x l)))))

-- what was printed, with what is left, stays the whole
pub whole_after : {X : Type 0} (P : X → PlacedText) (xs : List X) (n : ℕ) (x : X) (lines more whole : List ℕ) → n < length xs → x ≡ get_or xs n x → more ≡ lines ++ lines_unless (map P (take n xs)) (P x) (map P (drop (n + 1) xs))
    → lines ++ lines_behind (map P (take n xs)) (map P (drop n xs)) ≡ whole → more ++ lines_behind (map P (take (n + 1) xs)) (map P (drop (n + 1) xs)) ≡ whole
whole_after P xs n x lines more whole l is spelled was =
    ap (λ (t : List ℕ). t ++ lines_behind (map P (take (n + 1) xs)) (map P (drop (n + 1) xs))) spelled
    ∙ (append_assoc lines (lines_unless (map P (take n xs)) (P x) (map P (drop (n + 1) xs))) (lines_behind (map P (take (n + 1) xs)) (map P (drop (n + 1) xs)))
    ∙ (ap (λ (t : List ℕ). lines ++ t) (sym (next_lines P xs n x l is)) ∙ was))

pub placed_append : (xs ys : List PlacedFault) → map placed_in (xs ++ ys) ≡ map placed_in xs ++ map placed_in ys
placed_append xs ys = map-append placed_in xs ys
