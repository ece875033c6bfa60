-- The text of lines in two parts.
use Rattle.std.proofs.Common.{◌≡◌, ℕ, ◌+◌, List, [], ◌∷◌, ◌++◌, length, sym, ap, ◌∙◌, arith}
use Rattle.std.proofs.lemmas.List.{append_assoc}
use Rattle.std.proofs.lemmas.Grind.{flat_map-append}
use Rattle.std.specs.List.{flat_map}
use Rattle.vt_screen.specs.Look.{Look}
use Rattle.vt_screen.specs.Printed.{row_text, looks_text, runs_text}

pub looks_text-append : (row : ℕ) (xs ys : List (List Look)) → looks_text row (xs ++ ys) ≡ looks_text row xs ++ looks_text (row + length xs) ys
looks_text-append row [] ys = (let same : row ≡ row + 0 = omega arith in ap (λ (r : ℕ). looks_text r ys) same)
looks_text-append row (x ∷ xs) ys =
    let next : row + 1 + length xs ≡ row + length (x ∷ xs) = omega arith in
    ap (λ (t : List ℕ). runs_text row x (length x) ++ t) (looks_text-append (row + 1) xs ys ∙ ap (λ (r : ℕ). looks_text (row + 1) xs ++ looks_text r ys) next)
    ∙ sym (append_assoc (runs_text row x (length x)) (looks_text (row + 1) xs) (looks_text (row + length (x ∷ xs)) ys))

-- two texts that follow one another are that of both parts
pub rows_joined : (t u w : List ℕ) (xs ys zs : List (List Look)) → u ≡ t ++ flat_map row_text xs → w ≡ u ++ flat_map row_text ys → zs ≡ xs ++ ys → w ≡ t ++ flat_map row_text zs
rows_joined t u w xs ys zs first second both = rw (second, first, both, flat_map-append row_text xs ys) (append_assoc t (flat_map row_text xs) (flat_map row_text ys))

pub looks_joined : (t u w : List ℕ) (xs ys zs : List (List Look)) → u ≡ t ++ looks_text 0 xs → w ≡ u ++ looks_text (length xs) ys → zs ≡ xs ++ ys → w ≡ t ++ looks_text 0 zs
looks_joined t u w xs ys zs first second both =
    let start : 0 + length xs ≡ length xs = omega arith in
    rw (second, first, both, looks_text-append 0 xs ys, start) (append_assoc t (looks_text 0 xs) (looks_text (length xs) ys))
