-- The cells of a line and of a grid after a borrowed part was written, place by place.
use Rattle.std.proofs.Common.{◌≡◌, ◌≢◌, ℕ, ◌+◌, ◌-◌, ◌<◌, ◌≤◌, List, length, get_or, set, take, drop, ◌++◌, ap, ◌∙◌, inl, inr, arith, if◌then◌else◌}
use Rattle.std.proofs.lemmas.Bool.{cases_lt}
use Rattle.std.proofs.lemmas.Bool.Decides.{nat_tests}
use Rattle.std.proofs.lemmas.List.{length-take, length-take-le, length-drop, length-append, get_or-take, get_or-drop, get_or_append_left, get_or-append_right, get_or_default}
use Rattle.grids.specs.declared.areas.Area.{Area}
use Rattle.grids.specs.Grids.{line_at, line_drawn, is_in, part_written}
use Rattle.grids.specs.Loans.{refilled}
use Rattle.grids.proofs.Drawings.{line_is_drawn, written_line_is_drawn}

abbrev part : {A : Type 0} → ℕ → ℕ → List A → Area
part i j w = record { top = i; left = j; rows = 1; cols = length w }

length-refilled : {A : Type 0} (j : ℕ) (w l : List A) → length (refilled j w l) ≡ length l
length-refilled {A} j w l =
    let joined : List A = take j l ++ (w ++ drop (length w) (drop j l)) in
    let a = length-take (length l) joined in
    let b = length-append (take j l) (w ++ drop (length w) (drop j l)) in
    let c = length-append w (drop (length w) (drop j l)) in
    let d = length-take j l in
    let e = length-drop (length w) (drop j l) in
    let f = length-drop j l in
    omega (arith, a, b, c, d, e, f)

-- a place after the part
refilled_behind : {A : Type 0} (j k : ℕ) (w l : List A) (d : A) → j + length w ≤ k → j ≤ length l → get_or (w ++ drop (length w) (drop j l)) (k - j) d ≡ get_or l k d
refilled_behind j k w l d h near =
    get_or-append_right w (drop (length w) (drop j l)) (length w) (k - j) d (λ t. length w) (omega (arith, h))
    ∙ get_or-drop (length w) (drop j l) (k - j - length w) d
    ∙ get_or-drop j l (length w + (k - j - length w)) d
    ∙ ap (λ (n : ℕ). get_or l n d) (omega (arith, h))

refilled_at : {A : Type 0} (i j k : ℕ) (w l : List A) (d : A) → k < length l → get_or (refilled j w l) k d ≡ (if is_in (part i j w) i k then get_or w (k - j) (get_or l k d) else get_or l k d)
refilled_at {A} i j k w l d lt =
    let rest : List A = w ++ drop (length w) (drop j l) in
    let whole = get_or-take (length l) (take j l ++ rest) k d lt in
    elim (cases_lt k j) [
      | inl front ↦ (let n = length-take j l in whole ∙ get_or_append_left (take j l) rest d k (omega (arith, n)) ∙ get_or-take j l k d front ∙ grind (arith, nat_tests))
      | inr from ↦ (let shifted = whole ∙ get_or-append_right (take j l) rest j k d (length-take-le j l (omega arith)) from in
          elim (cases_lt (k - j) (length w)) [
            | inl within ↦ shifted ∙ get_or_append_left w (drop (length w) (drop j l)) d (k - j) within ∙ get_or_default w (k - j) d (get_or l k d) within ∙ grind (arith, nat_tests)
            | inr behind ↦ shifted ∙ refilled_behind j k w l d (omega (arith, behind)) (omega arith) ∙ grind (arith, nat_tests)
          ])
    ]

-- the line is drawn anew in the part only
pub refilled_is_drawn : {A : Type 0} (i j : ℕ) (w l : List A) → refilled j w l ≡ line_drawn (λ k old. if is_in (part i j w) i k then get_or w (k - j) old else old) 0 l
refilled_is_drawn i j w l = line_is_drawn (λ k old. if is_in (part i j w) i k then get_or w (k - j) old else old) l (refilled j w l) (length-refilled j w l)
    (λ k d lt. refilled_at i j k w l d lt)

off_part : {A : Type 0} (i j y k : ℕ) (w : List A) (old : A) → y ≢ i → (if is_in (part i j w) y k then get_or w (k - j) old else old) ≡ old
off_part i j y k w old other = grind (arith, nat_tests)

-- the grid is drawn anew in the part only
pub part_is_written : {A : Type 0} (i j : ℕ) (w : List A) (g : List (List A)) → i < length g → set g i (refilled j w (line_at g i)) ≡ part_written i j w g
part_is_written i j w g lt = written_line_is_drawn i (λ y k old. if is_in (part i j w) y k then get_or w (k - j) old else old) (refilled j w (line_at g i)) g lt
    (refilled_is_drawn i j w (line_at g i)) (λ y k old other. off_part i j y k w old other)
