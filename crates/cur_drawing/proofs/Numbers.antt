-- Cells by their numbers: equal cells have equal numbers, and if the mask of the lanes that differ is 0, all lanes
-- are equal.
use Rattle.std.proofs.Common.{◌≡◌, ℕ, ◌%◌, ◌/◌, ◌^◌, ◌<◌, List, Bool, true, false, not, eqb, cond, length, get_or, sym, ap, ◌∙◌, refl, arith}
use Rattle.std.proofs.Math.Nat.{zero-div}
use Rattle.cur_drawing.specs.Cells.{Content, content_of}
use Rattle.std.specs.Simd.Lanes.{zip2, mask_l}
use Rattle.std.proofs.lemmas.Simd.{length-zip2, get_or-zip2, bit_mask_l, mask_l-mod}
use Rattle.std.proofs.lemmas.Bool.{eqb-true, not-false}

pub equal_numbers : (m n : ℕ) → content_of m ≡ content_of n → m ≡ n
equal_numbers m n h =
    let bytes : m % 256 ≡ n % 256 = ap (λ (c : Content). c.byte) h in
    let attributes : m / 256 % 256 ≡ n / 256 % 256 = ap (λ (c : Content). c.attrs) h in
    let pairs : m / 256 / 256 ≡ n / 256 / 256 = ap (λ (c : Content). c.pair) h in
    omega (arith, bytes, attributes, pairs)

-- the two upper parts of a number
pub same_styles : (m n : ℕ) → m / 256 ≡ n / 256 → (m / 256 % 256 ≡ n / 256 % 256) × (m / 256 / 256 ≡ n / 256 / 256)
same_styles m n h = (ap (λ (k : ℕ). k % 256) h, ap (λ (k : ℕ). k / 256) h)

pub equal_styles : (m n : ℕ) → m / 256 % 256 ≡ n / 256 % 256 → m / 256 / 256 ≡ n / 256 / 256 → m / 256 ≡ n / 256
equal_styles m n attributes pairs = omega (arith, attributes, pairs)

-- the test that two numbers differ
abbrev pub differ : ℕ → ℕ → Bool
differ a b = not (eqb a b)

unset : (b : Bool) → cond {A = ℕ} b 1 0 ≡ 0 → b ≡ false
unset true h = absurd (omega (arith, h))
unset false h = refl

pub equal_lanes : (a b : List ℕ) → length a ≡ 8 → length b ≡ 8 → mask_l (zip2 differ a b) % 2 ^ 64 ≡ 0 → (j : ℕ) → j < 8 → get_or a j 0 ≡ get_or b j 0
equal_lanes a b long_a long_b none j lt =
    let long : length (zip2 differ a b) ≡ 8 = length-zip2 differ a b (long_a ∙ sym long_b) ∙ long_a in
    let empty : mask_l (zip2 differ a b) ≡ 0 = sym (mask_l-mod (zip2 differ a b) 64 (omega (arith, long))) ∙ none in
    let bit : cond {A = ℕ} (get_or (zip2 differ a b) j false) 1 0 ≡ 0 = sym (bit_mask_l (zip2 differ a b) j) ∙ ap (λ n. n / 2 ^ j % 2) empty ∙ nothing (2 ^ j) in
    let same : differ (get_or a j 0) (get_or b j 0) ≡ false = sym (get_or-zip2 differ a b j 0 0 false (omega arith) (omega arith)) ∙ unset _ bit in
    eqb-true _ _ (not-false _ same)
  where
    nothing : (n : ℕ) → 0 / n % 2 ≡ 0
    nothing n = ap (λ (m : ℕ). m % 2) (zero-div n)
