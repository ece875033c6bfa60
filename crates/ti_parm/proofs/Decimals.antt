-- The digits of a number in a base, from the last to the first.
use Rattle.std.proofs.Common.{◌≡◌, ℕ, zero, suc, ◌+◌, ◌-◌, ◌*◌, ◌<◌, ◌≤◌, ◌/◌, ◌%◌, ◌^◌, Bool, List, ◌∷◌, length, drop, set, ap, arith, ◌∙◌, sym}
use Rattle.std.proofs.Math.ListN.{drop_of_length-le}
use Rattle.std.proofs.Math.Nat.{pow-suc, div-lt_iff_lt-mul}
use Rattle.std.proofs.lemmas.List.{drop-set}
use Rattle.std.specs.Fmt.{digit_glyph, digits, digits_onto}

-- the digits of a number, prepended to later ones, as far as there are places left
unfoldable pub digits_before : ℕ → ℕ → Bool → ℕ → List ℕ → List ℕ
digits_before places base upper n later = digits_onto (52 + places) base upper n later

pub digits_before-all : (base : ℕ) (upper : Bool) (n : ℕ) (places : List ℕ) → length places ≡ 12 → digits_before 12 base upper n (drop 12 places) ≡ digits base upper n
unfolding digits digits_before
digits_before-all base upper n places h = ap (digits_onto 64 base upper n) (let within : length places ≤ 12 = omega arith in drop_of_length-le places within)

onto-more : (k base : ℕ) (upper : Bool) (n : ℕ) (later : List ℕ) → 0 < n / base → digits_onto (suc k) base upper n later ≡ digits_onto k base upper (n / base) (digit_glyph upper (n % base) ∷ later)
onto-more k base upper n later h = grind (arith)

onto-last : (k base : ℕ) (upper : Bool) (n : ℕ) (later : List ℕ) → n / base ≡ 0 → digits_onto (suc k) base upper n later ≡ digit_glyph upper (n % base) ∷ later
onto-last k base upper n later h = grind (arith)

onto-same : (start base : ℕ) (upper : Bool) (n : ℕ) (places : List ℕ) → 0 < start → digits_onto (suc (52 + (start - 1))) base upper n (drop start places) ≡ digits_onto (52 + start) base upper n (drop start places)
onto-same start base upper n places p = let e : suc (52 + (start - 1)) ≡ 52 + start = omega arith in ap (λ k. digits_onto k base upper n (drop start places)) e

-- a digit is written to its place
placed : (places : List ℕ) (start digit : ℕ) → 0 < start → start ≤ length places → drop (start - 1) (set places (start - 1) digit) ≡ digit ∷ drop start places
placed places start digit p q =
    let e : start - 1 + 1 ≡ start = omega arith in
    drop-set places (start - 1) digit (omega arith) ∙ ap (λ i. digit ∷ drop i places) e

pub digits_before-more : (places : List ℕ) (start base : ℕ) (upper : Bool) (n digit : ℕ) → digit ≡ digit_glyph upper (n % base) → 0 < start → start ≤ length places → 0 < n / base → digits_before (start - 1) base upper (n / base) (drop (start - 1) (set places (start - 1) digit)) ≡ digits_before start base upper n (drop start places)
unfolding digits_before
digits_before-more places start base upper n digit e p q h =
    ap (digits_onto (52 + (start - 1)) base upper (n / base)) (placed places start digit p q ∙ ap (λ d. d ∷ drop start places) e)
    ∙ sym (onto-more (52 + (start - 1)) base upper n (drop start places) h)
    ∙ onto-same start base upper n places p

pub digits_before-last : (places : List ℕ) (start base : ℕ) (upper : Bool) (n digit : ℕ) → digit ≡ digit_glyph upper (n % base) → 0 < start → start ≤ length places → n / base ≡ 0 → drop (start - 1) (set places (start - 1) digit) ≡ digits_before start base upper n (drop start places)
unfolding digits_before
digits_before-last places start base upper n digit e p q h =
    placed places start digit p q
    ∙ ap (λ d. d ∷ drop start places) e
    ∙ sym (onto-last (52 + (start - 1)) base upper n (drop start places) h)
    ∙ onto-same start base upper n places p

more-than-one : (k n : ℕ) → 0 < n → n < 8 ^ k → 0 < k
more-than-one zero n h q = absurd (omega arith)
more-than-one (suc k) n h q = omega arith

less-in_base : (base n m : ℕ) → 8 ≤ base → n < m * 8 → n / base < m
less-in_base base n m h below = (div-lt_iff_lt-mul {k = base} {x = n} {y = m} (omega arith)).1 (grind (arith))

-- there is a place for each digit
pub place-left : (start base n : ℕ) → 8 ≤ base → 1 ≤ start → n < 8 ^ start → 0 < n / base → (1 ≤ start - 1) × (n / base < 8 ^ (start - 1))
place-left start base n b p small h =
    let k = start - 1 in
    let e : start ≡ suc k = omega arith in
    let below : n < 8 ^ k * 8 = rw (← pow-suc 8 k, ← e) small in
    let less : n / base < 8 ^ k = less-in_base base n (8 ^ k) b below in
    let some : 0 < k = more-than-one k (n / base) h less in
    (omega arith, less)
