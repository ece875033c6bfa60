-- Capping a number on the way is capping it at the end.
use Rattle.std.proofs.Common.{◌≡◌, ℕ, ◌+◌, ◌*◌, ◌≤◌, List, [], ◌∷◌, Option, Some, None, refl, sym, ap, ◌∙◌, ⊎_elim, arith}
use Rattle.std.specs.Prelude.{option_map, option_and_then}
use Rattle.std.proofs.Math.Nat.{mul-le-mul_left}
use Rattle.std.proofs.lemmas.Bool.{cases_lt}
use Rattle.std.proofs.lemmas.Bool.Decides.{nat_tests}
use Rattle.ti_source.specs.Numbers.{digit_in, digits_from, capped}

few : (n : ℕ) → n ≤ 2147483647 → capped n ≡ n
few n h = grind (arith, nat_tests)

many : (n : ℕ) → 2147483648 ≤ n → capped n ≡ 2147483648
many n h = grind (arith, nat_tests)

split : (n : ℕ) (P : Type 0) → (n ≤ 2147483647 → P) → (2147483648 ≤ n → P) → P
split n P low high = ⊎_elim (λ h. low (omega arith)) (λ h. high h) (cases_lt n 2147483648)

cap_twice : (n : ℕ) → capped (capped n) ≡ capped n
cap_twice n = split n (capped (capped n) ≡ capped n) (λ h. ap capped (few n h)) (λ h. ap capped (many n h) ∙ sym (many n h))

cap_step : (base digit n : ℕ) → 1 ≤ base → capped (capped n * base + digit) ≡ capped (n * base + digit)
cap_step base digit n h =
    split n (capped (capped n * base + digit) ≡ capped (n * base + digit))
    (λ low. ap (λ k. capped (k * base + digit)) (few n low))
    (λ high.
    let a = mul-le-mul_left n h in
    let b = mul-le-mul_left 2147483648 h in
    let big : 2147483648 ≤ n * base + digit = omega (arith, a) in
    let big_too : 2147483648 ≤ 2147483648 * base + digit = omega (arith, b) in
    ap (λ k. capped (k * base + digit)) (many n high) ∙ (many (2147483648 * base + digit) big_too ∙ sym (many (n * base + digit) big)))

next : (base n : ℕ) (rest : List ℕ) (digit : Option ℕ) → 1 ≤ base → ((k : ℕ) → option_map capped (digits_from base (capped k) rest) ≡ option_map capped (digits_from base k rest)) → option_map capped (option_and_then (λ d. digits_from base (capped n * base + d) rest) digit) ≡ option_map capped (option_and_then (λ d. digits_from base (n * base + d) rest) digit)
next base n rest None h same = refl
next base n rest (Some d) h same = sym (same (capped n * base + d)) ∙ (ap (λ k. option_map capped (digits_from base k rest)) (cap_step base d n h) ∙ same (n * base + d))

pub cap_from : (base n : ℕ) (text : List ℕ) → 1 ≤ base → option_map capped (digits_from base (capped n) text) ≡ option_map capped (digits_from base n text)
cap_from base n [] h = ap Some (cap_twice n)
cap_from base n (b ∷ rest) h = next base n rest (digit_in base b) h (λ k. cap_from base k rest h)

-- one more digit
pub digit_more : (base n digit b : ℕ) (rest : List ℕ) → 1 ≤ base → digit_in base b ≡ Some digit → option_map capped (digits_from base (capped (n * base + digit)) rest) ≡ option_map capped (digits_from base n (b ∷ rest))
digit_more base n digit b rest h e = cap_from base (n * base + digit) rest h ∙ sym (ap (λ o. option_map capped (option_and_then (λ d. digits_from base (n * base + d) rest) o)) e)
