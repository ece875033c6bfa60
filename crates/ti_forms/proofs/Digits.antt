-- A number's digits, one after another.
use Rattle.std.proofs.Common.{◌≡◌, ℕ, ◌+◌, ◌/◌, ◌%◌, ◌<◌, ◌≤◌, ◌^◌, List, [], ◌∷◌, ◌++◌, sym, ap, ◌∙◌, arith, append_assoc, lit<}
use Rattle.std.specs.Fmt.{decimal}
use Rattle.std.proofs.lemmas.Fmt.{decimal_digit, decimal_step}

small : (n : ℕ) → n < 1000 → n < 2 ^ 64
small n h = omega (arith, h, lit< {m = 1000} {n = 2 ^ 64} tt)

last_digit : (n : ℕ) → decimal (n % 10) ≡ (48 + n % 10) ∷ []
last_digit n = decimal_digit (n % 10) (omega arith)

-- the digits before the last one, and then the last one
pub digits_join : (n : ℕ) (front middle bytes : List ℕ) → 10 ≤ n → n < 1000 → middle ≡ front ++ decimal (n / 10) → bytes ≡ middle ++ decimal (n % 10) → bytes ≡ front ++ decimal n
digits_join n front middle bytes h k e f =
    f ∙ ap (λ (l : List ℕ). l ++ decimal (n % 10)) e ∙ append_assoc front (decimal (n / 10)) (decimal (n % 10))
    ∙ ap (λ (l : List ℕ). front ++ (decimal (n / 10) ++ l)) (last_digit n)
    ∙ ap (λ (l : List ℕ). front ++ l) (sym (decimal_step n h (small n k)))

pub digit_pushed : (n pushed : ℕ) (front bytes : List ℕ) → n < 10 → pushed ≡ 48 + n → bytes ≡ front ++ pushed ∷ [] → bytes ≡ front ++ decimal n
digit_pushed n pushed front bytes h e f = f ∙ ap (λ (b : ℕ). front ++ b ∷ []) e ∙ ap (λ (l : List ℕ). front ++ l) (sym (decimal_digit n h))
