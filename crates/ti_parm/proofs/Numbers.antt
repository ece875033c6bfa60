-- Reading a number digit by digit, capped at a limit.
use Rattle.std.proofs.Common.{◌≡◌, ◌⊎◌, inl, inr, ℕ, zero, suc, Option, Some, None, ◌+◌, ◌-◌, ◌*◌, ◌≤◌, min, Bool, true, false, cond, List, [], ◌∷◌, refl, ap, ◌∙◌, arith}
use Rattle.ti_parm.specs.Codes.{behind_digits, digit_at, is_digit, number_on}

either-above : (d : Bool) (m n k : ℕ) → k ≤ m → k ≤ n → k ≤ cond d m n
either-above true m n k p q = p
either-above false m n k p q = q

number_on-above : (n k : ℕ) (text : List ℕ) → k ≤ n → k ≤ number_on n text
number_on-above n k [] h = h
number_on-above n k (b ∷ rest) h = either-above (is_digit b) _ n k (number_on-above (10 * n + (b - 48)) k rest (omega arith)) h

pub le_or_ge : (n m : ℕ) → (n ≤ m) ⊎ (m ≤ n)
le_or_ge zero m = inl (omega arith)
le_or_ge (suc n) zero = inr (omega arith)
le_or_ge (suc n) (suc m) = elim (le_or_ge n m) [ inl h ↦ inl (omega arith) | inr h ↦ inr (omega arith) ]

capped-by : (limit n : ℕ) (text : List ℕ) → (n ≤ limit) ⊎ (limit ≤ n) → min limit (number_on (min limit n) text) ≡ min limit (number_on n text)
capped-by limit n text (inl h) = let same : min limit n ≡ n = omega arith in ap (λ m. min limit (number_on m text)) same
capped-by limit n text (inr h) = omega (arith, number_on-above (min limit n) limit text (omega arith), number_on-above n limit text h)

-- above the limit more digits change nothing
pub number_on-capped : (limit n : ℕ) (text : List ℕ) → min limit (number_on (min limit n) text) ≡ min limit (number_on n text)
number_on-capped limit n text = capped-by limit n text (le_or_ge n limit)

-- the halves of a pair that is there under a condition
pub either-some : {A : Type 0} (d : Bool) (x y : A) (rest more : List ℕ) → cond {A = Option (A × List ℕ)} d (Some (x, rest)) None ≡ Some (y, more) → (d ≡ true) × (x ≡ y) × (rest ≡ more)
either-some {A = A} true x y rest more e =
    let p : ◌≡◌ {A = A × List ℕ} (x, rest) (y, more) = cc in
    (refl, ap (λ z. z.0) p, ap (λ z. z.1) p)
either-some false x y rest more e = cc

pub either-none : {A : Type 0} (d : Bool) (x : A) → cond {A = Option A} d (Some x) None ≡ None → d ≡ false
either-none true x e = cc
either-none false x e = refl

pub number_on-digit : (n digit : ℕ) (text more : List ℕ) → digit_at text ≡ Some (digit, more) → number_on n text ≡ number_on (10 * n + digit) more
number_on-digit n digit [] more e = cc
number_on-digit n digit (b ∷ rest) more e =
    let p = either-some (is_digit b) (b - 48) digit rest more e in
    ap (λ d. cond d (number_on (10 * n + (b - 48)) rest) n) p.0 ∙ ap (λ k. number_on (10 * n + k) rest) p.1 ∙ ap (number_on (10 * n + digit)) p.2

pub behind_digits-digit : (digit : ℕ) (text more : List ℕ) → digit_at text ≡ Some (digit, more) → behind_digits text ≡ behind_digits more
behind_digits-digit digit [] more e = cc
behind_digits-digit digit (b ∷ rest) more e =
    let p = either-some (is_digit b) (b - 48) digit rest more e in
    ap (λ d. cond d (behind_digits rest) (b ∷ rest)) p.0 ∙ ap behind_digits p.2

pub number_on-none : (n : ℕ) (text : List ℕ) → digit_at text ≡ None → number_on n text ≡ n
number_on-none n [] e = refl
number_on-none n (b ∷ rest) e = ap (λ d. cond d (number_on (10 * n + (b - 48)) rest) n) (either-none (is_digit b) (b - 48, rest) e)

pub behind_digits-none : (text : List ℕ) → digit_at text ≡ None → behind_digits text ≡ text
behind_digits-none [] e = refl
behind_digits-none (b ∷ rest) e = ap (λ d. cond d (behind_digits rest) (b ∷ rest)) (either-none (is_digit b) (b - 48, rest) e)
