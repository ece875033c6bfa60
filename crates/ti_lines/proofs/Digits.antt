-- Decimal numbers of 16 bits are read as they are written, and in no other form.
use Rattle.std.proofs.Common.{append_assoc, append-nil, ◌≡◌, ℕ, ◌+◌, ◌*◌, ◌-◌, ◌/◌, ◌%◌, ◌<◌, ◌≤◌, Bool, true, false, not, ◌&&◌, List, [], ◌∷◌, ◌++◌, get_or, Option, Some, None, refl, sym, ap, ◌∙◌, ⊎_elim, arith}
use Rattle.std.specs.Prelude.{if◌then◌else◌, ◌==◌, nat_le, nat_lt}
use Rattle.std.specs.Option.{option_and_then}
use Rattle.std.specs.Fmt.{decimal}
use Rattle.std.proofs.lemmas.Bool.{and_from, and_parts, cases_eq, cond-true, cond-false}
use Rattle.std.proofs.lemmas.Bool.Decides.{nat_tests}
use Rattle.std.proofs.lemmas.Option.{cond_some, option_and_then_some, same_Some}
use Rattle.std.proofs.lemmas.Fmt.{decimal_by_steps, decimal_digit, decimal_step, first_decimal}
use Rattle.std.proofs.lemmas.List.Folds.{list_all-append}
use Rattle.ti_lines.specs.EffectReader.{is_digit, with_digit, digits_from, after_zero, number_at, positive}
use Rattle.ti_lines.proofs.TextCuts.{lacks}

join_step : (xs ys : List ℕ) (o : Option ℕ) → ((m : ℕ) → digits_from m (xs ++ ys) ≡ option_and_then (λ k. digits_from k ys) (digits_from m xs))
    → option_and_then (λ m. digits_from m (xs ++ ys)) o ≡ option_and_then (λ k. digits_from k ys) (option_and_then (λ m. digits_from m xs) o)
join_step xs ys None h = refl
join_step xs ys (Some m) h = h m

digits_join : (n : ℕ) (xs ys : List ℕ) → digits_from n (xs ++ ys) ≡ option_and_then (λ k. digits_from k ys) (digits_from n xs)
digits_join n [] ys = refl
digits_join n (x ∷ xs) ys = join_step xs ys (with_digit n x) (λ m. digits_join m xs ys)

digit_reads : (n d : ℕ) → d < 10 → 10 * n + d < 65536 → with_digit n (48 + d) ≡ Some (10 * n + d)
digit_reads n d h k =
    let back : 48 + d - 48 ≡ d = omega arith in
    let test : (is_digit (48 + d) && nat_le (10 * n + d) 65535) ≡ true = grind (arith, nat_tests) in
    ap (λ (x : ℕ). if is_digit (48 + d) && nat_le (10 * n + x) 65535 then Some (10 * n + x) else None) back
    ∙ cond-true (is_digit (48 + d) && nat_le (10 * n + d) 65535) (Some (10 * n + d)) None test

abbrev Reads : ℕ → List ℕ → Type 0
Reads n ds = n < 65536 → digits_from 0 ds ≡ Some n

one_digit : (n : ℕ) → n < 10 → Reads n ((48 + n) ∷ [])
one_digit n h k = ap (option_and_then (λ m. digits_from m [])) (digit_reads 0 n h (omega arith)) ∙ (let e : 10 * 0 + n ≡ n = omega arith in ap (λ (x : ℕ). Some x) e)

more_digits : (n : ℕ) (ds : List ℕ) → 10 ≤ n → Reads (n / 10) ds → Reads n (ds ++ ((48 + n % 10) ∷ []))
more_digits n ds h r k =
    let e : 10 * (n / 10) + n % 10 ≡ n = omega arith in
    digits_join 0 ds ((48 + n % 10) ∷ []) ∙ ap (option_and_then (λ m. digits_from m ((48 + n % 10) ∷ []))) (r (omega arith))
    ∙ ap (option_and_then (λ m. digits_from m [])) (digit_reads (n / 10) (n % 10) (omega arith) (omega (arith, e))) ∙ ap (λ (x : ℕ). Some x) e

leading : (n : ℕ) (ds : List ℕ) → 48 < get_or ds 0 0 → digits_from 0 ds ≡ Some n → number_at ds ≡ Some n
unfolding number_at
leading n [] h e = absurd (omega arith)
leading n (b ∷ ds) h e =
    let other : (b == 48) ≡ false = grind (arith, nat_tests) in
    cond-false (b == 48) (after_zero ds) (digits_from 0 (b ∷ ds)) other ∙ e

zero_reads : number_at (48 ∷ []) ≡ Some 0
unfolding number_at
zero_reads = refl

pub number_reads : (n : ℕ) → n < 65536 → number_at (decimal n) ≡ Some n
number_reads n h =
    ⊎_elim (λ (e : n ≡ 0). ap number_at (ap decimal e ∙ decimal_digit 0 (omega arith)) ∙ zero_reads ∙ ap (λ (x : ℕ). Some x) (sym e))
    (λ (e : n ≡ 0 → ⊥). leading n (decimal n) (first_decimal n (omega arith) (omega arith)) (decimal_by_steps Reads one_digit more_digits n (omega arith) h)) (cases_eq n 0)

pub positive_reads : (n : ℕ) → 0 < n → n < 65536 → positive (number_at (decimal n)) ≡ Some n
positive_reads n some h =
    let t : nat_lt 0 n ≡ true = grind (arith, nat_tests) in
    ap positive (number_reads n h) ∙ cond-true (nat_lt 0 n) (Some n) None t

-- a text that is read as a number is how the number is written
pub record IsNumber (ds : List ℕ) (n : ℕ) : Type 0 where
  pub text : ds ≡ decimal n
  pub small : n < 65536

record Digit (n b m : ℕ) : Type 0 where
  low : 48 ≤ b
  high : b ≤ 57
  value : m + 48 ≡ 10 * n + b
  small : m < 65536

is_with_digit : (n b m : ℕ) → with_digit n b ≡ Some m → Digit n b m
is_with_digit n b m h =
    let c = cond_some (is_digit b && nat_le (10 * n + (b - 48)) 65535) (10 * n + (b - 48)) m h in
    let p = and_parts (is_digit b) (nat_le (10 * n + (b - 48)) 65535) c.0 in
    let q = and_parts (nat_le 48 b) (nat_le b 57) p.0 in
    let low : 48 ≤ b = grind (arith, nat_tests) in
    let high : b ≤ 57 = grind (arith, nat_tests) in
    let most : 10 * n + (b - 48) ≤ 65535 = grind (arith, nat_tests) in
    let same = c.1 in
    record { low = low; high = high; value = omega (arith, low, same); small = omega (arith, most, same) }

digit_written : (n b m : ℕ) → 0 < n → Digit n b m → decimal m ≡ decimal n ++ b ∷ []
digit_written n b m some d =
    let ten : 10 ≤ m = omega (arith, d.value, d.low) in
    let front : m / 10 ≡ n = omega (arith, d.value, d.low, d.high) in
    let last : 48 + m % 10 ≡ b = omega (arith, d.value, d.low, d.high) in
    decimal_step m ten (omega (arith, d.small)) ∙ ap (λ (x : ℕ). decimal x ++ (48 + m % 10) ∷ []) front ∙ ap (λ (x : ℕ). decimal n ++ x ∷ []) last

digits_written : (n : ℕ) (ds : List ℕ) (m : ℕ) → 0 < n → n < 65536 → digits_from n ds ≡ Some m → (decimal n ++ ds ≡ decimal m) × (m < 65536)
digits_written n [] m some small h = let e = same_Some n m h in (append-nil (decimal n) ∙ ap decimal e, omega (arith, e))
digits_written n (b ∷ ds) m some small h =
    option_and_then_some (λ k. digits_from k ds) (with_digit n b) m h (λ k e f.
    let d = is_with_digit n b k e in
    let r = digits_written k ds m (omega (arith, d.value, d.low)) d.small f in
    (sym (append_assoc (decimal n) (b ∷ []) ds) ∙ ap (λ (l : List ℕ). l ++ ds) (sym (digit_written n b k some d)) ∙ r.0, r.1))

first_written : (b : ℕ) (ds : List ℕ) (m : ℕ) → (b == 48) ≡ false → digits_from 0 (b ∷ ds) ≡ Some m → IsNumber (b ∷ ds) m
first_written b ds m other h =
    option_and_then_some (λ k. digits_from k ds) (with_digit 0 b) m h (λ k e f.
    let d = is_with_digit 0 b k e in
    let no_zero : b ≡ 48 → ⊥ = grind (arith, nat_tests) in
    let some : 0 < k = omega (arith, d.value, d.low, no_zero) in
    let one : 48 + k ≡ b = omega (arith, d.value) in
    let r = digits_written k ds m some d.small f in
    record { text = ap (λ (x : ℕ). x ∷ ds) (sym one) ∙ ap (λ (l : List ℕ). l ++ ds) (sym (decimal_digit k (omega (arith, one, d.high)))) ∙ r.0; small = r.1 })

zero_written : (b : ℕ) (ds : List ℕ) (m : ℕ) → (b == 48) ≡ true → after_zero ds ≡ Some m → IsNumber (b ∷ ds) m
zero_written b [] m zero h =
    let e : b ≡ 48 = grind (arith, nat_tests) in
    let z : 0 ≡ m = same_Some 0 m h in
    record { text = ap (λ (x : ℕ). x ∷ []) e ∙ sym (decimal_digit 0 (omega arith)) ∙ ap decimal z; small = omega (arith, z) }
zero_written b (d ∷ ds) m zero h = absurd (cc)

by_zero : (t : Bool) (b : ℕ) (ds : List ℕ) (m : ℕ) → (b == 48) ≡ t → (if t then after_zero ds else digits_from 0 (b ∷ ds)) ≡ Some m → IsNumber (b ∷ ds) m
by_zero true b ds m e h = zero_written b ds m e h
by_zero false b ds m e h = first_written b ds m e h

pub number_written : (ds : List ℕ) (n : ℕ) → number_at ds ≡ Some n → IsNumber ds n
unfolding number_at
number_written [] n h = absurd (cc)
number_written (b ∷ ds) n h = by_zero (b == 48) b ds n refl h

pub positive_written : (ds : List ℕ) (n : ℕ) → positive (number_at ds) ≡ Some n → IsNumber ds n × (0 < n)
positive_written ds n h = by_value (number_at ds) refl h
  where
    by_value : (o : Option ℕ) → number_at ds ≡ o → positive o ≡ Some n → IsNumber ds n × (0 < n)
    by_value None e h = absurd (cc)
    by_value (Some k) e h =
        let c = cond_some (nat_lt 0 k) k n h in
        let t = c.0 in
        let some : 0 < k = grind (arith, nat_tests) in
        (number_written ds n (e ∙ ap (λ (x : ℕ). Some x) c.1), omega (arith, some, c.1))

-- digits have no byte below 48
abbrev Lacking : ℕ → ℕ → List ℕ → Type 0
Lacking c n ds = lacks c ds ≡ true

digit_lacks : (c d : ℕ) → c < 48 → lacks c ((48 + d) ∷ []) ≡ true
digit_lacks c d h = let e : ((48 + d) == c) ≡ false = grind (arith, nat_tests) in ap (λ t. not t && true) e

pub decimal_lacks : (c n : ℕ) → c < 48 → n < 65536 → lacks c (decimal n) ≡ true
decimal_lacks c n h k = decimal_by_steps (Lacking c) (λ m l. digit_lacks c m h)
    (λ m ds l r. list_all-append (λ b. not (b == c)) ds ((48 + m % 10) ∷ []) ∙ and_from (lacks c ds) (lacks c ((48 + m % 10) ∷ [])) r (digit_lacks c (m % 10) h)) n (omega arith)
