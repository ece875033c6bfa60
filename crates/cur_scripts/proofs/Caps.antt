-- Numbers capped at each step are capped at the end, and no limit can tell the difference.
use Rattle.std.proofs.Common.{◌≡◌, ℕ, ◌+◌, ◌*◌, ◌<◌, ◌≤◌, List, [], ◌∷◌, Option, Some, None, length, drop, get_or, drop-cons, add-one, refl, sym, ap, ◌∙◌, arith}
use Rattle.std.specs.Prelude.{option_map}
use Rattle.std.proofs.lemmas.Bool.Decides.{nat_tests}
use Rattle.cur_scripts.specs.Cuts.{◌>>=◌}
use Rattle.cur_scripts.specs.Numbers.{digit_in, spelled_after, at_most, capped}

cap_twice : (n : ℕ) → capped (capped n) ≡ capped n
cap_twice n = grind (arith, nat_tests)

cap_step : (digit n : ℕ) → capped (capped n * 10 + digit) ≡ capped (n * 10 + digit)
cap_step digit n = grind (arith, nat_tests)

next : (n : ℕ) (rest : List ℕ) (digit : Option ℕ) → ((k : ℕ) → option_map capped (spelled_after (capped k) rest) ≡ option_map capped (spelled_after k rest)) → option_map capped (digit >>= λ d. spelled_after (capped n * 10 + d) rest) ≡ option_map capped (digit >>= λ d. spelled_after (n * 10 + d) rest)
next n rest None same = refl
next n rest (Some d) same = sym (same (capped n * 10 + d)) ∙ (ap (λ k. option_map capped (spelled_after k rest)) (cap_step d n) ∙ same (n * 10 + d))

pub cap_from : (n : ℕ) (text : List ℕ) → option_map capped (spelled_after (capped n) text) ≡ option_map capped (spelled_after n text)
cap_from n [] = ap Some (cap_twice n)
cap_from n (b ∷ rest) = next n rest (digit_in b) (λ k. cap_from k rest)

-- one more digit
pub digit_more : (n digit b : ℕ) (rest : List ℕ) → digit_in b ≡ Some digit → option_map capped (spelled_after (capped (n * 10 + digit)) rest) ≡ option_map capped (spelled_after n (b ∷ rest))
digit_more n digit b rest e = cap_from (n * 10 + digit) rest ∙ sym (ap (λ o. option_map capped (o >>= λ d. spelled_after (n * 10 + d) rest)) e)

-- the digit at a place of a text
pub digit_at : (n digit i : ℕ) (text : List ℕ) → i < length text → digit_in (get_or text i 0) ≡ Some digit → option_map capped (spelled_after (capped (n * 10 + digit)) (drop (i + 1) text)) ≡ option_map capped (spelled_after n (drop i text))
digit_at n digit i text inside e =
    let here : drop i text ≡ get_or text i 0 ∷ drop (i + 1) text = rw (add-one, drop-cons text i 0) refl in
    digit_more n digit (get_or text i 0) (drop (i + 1) text) e ∙ ap (λ xs. option_map capped (spelled_after n xs)) (sym here)

limited_at : (limit n : ℕ) → limit ≤ 2147483648 → at_most limit (capped n) ≡ at_most limit n
limited_at limit n h = grind (arith, nat_tests)

-- a limit that is not above the cap
pub limited : (limit : ℕ) (o read : Option ℕ) → limit ≤ 2147483648 → read ≡ option_map capped o → (read >>= λ n. at_most limit n) ≡ (o >>= λ n. at_most limit n)
limited limit None read h e = ap (λ r. r >>= λ n. at_most limit n) e
limited limit (Some n) read h e = ap (λ r. r >>= λ n. at_most limit n) e ∙ limited_at limit n h
