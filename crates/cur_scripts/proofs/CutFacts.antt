-- A text cut at one byte.
use Rattle.std.proofs.Common.{◌≡◌, ℕ, suc, ◌+◌, ◌==◌, Bool, true, false, not, cond, if◌then◌else◌, List, [], ◌∷◌, Option, None, Some, length, take, drop, refl, sym, ap, subst, ◌∙◌, arith}
use Rattle.std.specs.Prelude.{nat_lt, slice_index}
use Rattle.std.specs.Option.{option_map}
use Rattle.std.specs.List.{position, position_or_len, onto_first}
use Rattle.std.proofs.lemmas.Bool.Decides.{nat_tests}
use Rattle.std.proofs.lemmas.List.Sums.{position_or_len_is}
use Rattle.memchr.specs.Find.{IsFirstByte, is_byte}
use Rattle.cur_scripts.specs.Cuts.{cut_at, parts_of}

-- the first `n` bytes, and those after one more
abbrev pub around : List ℕ → Option ℕ → Option (List ℕ × List ℕ)
around text o = option_map (λ n. (take n text, drop (n + 1) text)) o

abbrev starts : List ℕ → Option (List ℕ × List ℕ)
starts text = Some ([], text)

abbrev place : ℕ → ℕ → Option ℕ
place n len = if nat_lt n len then Some n else None

both_more : (n len : ℕ) → nat_lt (suc n) (suc len) ≡ nat_lt n len
both_more n len = grind (arith, nat_tests)

one_more : (b : ℕ) (text : List ℕ) (n : ℕ) (t : Bool) → around (b ∷ text) (if t then Some (suc n) else None) ≡ option_map (λ p. (b ∷ p.0, p.1)) (around text (if t then Some n else None))
one_more b text n true = let e : suc n + 1 ≡ suc (n + 1) = omega arith in ap (λ k. Some (b ∷ take n text, drop k (b ∷ text))) e
one_more b text n false = refl

moved : (b : ℕ) (text : List ℕ) (n len : ℕ) → around (b ∷ text) (place (1 + n) (suc len)) ≡ option_map (λ p. (b ∷ p.0, p.1)) (around text (place n len))
moved b text n len =
    let e : 1 + n ≡ suc n = omega arith in
    ap (λ m. around (b ∷ text) (place m (suc len))) e ∙ (ap (λ t. around (b ∷ text) (if t then Some (suc n) else None)) (both_more n len) ∙ one_more b text n (nat_lt n len))

step : (b : ℕ) (text : List ℕ) (n : ℕ) (o : Option (List ℕ × List ℕ)) (t : Bool) → around text (place n (length text)) ≡ o
    → around (b ∷ text) (place (cond (not t) (1 + n) 0) (suc (length text))) ≡ (if t then Some ([], text) else option_map (λ p. (b ∷ p.0, p.1)) o)
step b text n o true h =
    let e : nat_lt 0 (suc (length text)) ≡ true = grind (arith, nat_tests) in
    ap (λ t. around (b ∷ text) (if t then Some 0 else None)) e
step b text n o false h = moved b text n (length text) ∙ ap (option_map (λ p. (b ∷ p.0, p.1))) h

pub cut_found : (c : ℕ) (text : List ℕ) → around text (position (λ b. b == c) text) ≡ cut_at c text
cut_found c [] = refl
cut_found c (b ∷ text) = step b text (position_or_len (λ d. d == c) text) (cut_at c text) (b == c) (cut_found c text)

-- the first part of a text that is cut is the one before the cut, and the other parts are those of the text after it
abbrev pub Parts : ℕ → List ℕ → Option (List ℕ × List ℕ) → Type 0
Parts c text None = parts_of c text ≡ text ∷ []
Parts c text (Some p) = parts_of c text ≡ p.0 ∷ parts_of c p.1

parts_step : (c b : ℕ) (text : List ℕ) (o : Option (List ℕ × List ℕ)) (t : Bool) → (b == c) ≡ t → Parts c text o → Parts c (b ∷ text) (if t then Some ([], text) else option_map (λ p. (b ∷ p.0, p.1)) o)
parts_step c b text o true e h = ap (λ t. cond t ([] ∷ parts_of c text) (onto_first b (parts_of c text))) e
parts_step c b text None false e h = ap (λ t. cond t ([] ∷ parts_of c text) (onto_first b (parts_of c text))) e ∙ ap (onto_first b) h
parts_step c b text (Some p) false e h = ap (λ t. cond t ([] ∷ parts_of c text) (onto_first b (parts_of c text))) e ∙ ap (onto_first b) h

pub parts_cut : (c : ℕ) (text : List ℕ) → Parts c text (cut_at c text)
parts_cut c [] = refl
parts_cut c (b ∷ text) = parts_step c b text (cut_at c text) (b == c) refl (parts_cut c text)

-- the parts of a text, from an equation about its cut
pub part_alone : (c : ℕ) (text : List ℕ) → cut_at c text ≡ None → parts_of c text ≡ text ∷ []
part_alone c text e = subst (λ o. Parts c text o) e (parts_cut c text)

pub part_first : (c : ℕ) (text before behind : List ℕ) → cut_at c text ≡ Some (before, behind) → parts_of c text ≡ before ∷ parts_of c behind
part_first c text before behind e = subst (λ o. Parts c text o) e (parts_cut c text)

-- ---- the place of the first such byte, as a search finds it

not_true : (t : Bool) → (t ≡ true → ⊥) → t ≡ false
not_true true n = absurd (n refl)
not_true false n = refl

pub place_found : (c : ℕ) (text : List ℕ) (found : Option ℕ) → IsFirstByte (is_byte c) text found → found ≡ position (λ b. b == c) text
place_found c text None nowhere =
    let all = position_or_len_is (λ b. b == c) text (length text) 0 (omega arith) (λ k lt. not_true (slice_index text k == c) (nowhere k (omega arith) lt)) (λ lt. absurd (omega (arith, lt))) in
    let outside : nat_lt (length text) (length text) ≡ false = grind (arith, nat_tests) in
    sym (ap (λ n. place n (length text)) all ∙ ap (λ t. if t then Some (length text) else None) outside)
place_found c text (Some at) (first, here) =
    let is = position_or_len_is (λ b. b == c) text at 0 (omega (arith, first.high)) (λ k lt. not_true (slice_index text k == c) (first.before k (omega arith) lt)) (λ lt. here) in
    let inside : nat_lt at (length text) ≡ true = grind (arith, nat_tests, first.high) in
    sym (ap (λ n. place n (length text)) is ∙ ap (λ t. if t then Some at else None) inside)
