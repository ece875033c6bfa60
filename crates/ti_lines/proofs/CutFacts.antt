-- A text cut at one byte.
use Rattle.std.proofs.Common.{◌≡◌, ℕ, suc, ◌+◌, ◌==◌, Bool, true, false, not, ◌&&◌, cond, if◌then◌else◌, List, [], ◌∷◌, ◌++◌, Option, None, Some, length, take, drop, refl, ap, ◌∙◌, arith}
use Rattle.std.specs.Prelude.{nat_lt}
use Rattle.std.specs.Option.{option_map}
use Rattle.std.specs.List.{position, position_or_len}
use Rattle.std.proofs.lemmas.Bool.Decides.{nat_tests}
use Rattle.std.proofs.lemmas.Option.{some_pair_parts}
use Rattle.ti_lines.specs.Cut.{cut_at}
use Rattle.ti_lines.proofs.TextCuts.{lacks}

-- the first `n` bytes, and those after one more
abbrev pub around : List ℕ → Option ℕ → Option (List ℕ × List ℕ)
around text o = option_map (λ n. (take n text, drop (n + 1) text)) o

abbrev starts : List ℕ → Option (List ℕ × List ℕ)
starts text = Some ([], text)

abbrev place : ℕ → ℕ → Option ℕ
place n len = if nat_lt n len then Some n else None

both_more : (n len : ℕ) → nat_lt (suc n) (suc len) ≡ nat_lt n len
both_more n len = grind (arith, nat_tests)

one_more : (b : ℕ) (text : List ℕ) (n : ℕ) (t : Bool) → around (b ∷ text) (if t then Some (suc n) else None) ≡ option_map (λ p. (b ∷ p.0, p.1)) (around text (if t then Some n else None))
one_more b text n true = let e : suc n + 1 ≡ suc (n + 1) = omega arith in ap (λ k. Some (b ∷ take n text, drop k (b ∷ text))) e
one_more b text n false = refl

moved : (b : ℕ) (text : List ℕ) (n len : ℕ) → around (b ∷ text) (place (1 + n) (suc len)) ≡ option_map (λ p. (b ∷ p.0, p.1)) (around text (place n len))
moved b text n len =
    let e : 1 + n ≡ suc n = omega arith in
    ap (λ m. around (b ∷ text) (place m (suc len))) e ∙ (ap (λ t. around (b ∷ text) (if t then Some (suc n) else None)) (both_more n len) ∙ one_more b text n (nat_lt n len))

step : (b : ℕ) (text : List ℕ) (n : ℕ) (o : Option (List ℕ × List ℕ)) (t : Bool) → around text (place n (length text)) ≡ o
    → around (b ∷ text) (place (cond (not t) (1 + n) 0) (suc (length text))) ≡ (if t then Some ([], text) else option_map (λ p. (b ∷ p.0, p.1)) o)
step b text n o true h =
    let e : nat_lt 0 (suc (length text)) ≡ true = grind (arith, nat_tests) in
    ap (λ t. around (b ∷ text) (if t then Some 0 else None)) e
step b text n o false h = moved b text n (length text) ∙ ap (option_map (λ p. (b ∷ p.0, p.1))) h

pub cut_found : (c : ℕ) (text : List ℕ) → around text (position (λ b. b == c) text) ≡ cut_at c text
cut_found c [] = refl
cut_found c (b ∷ text) = step b text (position_or_len (λ d. d == c) text) (cut_at c text) (b == c) (cut_found c text)

front_rest : (b : ℕ) (front rest tail : List ℕ) (o : Option (List ℕ × List ℕ)) (t more : Bool) → (not t && more) ≡ true → (more ≡ true → o ≡ Some (front, rest))
    → (if t then starts tail else option_map (λ p. (b ∷ p.0, p.1)) o) ≡ Some (b ∷ front, rest)
front_rest b front rest tail o true more h deeper = cc
front_rest b front rest tail o false more h deeper = ap (option_map (λ p. (b ∷ p.0, p.1))) (deeper h)

itself : (c : ℕ) → (c == c) ≡ true
itself c = grind (arith, nat_tests)

pub cut_front : (c : ℕ) (front rest : List ℕ) → lacks c front ≡ true → cut_at c (front ++ c ∷ rest) ≡ Some (front, rest)
cut_front c [] rest h = ap (λ t. if t then starts rest else option_map (λ p. (c ∷ p.0, p.1)) (cut_at c rest)) (itself c)
cut_front c (b ∷ front) rest h = front_rest b front rest (front ++ c ∷ rest) (cut_at c (front ++ c ∷ rest)) (b == c) (lacks c front) h (cut_front c front rest)

-- a text cut in two at `c`
pub record IsCut (c : ℕ) (text before behind : List ℕ) : Type 0 where
  pub parts : text ≡ before ++ c ∷ behind
  pub lacking : lacks c before ≡ true

is_byte : (b c : ℕ) → (b == c) ≡ true → b ≡ c
is_byte b c e = grind (arith, nat_tests, e)

cut_step : (c b : ℕ) (text before behind : List ℕ) (o : Option (List ℕ × List ℕ)) (t : Bool) → (b == c) ≡ t → (if t then starts text else option_map (λ p. (b ∷ p.0, p.1)) o) ≡ Some (before, behind)
    → ((x y : List ℕ) → o ≡ Some (x, y) → IsCut c text x y) → IsCut c (b ∷ text) before behind
cut_step c b text before behind o true e h deeper =
    let p = some_pair_parts [] before text behind h in
    rw (← p.0, ← p.1) (record { parts = ap (λ (d : ℕ). d ∷ text) (is_byte b c e); lacking = refl })
cut_step c b text before behind None false e h deeper = cc
cut_step c b text before behind (Some (x, y)) false e h deeper =
    let p = some_pair_parts (b ∷ x) before y behind h in
    let d = deeper x y refl in
    rw (← p.0, ← p.1) (record { parts = ap (λ (l : List ℕ). b ∷ l) d.parts; lacking = ap (λ t. not t && lacks c x) e ∙ d.lacking })

pub cut_is : (c : ℕ) (text before behind : List ℕ) → cut_at c text ≡ Some (before, behind) → IsCut c text before behind
cut_is c [] before behind h = cc
cut_is c (b ∷ text) before behind h = cut_step c b text before behind (cut_at c text) (b == c) refl h (cut_is c text)
