-- A text cut at one byte.
use Rattle.std.proofs.Common.{◌≡◌, ℕ, ◌+◌, ◌<◌, ◌≤◌, List, [], ◌∷◌, ◌++◌, Some, None, Bool, true, false, not, cond, refl, sym, ◌∙◌, ap, length, take, drop, arith, ◌==◌}
use Rattle.std.specs.Prelude.{nat_lt}
use Rattle.std.specs.List.{position, position_or_len, slice_split, onto_first, list_all, join_with_byte}
use Rattle.std.proofs.lemmas.Bool.{ltb-true, ltb-false, and_parts, not-true}
use Rattle.std.proofs.lemmas.Bool.Decides.{nat_tests}
use Rattle.std.proofs.lemmas.Option.{cond_some}
use Rattle.std.proofs.lemmas.List.Elements.{All-from_get_or}
use Rattle.std.proofs.lemmas.List.Sums.{fails_before_first}
use Rattle.std.proofs.lemmas.List.Splits.{slice_split_first, slice_split_none, slice_split-cons_no, slice_split-cons_yes, join_with_byte-slice_split, length-slice_split}
use Rattle.ti_lines.specs.EffectReader.{parts_of}

pub cut_found : (c : ℕ) (text : List ℕ) (at : ℕ) → Some at ≡ position (λ b. b == c) text → parts_of c text ≡ take at text ∷ parts_of c (drop (at + 1) text)
unfolding parts_of
cut_found c text at is =
    let parts = cond_some (nat_lt (position_or_len (λ b. b == c) text) (length text)) (position_or_len (λ b. b == c) text) at (sym is) in
    rw (← parts.1) (slice_split_first (λ b. b == c) text 0 (ltb-true _ _ parts.0))

all_fail : (test : ℕ → Bool) (xs : List ℕ) → length xs ≤ position_or_len test xs → slice_split test xs ≡ xs ∷ []
all_fail test xs past = slice_split_none test xs (All-from_get_or (λ x. test x ≡ false) xs 0 (λ i less. fails_before_first test xs i 0 (omega (arith, less, past))))

none_from_cond : (b : Bool) (x : ℕ) → None ≡ cond b (Some x) None → b ≡ false
none_from_cond true x is = cc
none_from_cond false x is = refl

pub cut_none : (c : ℕ) (text : List ℕ) → None ≡ position (λ b. b == c) text → parts_of c text ≡ text ∷ []
unfolding parts_of
cut_none c text is = all_fail (λ b. b == c) text (ltb-false _ _ (none_from_cond _ _ is))

pub parts_joined : (c : ℕ) (text : List ℕ) → join_with_byte c (parts_of c text) ≡ text
unfolding parts_of
parts_joined c text = join_with_byte-slice_split c text

pub some_part : (c : ℕ) (text : List ℕ) → 0 < length (parts_of c text)
unfolding parts_of
some_part c text = omega (arith, length-slice_split (λ b. b == c) text)

-- the byte is not in the list
abbrev pub lacks : ℕ → List ℕ → Bool
lacks c xs = list_all (λ b. not (b == c)) xs

pub split_whole : (c : ℕ) (xs : List ℕ) → lacks c xs ≡ true → parts_of c xs ≡ xs ∷ []
unfolding parts_of
split_whole c [] h = refl
split_whole c (x ∷ xs) h =
    let p = and_parts (not (x == c)) (lacks c xs) h in
    slice_split-cons_no (λ b. b == c) x xs (not-true (x == c) p.0) ∙ ap (onto_first x) (split_whole c xs p.1)

pub split_front : (c : ℕ) (xs rest : List ℕ) → lacks c xs ≡ true → parts_of c (xs ++ c ∷ rest) ≡ xs ∷ parts_of c rest
unfolding parts_of
split_front c [] rest h = let e : (c == c) ≡ true = grind (arith, nat_tests) in slice_split-cons_yes (λ b. b == c) c rest e
split_front c (x ∷ xs) rest h =
    let p = and_parts (not (x == c)) (lacks c xs) h in
    slice_split-cons_no (λ b. b == c) x (xs ++ c ∷ rest) (not-true (x == c) p.0) ∙ ap (onto_first x) (split_front c xs rest p.1)

-- none of these has the byte
abbrev pub AllLack : ℕ → List (List ℕ) → Type 0
AllLack c [] = Unit {0}
AllLack c (w ∷ ws) = (lacks c w ≡ true) × AllLack c ws

pub split_joined : (c : ℕ) (w : List ℕ) (ws : List (List ℕ)) → AllLack c (w ∷ ws) → parts_of c (join_with_byte c (w ∷ ws)) ≡ w ∷ ws
split_joined c w [] h = split_whole c w h.0
split_joined c w (v ∷ ws) h = split_front c w (join_with_byte c (v ∷ ws)) h.0 ∙ ap (λ (l : List (List ℕ)). w ∷ l) (split_joined c v ws h.1)
