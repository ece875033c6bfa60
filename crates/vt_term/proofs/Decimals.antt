-- Parameters digit by digit.
use Rattle.std.proofs.Common.{append_assoc, length-append, ◌≡◌, ℕ, ◌+◌, ◌-◌, ◌*◌, ◌<◌, ◌==◌, Bool, true, false, List, [], ◌∷◌, ◌++◌, length, refl, sym, ap, ◌∙◌, arith, get_or, min, map, Option, None, Some}
use Rattle.std.proofs.lemmas.Bool.Decides.{nat_tests}
use Rattle.std.proofs.lemmas.List.{same_from_push}
use Rattle.std.specs.Option.{option_to_list}
use Rattle.std.specs.Option.{unwrap_or}
use Rattle.std.specs.List.{AllByRecursion}
use Rattle.vt_term.specs.Parameters.{pieces, decimal, number_of, numbers}

pub all_append : (P : ℕ → Type 0) (xs ys : List ℕ) → AllByRecursion P xs → AllByRecursion P ys → AllByRecursion P (xs ++ ys)
all_append P [] ys h k = k
all_append P (x ∷ xs) ys h k = (h.0, all_append P xs ys h.1 k)

-- bytes without a semicolon
abbrev pub IsPiece : List ℕ → Type 0
IsPiece ds = AllByRecursion (λ b. (b == 59) ≡ false) ds

pub piece_more : (ds : List ℕ) (b : ℕ) → IsPiece ds → (b == 59) ≡ false → IsPiece (ds ++ b ∷ [])
piece_more ds b h e = all_append (λ b. (b == 59) ≡ false) ds (b ∷ []) h (e, tt)

pub pieces_piece : (ds rest : List ℕ) → IsPiece ds → pieces (ds ++ 59 ∷ rest) ≡ ds ∷ pieces rest
pieces_piece [] rest h = refl
pieces_piece (d ∷ ds) rest h = rw (h.0, pieces_piece ds rest h.1) refl

pub pieces_last : (ds : List ℕ) → IsPiece ds → pieces ds ≡ ds ∷ []
pieces_last [] h = refl
pieces_last (d ∷ ds) h = rw (h.0, pieces_last ds h.1) refl

decimal_more : (n : ℕ) (ds : List ℕ) (d : ℕ) → decimal n (ds ++ d ∷ []) ≡ 10 * decimal n ds + (d - 48)
decimal_more n [] d = refl
decimal_more n (e ∷ ds) d = decimal_more (10 * n + (e - 48)) ds d

saturated : (n d : ℕ) → min 65535 (10 * min 65535 n + d) ≡ min 65535 (10 * n + d)
saturated n d = omega arith

-- one more digit
pub number_of_more : (ds : List ℕ) (d : ℕ) → number_of (ds ++ d ∷ []) ≡ Some (min 65535 (10 * unwrap_or (number_of ds) 0 + (d - 48)))
number_of_more [] d = refl
number_of_more (e ∷ ds) d = ap (λ (n : ℕ). Some (min 65535 n)) (decimal_more 0 (e ∷ ds) d) ∙ ap (λ (n : ℕ). Some n) (sym (saturated (decimal 0 (e ∷ ds)) (d - 48)))

pub numbers_last : (bytes : List ℕ) → IsPiece bytes → numbers bytes ≡ number_of bytes ∷ []
numbers_last bytes h = ap (λ (l : List (List ℕ)). map number_of l) (pieces_last bytes h)

-- the pieces of a text, and those of the text with one more byte
pub record EndsIn (bytes : List ℕ) : Type 0 where
  pub front : List (List ℕ)
  pub last : List ℕ
  pub whole : pieces bytes ≡ front ++ last ∷ []
  pub semicolon : pieces (bytes ++ 59 ∷ []) ≡ front ++ last ∷ [] ∷ []
  pub other : (d : ℕ) → (d == 59) ≡ false → pieces (bytes ++ d ∷ []) ≡ front ++ (last ++ d ∷ []) ∷ []

behind_semicolon : (b : ℕ) (bytes : List ℕ) → (b == 59) ≡ true → EndsIn bytes → EndsIn (b ∷ bytes)
behind_semicolon b bytes e r = record {
  front = [] ∷ r.front;
  last = r.last;
  whole = rw (e, r.whole) refl;
  semicolon = rw (e, r.semicolon) refl;
  other = λ d h. rw (e, r.other d h) refl;
}

behind_other : (b : ℕ) (bytes : List ℕ) (front : List (List ℕ)) (last : List ℕ) → (b == 59) ≡ false → pieces bytes ≡ front ++ last ∷ [] → pieces (bytes ++ 59 ∷ []) ≡ front ++ last ∷ [] ∷ []
    → ((d : ℕ) → (d == 59) ≡ false → pieces (bytes ++ d ∷ []) ≡ front ++ (last ++ d ∷ []) ∷ []) → EndsIn (b ∷ bytes)
behind_other b bytes [] last e w s o = record { front = []; last = b ∷ last; whole = rw (e, w) refl; semicolon = rw (e, s) refl; other = λ d h. rw (e, o d h) refl }
behind_other b bytes (p ∷ ps) last e w s o = record { front = (b ∷ p) ∷ ps; last = last; whole = rw (e, w) refl; semicolon = rw (e, s) refl; other = λ d h. rw (e, o d h) refl }

by_semicolon : (c : Bool) (b : ℕ) (bytes : List ℕ) → (b == 59) ≡ c → EndsIn bytes → EndsIn (b ∷ bytes)
by_semicolon true b bytes e r = behind_semicolon b bytes e r
by_semicolon false b bytes e r = behind_other b bytes r.front r.last e r.whole r.semicolon r.other

pub ends_in : (bytes : List ℕ) → EndsIn bytes
ends_in [] = record { front = []; last = []; whole = refl; semicolon = refl; other = λ d h. rw h refl }
ends_in (b ∷ bytes) = by_semicolon (b == 59) b bytes refl (ends_in bytes)

all_numbers : (ps qs : List (List ℕ)) → map number_of (ps ++ qs) ≡ map number_of ps ++ map number_of qs
all_numbers [] qs = refl
all_numbers (p ∷ ps) qs = ap (λ (l : List (Option ℕ)). number_of p ∷ l) (all_numbers ps qs)

-- one more semicolon begins another number
pub numbers_semicolon : (bytes : List ℕ) → numbers (bytes ++ 59 ∷ []) ≡ numbers bytes ++ None ∷ []
numbers_semicolon bytes = let r : EndsIn bytes = ends_in bytes in
    ap (λ (l : List (List ℕ)). map number_of l) r.semicolon ∙ all_numbers r.front (r.last ∷ [] ∷ [])
    ∙ sym (append_assoc (map number_of r.front) (number_of r.last ∷ []) (None ∷ []))
    ∙ ap (λ (l : List (Option ℕ)). l ++ None ∷ []) (sym (ap (λ (l : List (List ℕ)). map number_of l) r.whole ∙ all_numbers r.front (r.last ∷ [])))

-- one more digit makes the last number longer
pub record LastLonger (bytes : List ℕ) (d : ℕ) : Type 0 where
  pub front : List (Option ℕ)
  pub last : Option ℕ
  pub whole : numbers bytes ≡ front ++ last ∷ []
  pub longer : numbers (bytes ++ d ∷ []) ≡ front ++ Some (min 65535 (10 * unwrap_or last 0 + (d - 48))) ∷ []

pub last_longer : (bytes : List ℕ) (d : ℕ) → (d == 59) ≡ false → LastLonger bytes d
last_longer bytes d h = let r : EndsIn bytes = ends_in bytes in record {
  front = map number_of r.front;
  last = number_of r.last;
  whole = ap (λ (l : List (List ℕ)). map number_of l) r.whole ∙ all_numbers r.front (r.last ∷ []);
  longer = ap (λ (l : List (List ℕ)). map number_of l) (r.other d h) ∙ all_numbers r.front ((r.last ++ d ∷ []) ∷ [])
      ∙ ap (λ (n : Option ℕ). map number_of r.front ++ n ∷ []) (number_of_more r.last d);
}

-- the last number with one more digit
pub digit_read : (bytes : List ℕ) (old : List (Option ℕ)) (d : ℕ) (front : List (Option ℕ)) (last : Option (Option ℕ)) → (d ≡ 59 → ⊥) → old ≡ numbers bytes → old ≡ front ++ option_to_list last → (count : ℕ) → length old ≡ count → ((m : Option ℕ) → 0 < count → last ≡ Some (get_or old (count - 1) m))
    → front ++ Some (min 65535 (10 * unwrap_or (unwrap_or last None) 0 + (d - 48))) ∷ [] ≡ numbers (bytes ++ d ∷ [])
digit_read bytes old d front last n e p count same v = let r : LastLonger bytes d = last_longer bytes d (grind (arith, nat_tests)) in
    by_last front last r.front r.last d (numbers (bytes ++ d ∷ [])) (sym p ∙ e ∙ r.whole) r.longer (v None (omega (arith, same, ap length (e ∙ r.whole), length-append r.front (r.last ∷ []))))
  where
    by_last : {chosen : Option ℕ} (front : List (Option ℕ)) (last : Option (Option ℕ)) (xs : List (Option ℕ)) (x : Option ℕ) (d : ℕ) (longer : List (Option ℕ)) → front ++ option_to_list last ≡ xs ++ x ∷ []
        → longer ≡ xs ++ Some (min 65535 (10 * unwrap_or x 0 + (d - 48))) ∷ [] → last ≡ Some chosen → front ++ Some (min 65535 (10 * unwrap_or (unwrap_or last None) 0 + (d - 48))) ∷ [] ≡ longer
    by_last front None xs x d longer e h v = absurd (cc)
    by_last front (Some l) xs x d longer e h v =
        let same = same_from_push front xs l x e in
        ap (λ (ys : List (Option ℕ)). ys ++ Some (min 65535 (10 * unwrap_or l 0 + (d - 48))) ∷ []) same.0
        ∙ ap (λ (y : Option ℕ). xs ++ Some (min 65535 (10 * unwrap_or y 0 + (d - 48))) ∷ []) same.1 ∙ sym h
