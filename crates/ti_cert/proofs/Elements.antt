-- The elements of lists that are appended, reversed or mapped, and lists that rise.
use Rattle.std.proofs.Common.{◌≡◌, ◌⊎◌, List, [], ◌∷◌, ◌++◌, map, reverse, inl, inr, refl, sym, ap, subst, ◌∙◌}
use Rattle.std.proofs.lemmas.Grind.{reverse_onto}
use Rattle.std.proofs.lemmas.List.{reverse-reverse}
use Rattle.ti_conforms.specs.Charsets.{IsAmong}

pub among_front : {A : Type 0} (xs ys : List A) (x : A) → IsAmong xs x → IsAmong (xs ++ ys) x
among_front [] ys x a = absurd a
among_front (y ∷ xs) ys x (inl e) = inl e
among_front (y ∷ xs) ys x (inr a) = inr (among_front xs ys x a)

pub among_behind : {A : Type 0} (xs ys : List A) (x : A) → IsAmong ys x → IsAmong (xs ++ ys) x
among_behind [] ys x a = a
among_behind (y ∷ xs) ys x a = inr (among_behind xs ys x a)

pub among_either : {A : Type 0} (xs ys : List A) (x : A) → IsAmong (xs ++ ys) x → IsAmong xs x ⊎ IsAmong ys x
among_either [] ys x a = inr a
among_either (y ∷ xs) ys x (inl e) = inl (inl e)
among_either (y ∷ xs) ys x (inr a) = elim (among_either xs ys x a) [ inl b ↦ inl (inr b) | inr b ↦ inr b ]

pub reversed_has : {A : Type 0} (xs : List A) (x : A) → IsAmong xs x → IsAmong (reverse xs) x
reversed_has [] x a = absurd a
reversed_has (y ∷ xs) x (inl e) = subst (λ l. IsAmong l x) (sym (reverse_onto xs y [])) (among_behind (reverse xs) (y ∷ []) x (inl e))
reversed_has (y ∷ xs) x (inr a) = subst (λ l. IsAmong l x) (sym (reverse_onto xs y [])) (among_front (reverse xs) (y ∷ []) x (reversed_has xs x a))

pub reversed_only : {A : Type 0} (xs : List A) (x : A) → IsAmong (reverse xs) x → IsAmong xs x
reversed_only xs x a = subst (λ l. IsAmong l x) (reverse-reverse xs) (reversed_has (reverse xs) x a)

pub mapped_has : {A B : Type 0} (f : A → B) (xs : List A) (x : A) → IsAmong xs x → IsAmong (map f xs) (f x)
mapped_has f [] x a = absurd a
mapped_has f (y ∷ xs) x (inl e) = inl (ap f e)
mapped_has f (y ∷ xs) x (inr a) = inr (mapped_has f xs x a)

-- the image of one of the elements
pub record IsMapped {A B : Type 0} (f : A → B) (xs : List A) (y : B) : Type 0 where
  pub from : A
  pub among : IsAmong xs from
  pub is : y ≡ f from

pub mapped_only : {A B : Type 0} (f : A → B) (xs : List A) (y : B) → IsAmong (map f xs) y → IsMapped f xs y
mapped_only f [] y a = absurd a
mapped_only f (x ∷ xs) y (inl e) = record { from = x; among = inl refl; is = e }
mapped_only f (x ∷ xs) y (inr a) = let m = mapped_only f xs y a in record { from = m.from; among = inr m.among; is = m.is }

-- ---- lists that rise

-- each element before those that follow it
abbrev pub RisesBy : {A : Type 0} → (A → A → Type 0) → List A → Type 0
RisesBy Before [] = Unit {0}
RisesBy Before (x ∷ xs) = ((y : _) → IsAmong xs y → Before x y) × RisesBy Before xs

abbrev pub NeverBack : {A : Type 0} → (A → A → Type 0) → Type 0
NeverBack Before = (x y : _) → Before x y → Before y x → ⊥

abbrev pub IsWithin : {A : Type 0} → List A → List A → Type 0
IsWithin xs ys = (z : _) → IsAmong xs z → IsAmong ys z

-- the elements without the first of each list
pub tail_within : {A : Type 0} (Before : A → A → Type 0) → NeverBack Before → (x y : A) (xs ys : List A) → x ≡ y → ((z : A) → IsAmong xs z → Before x z) → IsWithin xs (y ∷ ys) → IsWithin xs ys
tail_within Before never x y xs ys e above over z a = by_part (over z a)
  where
    by_part : IsAmong (y ∷ ys) z → IsAmong ys z
    by_part (inl k) = let itself = subst (Before x) (k ∙ sym e) (above z a) in absurd (never x x itself itself)
    by_part (inr b) = b

first_same : {A : Type 0} (Before : A → A → Type 0) → NeverBack Before → (x y : A) (xs ys : List A) → RisesBy Before (x ∷ xs) → RisesBy Before (y ∷ ys) → IsAmong (y ∷ ys) x → IsAmong (x ∷ xs) y → x ≡ y
first_same Before never x y xs ys p q (inl e) b = e
first_same Before never x y xs ys p q (inr a) (inl e) = sym e
first_same Before never x y xs ys p q (inr a) (inr b) = absurd (never x y (p.0 y b) (q.0 x a))

-- two rising lists with the same elements are equal
pub same_rising : {A : Type 0} (Before : A → A → Type 0) → NeverBack Before → (xs ys : List A) → RisesBy Before xs → RisesBy Before ys → IsWithin xs ys → IsWithin ys xs → xs ≡ ys
same_rising Before never [] [] p q over back = refl
same_rising Before never [] (y ∷ ys) p q over back = absurd (back y (inl refl))
same_rising Before never (x ∷ xs) [] p q over back = absurd (over x (inl refl))
same_rising Before never (x ∷ xs) (y ∷ ys) p q over back =
    let e : x ≡ y = first_same Before never x y xs ys p q (over x (inl refl)) (back y (inl refl)) in
    let tails : xs ≡ ys =
    same_rising Before never xs ys p.1 q.1 (tail_within Before never x y xs ys e p.0 (λ z a. over z (inr a))) (tail_within Before never y x ys xs (sym e) q.0 (λ z a. back z (inr a))) in
    ap (λ l. l ∷ xs) e ∙ ap (λ l. y ∷ l) tails
