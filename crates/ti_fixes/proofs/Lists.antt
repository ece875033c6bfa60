-- Lists of which each item passes, and members.
use Rattle.std.proofs.Common.{◌≡◌, ◌<◌, ◌+◌, ℕ, zero, suc, List, [], ◌∷◌, ◌++◌, inl, inr, length, take, get_or, refl, sym, subst, arith}
use Rattle.std.proofs.lemmas.List.{take_more}
use Rattle.std.specs.List.{AllByRecursion}
use Rattle.ti_fixes.specs.Among.{IsAmong}

pub all_both : {X : Type 0} (P : X → Type 0) (xs ys : List X) → AllByRecursion P xs → AllByRecursion P ys → AllByRecursion P (xs ++ ys)
all_both P [] ys h k = k
all_both P (x ∷ xs) ys h k = (h.0, all_both P xs ys h.1 k)

-- one more item passes, the next of a list
pub all_next : {X : Type 0} (P : X → Type 0) (xs : List X) (n : ℕ) (x : X) → n < length xs → x ≡ get_or xs n x → AllByRecursion P (take n xs) → P x → AllByRecursion P (take (n + 1) xs)
all_next P xs n x l is h p =
    subst (λ (items : List _). AllByRecursion P items) (sym (take_more xs n x l))
    (all_both P (take n xs) (get_or xs n x ∷ []) h (subst P is p, tt))

-- one more item passes, behind the others
pub all_more : {X : Type 0} (P : X → Type 0) (xs : List X) (x : X) → AllByRecursion P xs → P x → AllByRecursion P (xs ++ x ∷ [])
all_more P xs x h p = all_both P xs (x ∷ []) h (p, tt)

-- each item passes, so a member does
pub passes_among : {X : Type 0} (P : X → Type 0) (xs : List X) (x : X) → AllByRecursion P xs → IsAmong x xs → P x
passes_among P [] x h m = absurd m
passes_among P (y ∷ xs) x h (inl is) = subst P is h.0
passes_among P (y ∷ xs) x h (inr m) = passes_among P xs x h.1 m

-- the item at a place is a member
pub among_at : {X : Type 0} (xs : List X) (n : ℕ) (x : X) → n < length xs → x ≡ get_or xs n x → IsAmong x xs
among_at [] n x l is = absurd (omega (arith, l))
among_at (y ∷ xs) zero x l is = inl (sym is)
among_at (y ∷ xs) (suc n) x l is = inr (among_at xs n x (omega (arith, l)) is)

pub among_there : (xs : List ℕ) (n : ℕ) → n < length xs → IsAmong (get_or xs n 0) xs
among_there [] n l = absurd (omega (arith, l))
among_there (y ∷ xs) zero l = inl refl
among_there (y ∷ xs) (suc n) l = inr (among_there xs n (omega (arith, l)))

-- one more item passes, behind the others, if it is like one that does
pub all_so : {X Y : Type 0} (P : X → Type 0) (Q : Y → Type 0) (xs more : List X) (x : X) (ys : List Y) (n : ℕ) (y : Y) → more ≡ xs ++ x ∷ [] → n < length ys → y ≡ get_or ys n y → AllByRecursion P xs → AllByRecursion Q ys → (Q y → P x) → AllByRecursion P more
all_so P Q xs more x ys n y pushed l is h k so = subst (λ (items : List _). AllByRecursion P items) (sym pushed) (all_more P xs x h (so (passes_among Q ys y k (among_at ys n y l is))))

-- two lists pass
pub all_append : {X : Type 0} (P : X → Type 0) (xs ys more : List X) → more ≡ xs ++ ys → AllByRecursion P xs → AllByRecursion P ys → AllByRecursion P more
all_append P xs ys more is h k = subst (λ (items : List _). AllByRecursion P items) (sym is) (all_both P xs ys h k)
