-- An entry without some of its capabilities.
use Rattle.std.proofs.Common.{◌≡◌, ◌⊎◌, inl, inr, ⊎_elim, ◌<◌, ◌≤◌, ◌+◌, ℕ, zero, suc, true, false, List, [], ◌∷◌, ◌++◌, length, take, get_or, set, Option, Some, None, is_some, refl, sym, ap, ◌∙◌, arith}
use Rattle.std.proofs.lemmas.Bool.{false≢true}
use Rattle.std.proofs.lemmas.List.{take_more}
use Rattle.ti_caps.specs.Entry.{Content, string_at, string_in, value_at, with_value}
use Rattle.ti_caps.specs.declared.value.Value.{Value}
use Rattle.ti_without.specs.Going.{count, present}
use Rattle.ti_without.specs.Less.{caps_of, less}
use Rattle.ti_without.specs.declared.left_out.LeftOut.{LeftOut}

-- ---- one list of capabilities after another

pub less_append : (entry : Content) (a b : List ℕ) → less entry (a ++ b) ≡ less (less entry a) b
less_append entry [] b = refl
less_append entry (c ∷ a) b = less_append (with_value entry c None) a b

pub caps_append : (a b : List LeftOut) → caps_of (a ++ b) ≡ caps_of a ++ caps_of b
caps_append [] b = refl
caps_append (l ∷ a) b = ap (λ (x : List ℕ). l.cap ∷ x) (caps_append a b)

pub less_both : (entry : Content) (a b : List LeftOut) → less entry (caps_of (a ++ b)) ≡ less (less entry (caps_of a)) (caps_of b)
less_both entry a b = ap (λ (x : List ℕ). less entry x) (caps_append a b) ∙ less_append entry (caps_of a) (caps_of b)

pub less_next : (entry smaller : Content) (left : List LeftOut) (i : ℕ) (one : LeftOut) → i < length left → get_or left i one ≡ one → smaller ≡ less entry (caps_of (take i left))
    → with_value smaller one.cap None ≡ less entry (caps_of (take (i + 1) left))
less_next entry smaller left i one lt is h =
    let e : take (i + 1) left ≡ take i left ++ one ∷ [] = take_more left i one lt ∙ ap (λ (x : LeftOut). take i left ++ x ∷ []) is in
    ap (λ (s : Content). with_value s one.cap None) h ∙ sym (less_both entry (take i left) (one ∷ [])) ∙ ap (λ (l : List LeftOut). less entry (caps_of l)) (sym e)

-- ---- a string that an entry lacks stays away

lost : (values : List (Option Value)) (p q : ℕ) → string_in (get_or values q None) ≡ None → string_in (get_or (set values p None) q None) ≡ None
lost [] p q h = h
lost (v ∷ values) zero zero h = refl
lost (v ∷ values) zero (suc q) h = h
lost (v ∷ values) (suc p) zero h = h
lost (v ∷ values) (suc p) (suc q) h = lost values p q h

removed : (values : List (Option Value)) (p : ℕ) → get_or (set values p None) p None ≡ None
removed [] p = refl
removed (v ∷ values) zero = refl
removed (v ∷ values) (suc p) = removed values p

pub lacks_removed : (entry : Content) (p : ℕ) → string_at (with_value entry p None) p ≡ None
unfolding value_at with_value
lacks_removed entry p = ap string_in (removed entry.values p)

still_lacks : (entry : Content) (p q : ℕ) → string_at entry q ≡ None → string_at (with_value entry p None) q ≡ None
unfolding value_at with_value
still_lacks entry p q h = lost entry.values p q h

pub less_lacks : (entry : Content) (caps : List ℕ) (q : ℕ) → string_at entry q ≡ None → string_at (less entry caps) q ≡ None
less_lacks entry [] q h = h
less_lacks entry (c ∷ caps) q h = less_lacks (with_value entry c None) caps q (still_lacks entry c q h)

some_or_none : (o : Option (List ℕ)) → (is_some o ≡ true) ⊎ (o ≡ None)
some_or_none (Some string) = inl refl
some_or_none None = inr refl

pub lacks_both : (o : Option (List ℕ)) → is_some o ≡ true → o ≡ None → ⊥
lacks_both o h k = false≢true (sym (ap is_some k) ∙ h)

pub none_from : (o : Option (List ℕ)) → is_some o ≡ false → o ≡ None
none_from (Some string) h = absurd (false≢true (sym h))
none_from None h = refl

-- what the smaller entry has, the entry has
pub had : (entry : Content) (caps : List ℕ) (q : ℕ) → is_some (string_at (less entry caps) q) ≡ true → is_some (string_at entry q) ≡ true
had entry caps q h = ⊎_elim (λ some. some) (λ none. absurd (lacks_both (string_at (less entry caps) q) h (less_lacks entry caps q none))) (some_or_none (string_at entry q))

-- ---- how many capabilities are left

count_set : (values : List (Option Value)) (p : ℕ) → count (set values p None) ≤ count values
count_set [] p = omega arith
count_set (Some v ∷ values) zero = omega arith
count_set (None ∷ values) zero = omega arith
count_set (Some v ∷ values) (suc p) = omega (arith, count_set values p)
count_set (None ∷ values) (suc p) = count_set values p

count_lost : (values : List (Option Value)) (p q : ℕ) → is_some (string_in (get_or values q None)) ≡ true → string_in (get_or (set values p None) q None) ≡ None → count (set values p None) < count values
count_lost [] p q h k = absurd (false≢true h)
count_lost (Some v ∷ values) zero zero h k = omega arith
count_lost (None ∷ values) zero zero h k = absurd (false≢true h)
count_lost (v ∷ values) zero (suc q) h k = absurd (lacks_both (string_in (get_or values q None)) h k)
count_lost (v ∷ values) (suc p) zero h k = absurd (lacks_both (string_in v) h k)
count_lost (Some v ∷ values) (suc p) (suc q) h k = omega (arith, count_lost values p q h k)
count_lost (None ∷ values) (suc p) (suc q) h k = count_lost values p q h k

fewer_set : (entry : Content) (p : ℕ) → present (with_value entry p None) ≤ present entry
unfolding with_value
fewer_set entry p = count_set entry.values p

fewer_lost : (entry : Content) (p q : ℕ) → is_some (string_at entry q) ≡ true → string_at (with_value entry p None) q ≡ None → present (with_value entry p None) < present entry
unfolding value_at with_value
fewer_lost entry p q h k = count_lost entry.values p q h k

no_more : (entry : Content) (caps : List ℕ) → present (less entry caps) ≤ present entry
no_more entry [] = omega arith
no_more entry (c ∷ caps) = omega (arith, no_more (with_value entry c None) caps, fewer_set entry c)

lost_by : (entry : Content) (c : ℕ) (caps : List ℕ) (q : ℕ) → is_some (string_at entry q) ≡ true → (is_some (string_at (with_value entry c None) q) ≡ true → present (less (with_value entry c None) caps) < present (with_value entry c None))
    → (is_some (string_at (with_value entry c None) q) ≡ true) ⊎ (string_at (with_value entry c None) q ≡ None) → present (less (with_value entry c None) caps) < present entry
lost_by entry c caps q h rest (inl some) = omega (arith, rest some, fewer_set entry c)
lost_by entry c caps q h rest (inr none) = omega (arith, no_more (with_value entry c None) caps, fewer_lost entry c q h none)

-- an entry that lost a string has fewer capabilities
pub fewer : (entry : Content) (caps : List ℕ) (q : ℕ) → is_some (string_at entry q) ≡ true → string_at (less entry caps) q ≡ None → present (less entry caps) < present entry
fewer entry [] q h k = absurd (lacks_both (string_at entry q) h k)
fewer entry (c ∷ caps) q h k = lost_by entry c caps q h (λ some. fewer (with_value entry c None) caps q some k) (some_or_none (string_at (with_value entry c None) q))
