-- Flags that say which capabilities some items are about.
use Rattle.std.proofs.Common.{◌≡◌, ℕ, ◌<◌, Bool, true, false, ◌||◌, List, [], ◌∷◌, ◌++◌, length, replicate, Option, Some, None, refl, sym, ap, ◌∙◌, ⊎_elim, arith, get_or-set_same, get_or-set_other, ◌≢◌}
use Rattle.std.specs.Prelude.{slice_index_or, slice_set, ◌==◌}
use Rattle.std.specs.List.{list_any}
use Rattle.std.proofs.lemmas.List.{get_or-replicate}
use Rattle.std.proofs.lemmas.List.Folds.{list_any-append}
use Rattle.std.proofs.lemmas.Bool.{cases_eq}
use Rattle.std.proofs.lemmas.Bool.Decides.{nat_tests}
use Rattle.ti_source.specs.Fields.{is_cap}

abbrev pub AreFlagsBy : {X : Type 0} → (X → Option ℕ) → List X → List Bool → Type 0
AreFlagsBy on xs seen = (cap : ℕ) → cap < 497 → slice_index_or seen cap false ≡ list_any (λ x. is_cap cap (on x)) xs

-- no items yet
pub flags_none : {X : Type 0} (on : X → Option ℕ) (seen : List Bool) → seen ≡ replicate 497 false → AreFlagsBy on [] seen
flags_none on seen e cap h = ap (λ xs. slice_index_or xs cap false) e ∙ get_or-replicate 497 cap false false h

held_more : {X : Type 0} (on : X → Option ℕ) (xs : List X) (x : X) (cap : ℕ) → list_any (λ y. is_cap cap (on y)) (xs ++ x ∷ []) ≡ (list_any (λ y. is_cap cap (on y)) xs || (is_cap cap (on x) || false))
held_more on xs x cap = list_any-append (λ y. is_cap cap (on y)) xs (x ∷ [])

or_false : (t : Bool) → t ≡ (t || false)
or_false true = refl
or_false false = refl

or_true : (t : Bool) → true ≡ (t || true)
or_true true = refl
or_true false = refl

same_cap : (cap : ℕ) → (cap == cap) ≡ true
same_cap cap = grind (arith, nat_tests)

other_cap : (cap place : ℕ) → place ≢ cap → (cap == place) ≡ false
other_cap cap place h = grind (arith, nat_tests)

-- one more item that is about no capability
pub flags_same : {X : Type 0} (on : X → Option ℕ) (xs : List X) (x : X) (seen : List Bool) → on x ≡ None → AreFlagsBy on xs seen → AreFlagsBy on (xs ++ x ∷ []) seen
flags_same on xs x seen e h cap inside =
    let held = list_any (λ y. is_cap cap (on y)) xs in
    h cap inside ∙ (or_false held ∙ sym (held_more on xs x cap ∙ ap (λ o. held || (is_cap cap o || false)) e))

-- one more item that is about this one
pub flags_more : {X : Type 0} (on : X → Option ℕ) (xs : List X) (x : X) (seen : List Bool) (place : ℕ) → on x ≡ Some place → place < length seen → AreFlagsBy on xs seen → AreFlagsBy on (xs ++ x ∷ []) (slice_set seen place true)
flags_more on xs x seen place e room h cap inside =
    let held = list_any (λ y. is_cap cap (on y)) xs in
    let more = held_more on xs x cap ∙ ap (λ o. held || (is_cap cap o || false)) e in
    ⊎_elim
    (λ (same : cap ≡ place).
    rw same (get_or-set_same seen place true false room)
    ∙ (or_true held ∙ sym (more ∙ ap (λ t. held || (t || false)) (ap (λ k. place == k) same ∙ same_cap place))))
    (λ (apart : cap ≢ place).
    get_or-set_other seen place cap true false apart
    ∙ (h cap inside ∙ (or_false held ∙ sym (more ∙ ap (λ t. held || (t || false)) (other_cap place cap apart)))))
    (cases_eq cap place)
