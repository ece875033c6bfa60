-- The first field about a capability, entry by entry.
use Rattle.std.proofs.Common.{◌≡◌, ℕ, Bool, List, [], ◌∷◌, ◌++◌, Option, Some, None, refl, sym, ap, ◌∙◌}
use Rattle.std.specs.Prelude.{cond, ◌==◌, is_some, option_and_then}
use Rattle.std.specs.List.{find}
use Rattle.std.specs.Option.{option_or}
use Rattle.std.proofs.lemmas.List.Folds.{find-append}
use Rattle.ti_source.specs.declared.types.Field.{Field}
use Rattle.ti_source.specs.declared.types.Field.TheVariants.{Set, Cancel, Include}
use Rattle.ti_source.specs.declared.types.RawEntry.{RawEntry}
use Rattle.ti_resolve.specs.Fills.{fields_of_all}
use Rattle.ti_resolve.specs.Origins.{first_of}
use Rattle.ti_resolve.specs.Resolved.{own_of_all}
use Rattle.ti_resolve.specs.Uses.{fields_at, own_in, is_about, first_about}

found_one : {X : Type 0} (found : ℕ → Option X) (place : ℕ) (places : List ℕ) (o : Option X) → found place ≡ o → first_of found places ≡ option_and_then found (find (λ p. is_some (found p)) places) → option_or o (first_of found places) ≡ option_and_then found (cond (is_some o) (Some place) (find (λ p. is_some (found p)) places))
found_one found place places None e is = is
found_one found place places (Some x) e is = sym e

found_first : {X : Type 0} (found : ℕ → Option X) (places : List ℕ) → first_of found places ≡ option_and_then found (find (λ p. is_some (found p)) places)
found_first found [] = refl
found_first found (place ∷ places) = found_one found place places (found place) refl (found_first found places)

-- if each test finds the same place first, so does each search
pub first_same : {X : Type 0} (found : ℕ → Option X) (xs ys : List ℕ) → ((q : ℕ → Bool) → find q xs ≡ find q ys) → first_of found xs ≡ first_of found ys
first_same found xs ys same = found_first found xs ∙ (ap (option_and_then found) (same (λ p. is_some (found p))) ∙ sym (found_first found ys))

first-append : (cap : ℕ) (xs ys : List Field) → first_about cap (xs ++ ys) ≡ option_or (first_about cap xs) (first_about cap ys)
unfolding first_about
first-append cap xs ys = find-append (is_about cap) xs ys

-- fields that are uses are about no capability
first-own : (cap : ℕ) (fields : List Field) → first_about cap (own_in fields) ≡ first_about cap fields
unfolding first_about
first-own cap [] = refl
first-own cap (Set other value ∷ fields) = ap (λ o. cond (other == cap) (Some (Set other value)) o) (first-own cap fields)
first-own cap (Cancel other ∷ fields) = ap (λ o. cond (other == cap) (Some (Cancel other)) o) (first-own cap fields)
first-own cap (Include name ∷ fields) = first-own cap fields

first_none : (cap : ℕ) → first_about cap [] ≡ None
unfolding first_about
first_none cap = refl

abbrev pub about_at : List RawEntry → ℕ → ℕ → Option Field
about_at raws cap place = first_about cap (fields_at raws place)

fields_first : (raws : List RawEntry) (cap : ℕ) (places : List ℕ) → first_about cap (fields_of_all raws places) ≡ first_of (about_at raws cap) places
fields_first raws cap [] = first_none cap
fields_first raws cap (place ∷ places) =
    first-append cap (fields_at raws place) (fields_of_all raws places) ∙ ap (option_or (about_at raws cap place)) (fields_first raws cap places)

pub own_first : (raws : List RawEntry) (cap : ℕ) (places : List ℕ) → first_about cap (own_of_all raws places) ≡ first_of (about_at raws cap) places
own_first raws cap [] = first_none cap
own_first raws cap (place ∷ places) =
    first-append cap (own_in (fields_at raws place)) (own_of_all raws places)
    ∙ (ap (λ o. option_or o (first_about cap (own_of_all raws places))) (first-own cap (fields_at raws place))
    ∙ ap (option_or (about_at raws cap place)) (own_first raws cap places))

-- the first field about a capability in two lists of entries on which each test finds the same first
pub fields_same : (raws : List RawEntry) (cap : ℕ) (xs ys : List ℕ) → ((q : ℕ → Bool) → find q xs ≡ find q ys) → first_about cap (fields_of_all raws xs) ≡ first_about cap (own_of_all raws ys)
fields_same raws cap xs ys same = fields_first raws cap xs ∙ (first_same (about_at raws cap) xs ys same ∙ sym (own_first raws cap ys))
