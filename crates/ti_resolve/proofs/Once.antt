-- Uses expand to at most one list of entries.
use Rattle.std.proofs.Common.{◌≡◌, ℕ, List, [], ◌∷◌, ◌++◌, Some, refl, sym, ap, ◌∙◌, subst}
use Rattle.ti_source.specs.declared.types.RawEntry.{RawEntry}
use Rattle.ti_caps.proofs.Entries.{same_entry}
use Rattle.ti_resolve.specs.Resolved.{Expands, no_use, one_use, ExpandsOnce, IsResolvedAt, IsWhole, ResolvedAtOnce, ResolvedOnce, own_of_all}
use Rattle.ti_resolve.specs.Uses.{place_named, fields_at, uses_in, first_about, value_given}

some_same : (a b : ℕ) → Some a ≡ Some b → a ≡ b
some_same a b e = cc

-- the expansion of a list of names begins with that of the first
record First (raws : List RawEntry) (name : List ℕ) (names : List (List ℕ)) (places : List ℕ) : Type 0 where
  place : ℕ
  inner : List ℕ
  rest : List ℕ
  found : place_named raws name ≡ Some place
  used : Expands raws (uses_in (fields_at raws place)) inner
  behind : Expands raws names rest
  whole : places ≡ (place ∷ inner) ++ rest

abbrev Came : List RawEntry → List (List ℕ) → List ℕ → Type 0
Came raws [] places = places ≡ []
Came raws (name ∷ names) places = First raws name names places

came : (raws : List RawEntry) (names : List (List ℕ)) (places : List ℕ) → Expands raws names places → Came raws names places
came raws names places no_use = refl
came raws names places (one_use name others place inner rest found used behind) = record { place = place; inner = inner; rest = rest; found = found; used = used; behind = behind; whole = refl }

pub expands_once : ExpandsOnce
expands_once raws names one other no_use e = sym (came raws [] other e)
expands_once raws names one other (one_use name others place inner rest found used behind) e =
    let f = came raws (name ∷ others) other e in
    let same : f.place ≡ place = some_same f.place place (sym f.found ∙ found) in
    let inners : inner ≡ f.inner = expands_once raws (uses_in (fields_at raws place)) inner f.inner used (subst (λ p. Expands raws (uses_in (fields_at raws p)) f.inner) same f.used) in
    let rests : rest ≡ f.rest = expands_once raws others rest f.rest behind f.behind in
    ap (λ i. (place ∷ i) ++ rest) inners
    ∙ (ap (λ r. (place ∷ f.inner) ++ r) rests
    ∙ (ap (λ p. (p ∷ f.inner) ++ f.rest) (sym same) ∙ sym f.whole))

-- an entry and all that it uses are one list
pub whole_at_once : (raws : List RawEntry) (root : ℕ) (places others : List ℕ) → IsWhole raws root places → IsWhole raws root others → places ≡ others
whole_at_once raws root places others w v =
    let used : w.used ≡ v.used = expands_once raws (uses_in (fields_at raws root)) w.used v.used w.expands v.expands in
    w.whole ∙ (ap (λ u. root ∷ u) used ∙ sym v.whole)

-- a name leads to one place
pub root_once : (raws : List RawEntry) (name : List ℕ) (root other_root : ℕ) → place_named raws name ≡ Some root → place_named raws name ≡ Some other_root → root ≡ other_root
root_once raws name root other_root found other_found = some_same root other_root (sym found ∙ other_found)

pub resolved_at_once : ResolvedAtOnce
resolved_at_once raws root one other is_one is_other r s =
    let places : r.places ≡ s.places = whole_at_once raws root r.places s.places r.whole s.whole in
    same_entry one other is_one is_other (r.names ∙ sym s.names)
    (λ place inside. r.values place inside ∙ (ap (λ ps. value_given (first_about place (own_of_all raws ps))) places ∙ sym (s.values place inside)))

pub resolved_once : ResolvedOnce
resolved_once raws name one other is_one is_other r s =
    resolved_at_once raws r.root one other is_one is_other r.there (subst (λ p. IsResolvedAt raws p other) (root_once raws name s.root r.root s.found r.found) s.there)
