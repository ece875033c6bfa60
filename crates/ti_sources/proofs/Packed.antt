-- The entry of a compiled file as one of a source.
use Rattle.std.proofs.Common.{◌≡◌, ◌∙◌, ◌<◌, ◌≤◌, ◌+◌, ◌==◌, ◌≢◌, ◌⊎◌, ℕ, Bool, true, false, suc, zero, List, [], ◌∷◌, ◌++◌, Option, Some, None, cond, refl, sym, ap, append-nil, subst, arith, ⊎_elim, inl, inr}
use Rattle.std.specs.Prelude.{nat_lt, slice_get}
use Rattle.std.specs.List.{AllByRecursion, flat_map, range_with_len}
use Rattle.std.specs.Option.{option_or}
use Rattle.std.proofs.lemmas.Bool.Decides.{nat_tests}
use Rattle.std.proofs.lemmas.Grind.{flat_map-append}
use Rattle.std.proofs.lemmas.List.Folds.{find-append}
use Rattle.ti_caps.specs.Entry.{Content, FitsPlace, IsEntry, value_at}
use Rattle.ti_caps.specs.declared.value.Value.{Value}
use Rattle.ti_sources.proofs.Together.{less, past}
use Rattle.ti_sources.specs.Compiled.{field_for, fields_below, raw_of}
use Rattle.ti_sources.specs.FurtherLaws.{CompiledIsItself}
use Rattle.ti_resolve.proofs.Firsts.{own_first}
use Rattle.ti_resolve.specs.Resolved.{Expands, no_use}
use Rattle.ti_resolve.specs.Uses.{fields_at, fields_in, first_about, is_about, names_at, names_in_entry, uses_in, value_given}
use Rattle.ti_source.specs.Raw.{FitsField, IsRaw}
use Rattle.ti_source.specs.declared.types.Field.{Field}
use Rattle.ti_source.specs.declared.types.Field.TheVariants.{Cancel, Include, Set}
use Rattle.ti_source.specs.declared.types.RawEntry.{RawEntry}

-- ---- one capability more

range_more : (from n next : ℕ) → from + n ≡ next → range_with_len from (suc n) ≡ range_with_len from n ++ next ∷ []
range_more from zero next e = ap (λ (k : ℕ). k ∷ []) (omega (arith, e))
range_more from (suc n) next e = ap (λ (l : List ℕ). from ∷ l) (range_more (from + 1) n next (omega (arith, e)))

pub fields_more : (entry : Content) (n : ℕ) → fields_below entry (n + 1) ≡ fields_below entry n ++ field_for n (value_at entry n)
unfolding fields_below
fields_more entry n =
    let f : ℕ → List Field = λ cap. field_for cap (value_at entry cap) in
    let e : n + 1 ≡ suc n = omega arith in
    ap (λ (m : ℕ). flat_map f (range_with_len 0 m)) e
    ∙ (ap (flat_map f) (range_more 0 n n (omega arith)) ∙ (flat_map-append f (range_with_len 0 n) (n ∷ [])
    ∙ ap (λ (l : List Field). flat_map f (range_with_len 0 n) ++ l) (append-nil (f n))))

pub fields_none : (entry : Content) → fields_below entry 0 ≡ []
unfolding fields_below
fields_none entry = refl

-- ---- the entry is resolved as it is

-- a value as the field of its capability
abbrev field_of : ℕ → Option Value → Option Field
field_of cap None = None
field_of cap (Some value) = Some (Set cap value)

given_back : (cap : ℕ) (value : Option Value) → value_given (field_of cap value) ≡ value
given_back cap None = refl
given_back cap (Some value) = refl

-- none of the fields is a use
no_uses_for : (cap : ℕ) (value : Option Value) → uses_in (field_for cap value) ≡ []
no_uses_for cap None = refl
no_uses_for cap (Some value) = refl

uses_append : (xs ys : List Field) → uses_in (xs ++ ys) ≡ uses_in xs ++ uses_in ys
uses_append [] ys = refl
uses_append (Set cap value ∷ xs) ys = uses_append xs ys
uses_append (Cancel cap ∷ xs) ys = uses_append xs ys
uses_append (Include name ∷ xs) ys = ap (λ (l : List (List ℕ)). name ∷ l) (uses_append xs ys)

no_uses_none : (entry : Content) → uses_in (fields_below entry 0) ≡ []
unfolding fields_below
no_uses_none entry = refl

no_uses : (entry : Content) (n : ℕ) → uses_in (fields_below entry n) ≡ []
no_uses entry zero = no_uses_none entry
no_uses entry (suc n) =
    ap (λ (m : ℕ). uses_in (fields_below entry m)) (omega arith)
    ∙ (ap uses_in (fields_more entry n) ∙ (uses_append (fields_below entry n) (field_for n (value_at entry n))
    ∙ (ap (λ (l : List (List ℕ)). l ++ uses_in (field_for n (value_at entry n))) (no_uses entry n) ∙ no_uses_for n (value_at entry n))))

-- ---- the first field about a capability

first_append : (cap : ℕ) (xs ys : List Field) → first_about cap (xs ++ ys) ≡ option_or (first_about cap xs) (first_about cap ys)
unfolding first_about
first_append cap xs ys = find-append (is_about cap) xs ys

same_test : (n cap : ℕ) → n ≡ cap → (n == cap) ≡ true
same_test n cap e = grind (arith, nat_tests)

other_test : (n cap : ℕ) → n ≢ cap → (n == cap) ≡ false
other_test n cap e = grind (arith, nat_tests)

first_same : (n cap : ℕ) (value : Option Value) → n ≡ cap → first_about cap (field_for n value) ≡ field_of n value
unfolding first_about
first_same n cap None e = refl
first_same n cap (Some value) e = ap (λ (b : Bool). cond b (Some (Set n value)) None) (same_test n cap e)

first_other : (n cap : ℕ) (value : Option Value) → n ≢ cap → first_about cap (field_for n value) ≡ None
unfolding first_about
first_other n cap None e = refl
first_other n cap (Some value) e = ap (λ (b : Bool). cond b (Some (Set n value)) None) (other_test n cap e)

first_none : (entry : Content) (cap : ℕ) → first_about cap (fields_below entry 0) ≡ None
unfolding first_about fields_below
first_none entry cap = refl

-- the search among one capability more
first_more : (entry : Content) (cap n : ℕ) → first_about cap (fields_below entry (suc n)) ≡ option_or (first_about cap (fields_below entry n)) (first_about cap (field_for n (value_at entry n)))
first_more entry cap n =
    ap (λ (m : ℕ). first_about cap (fields_below entry m)) (omega arith)
    ∙ (ap (first_about cap) (fields_more entry n) ∙ first_append cap (fields_below entry n) (field_for n (value_at entry n)))

first_before : (entry : Content) (cap n : ℕ) → n ≤ cap → first_about cap (fields_below entry n) ≡ None
first_before entry cap zero l = first_none entry cap
first_before entry cap (suc n) l =
    first_more entry cap n ∙ (ap (λ (o : Option Field). option_or o (first_about cap (field_for n (value_at entry n)))) (first_before entry cap n (omega (arith, l)))
    ∙ first_other n cap (value_at entry n) (λ e. omega (arith, l, e)))

or_none : (o : Option Field) → option_or o None ≡ o
or_none None = refl
or_none (Some field) = refl

last_or_before : (n cap : ℕ) → cap < suc n → (n ≡ cap) ⊎ (cap < n)
last_or_before n cap l = by (nat_lt cap n) refl
  where
    by : (b : Bool) → nat_lt cap n ≡ b → (n ≡ cap) ⊎ (cap < n)
    by true e = inr (less cap n e)
    by false e = inl (omega (arith, l, past cap n e))

first_there : (entry : Content) (cap n : ℕ) → cap < n → first_about cap (fields_below entry n) ≡ field_of cap (value_at entry cap)
first_there entry cap zero l = absurd (omega (arith, l))
first_there entry cap (suc n) l =
    ⊎_elim
    (λ e. first_more entry cap n ∙ (ap (λ (o : Option Field). option_or o (first_about cap (field_for n (value_at entry n)))) (first_before entry cap n (omega (arith, e)))
    ∙ (first_same n cap (value_at entry n) e ∙ ap (λ (m : ℕ). field_of m (value_at entry m)) e)))
    (λ less. first_more entry cap n ∙ (ap (λ (o : Option Field). option_or o (first_about cap (field_for n (value_at entry n)))) (first_there entry cap n less)
    ∙ (ap (option_or (field_of cap (value_at entry cap))) (first_other n cap (value_at entry n) (λ e. omega (arith, less, e))) ∙ or_none (field_of cap (value_at entry cap)))))
    (last_or_before n cap l)

-- ---- the entry at its place

fields_there : (raws : List RawEntry) (place : ℕ) (entry : Content) → slice_get raws place ≡ Some (raw_of entry) → fields_at raws place ≡ fields_below entry 497
unfolding fields_at
fields_there raws place entry there = ap fields_in there

names_there : (raws : List RawEntry) (place : ℕ) (entry : Content) → slice_get raws place ≡ Some (raw_of entry) → names_at raws place ≡ entry.names
unfolding names_at
names_there raws place entry there = ap names_in_entry there

pub compiled_is_itself : CompiledIsItself
compiled_is_itself raws place entry is there =
    let fields : fields_at raws place ≡ fields_below entry 497 = fields_there raws place entry there in
    record {
      places = place ∷ [];
      whole = record {
        used = [];
        expands = subst (λ (names : List (List ℕ)). Expands raws names []) (sym (ap uses_in fields ∙ no_uses entry 497)) no_use;
        whole = refl;
      };
      names = sym (names_there raws place entry there);
      values = λ cap l.
          sym (ap value_given (own_first raws cap (place ∷ []) ∙ (or_none (first_about cap (fields_at raws place)) ∙ (ap (first_about cap) fields ∙ first_there entry cap 497 l)))
          ∙ given_back cap (value_at entry cap));
    }

-- ---- the entry can be resolved

field_fits : (cap : ℕ) (value : Option Value) → FitsPlace cap value → AllByRecursion FitsField (field_for cap value)
field_fits cap None fits = tt
field_fits cap (Some value) fits = (fits, tt)

all_append : (xs ys : List Field) → AllByRecursion FitsField xs → AllByRecursion FitsField ys → AllByRecursion FitsField (xs ++ ys)
all_append [] ys p q = q
all_append (x ∷ xs) ys p q = (p.0, all_append xs ys p.1 q)

none_fits : (entry : Content) → AllByRecursion FitsField (fields_below entry 0)
unfolding fields_below
none_fits entry = tt

fields_fit : (entry : Content) (n : ℕ) → IsEntry entry → AllByRecursion FitsField (fields_below entry n)
fields_fit entry zero is = none_fits entry
fields_fit entry (suc n) is =
    let more : fields_below entry n ++ field_for n (value_at entry n) ≡ fields_below entry (suc n) = sym (fields_more entry n) ∙ ap (fields_below entry) (omega arith) in
    subst (AllByRecursion FitsField) more (all_append (fields_below entry n) (field_for n (value_at entry n)) (fields_fit entry n is) (field_fits n (value_at entry n) (is.fits n)))

pub raw_fits : (entry : Content) → IsEntry entry → IsRaw (raw_of entry)
raw_fits entry is = record { names = is.names_fit; fields = fields_fit entry 497 is }
