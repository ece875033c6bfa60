-- A printed entry has exactly the fields of its capabilities.
use Rattle.std.proofs.Common.{◌≡◌, ℕ, ◌<◌, ◌≤◌, zero, suc, List, [], ◌∷◌, ◌++◌, Option, Some, None, refl, sym, subst, arith, ⊎_elim}
use Rattle.std.specs.Prelude.{if◌then◌else◌}
use Rattle.std.specs.List.{AllByRecursion, Contains}
use Rattle.std.proofs.lemmas.Bool.{cases_eq}
use Rattle.std.proofs.lemmas.List.Elements.{Contains-append_left, Contains-append_right}
use Rattle.ti_caps.proofs.Tables.{place_in_table, each_has_rank}
use Rattle.ti_caps.specs.declared.types.Kind.{Kind}
use Rattle.ti_caps.specs.declared.types.Kind.TheVariants as kinds
use Rattle.ti_caps.specs.declared.value.Value.{Value}
use Rattle.ti_caps.specs.Entry.{Content, value_at}
use Rattle.ti_caps.specs.Table.{kind_of, place_of_rank}
use Rattle.ti_source.specs.declared.types.Field.{Field}
use Rattle.ti_source.specs.declared.types.Field.TheVariants.{Set}
use Rattle.ti_caps.specs.Table.{is_kind}
use Rattle.ti_source.specs.Printed.{place_fields, rank_fields, ranks_fields, kind_fields, fields_of, SetsAsIn, PrintsJust}
use Rattle.ti_source.proofs.ReadBack.{of_kind}
use Rattle.ti_source.proofs.Spellings.{choose}

all_both : (P : Field → Type 0) (xs ys : List Field) → AllByRecursion P xs → AllByRecursion P ys → AllByRecursion P (xs ++ ys)
all_both P [] ys h k = k
all_both P (x ∷ xs) ys h k = (h.0, all_both P xs ys h.1 k)

each_place : (entry : Content) (place : ℕ) (value : Option Value) → value_at entry place ≡ value → place < 497 → AllByRecursion (SetsAsIn entry) (place_fields place value)
each_place entry place None e inside = tt
each_place entry place (Some value) e inside = ((inside, e), tt)

each_rank : (entry : Content) (kind : Kind) (rank : ℕ) → rank < 497 → AllByRecursion (SetsAsIn entry) (rank_fields entry kind rank)
unfolding rank_fields
each_rank entry kind rank inside =
    choose (AllByRecursion (SetsAsIn entry)) (is_kind (kind_of (place_of_rank rank)) kind) (place_fields (place_of_rank rank) (value_at entry (place_of_rank rank))) []
    (λ _. each_place entry (place_of_rank rank) (value_at entry (place_of_rank rank)) refl (place_in_table rank inside)) (λ _. tt)

each_ranks : (entry : Content) (kind : Kind) (n : ℕ) → n ≤ 497 → AllByRecursion (SetsAsIn entry) (ranks_fields entry kind n)
each_ranks entry kind zero h = tt
each_ranks entry kind (suc n) h = all_both (SetsAsIn entry) (ranks_fields entry kind n) (rank_fields entry kind n) (each_ranks entry kind n (omega arith)) (each_rank entry kind n (omega arith))

in_rank : (entry : Content) (rank : ℕ) (value : Value) → value_at entry (place_of_rank rank) ≡ Some value → Contains (rank_fields entry (kind_of (place_of_rank rank)) rank) (Set (place_of_rank rank) value)
unfolding rank_fields
in_rank entry rank value e =
    let place = place_of_rank rank in
    subst (λ t. Contains (if t then place_fields place (value_at entry place) else []) (Set place value)) (sym (of_kind place (kind_of place) refl))
    (subst (λ v. Contains (place_fields place v) (Set place value)) (sym e) (0, omega arith, refl))

in_ranks : (entry : Content) (kind : Kind) (n rank : ℕ) (field : Field) → rank < n → Contains (rank_fields entry kind rank) field → Contains (ranks_fields entry kind n) field
in_ranks entry kind zero rank field less h = absurd (omega arith)
in_ranks entry kind (suc n) rank field less h =
    ⊎_elim
    (λ (same : rank ≡ n). Contains-append_right (ranks_fields entry kind n) (rank_fields entry kind n) field (subst (λ r. Contains (rank_fields entry kind r) field) same h))
    (λ (apart : rank ≡ n → ⊥). Contains-append_left (ranks_fields entry kind n) (rank_fields entry kind n) field (in_ranks entry kind n rank field (omega arith) h))
    (cases_eq rank n)

in_kind : (entry : Content) (kind : Kind) (field : Field) → Contains (kind_fields entry kind) field → Contains (fields_of entry) field
unfolding fields_of
in_kind entry kinds.Flag field h = Contains-append_left (kind_fields entry kinds.Flag) (kind_fields entry kinds.Number ++ kind_fields entry kinds.String) field h
in_kind entry kinds.Number field h =
    Contains-append_right (kind_fields entry kinds.Flag) (kind_fields entry kinds.Number ++ kind_fields entry kinds.String) field
    (Contains-append_left (kind_fields entry kinds.Number) (kind_fields entry kinds.String) field h)
in_kind entry kinds.String field h =
    Contains-append_right (kind_fields entry kinds.Flag) (kind_fields entry kinds.Number ++ kind_fields entry kinds.String) field
    (Contains-append_right (kind_fields entry kinds.Number) (kind_fields entry kinds.String) field h)

ranked_there : (entry : Content) (rank : ℕ) (value : Value) → rank < 497 → value_at entry (place_of_rank rank) ≡ Some value → Contains (fields_of entry) (Set (place_of_rank rank) value)
unfolding kind_fields
ranked_there entry rank value inside e =
    in_kind entry (kind_of (place_of_rank rank)) (Set (place_of_rank rank) value)
    (in_ranks entry (kind_of (place_of_rank rank)) 497 rank (Set (place_of_rank rank) value) inside (in_rank entry rank value e))

pub prints_just : PrintsJust
unfolding fields_of kind_fields
prints_just entry = record {
  each =
      all_both (SetsAsIn entry) (kind_fields entry kinds.Flag) (kind_fields entry kinds.Number ++ kind_fields entry kinds.String) (each_ranks entry kinds.Flag 497 (omega arith))
      (all_both (SetsAsIn entry) (kind_fields entry kinds.Number) (kind_fields entry kinds.String) (each_ranks entry kinds.Number 497 (omega arith)) (each_ranks entry kinds.String 497 (omega arith)));
  all = λ place value inside e.
      let r = each_has_rank place inside in
      subst (λ p. Contains (fields_of entry) (Set p value)) r.2 (ranked_there entry r.0 value r.1 (subst (λ p. value_at entry p ≡ Some value) (sym r.2) e));
}
