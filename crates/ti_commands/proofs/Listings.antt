-- The names listed so far, and one more.
use Rattle.std.proofs.Common.{◌≡◌, ◌+◌, ℕ, Bool, true, false, List, [], ◌∷◌, ◌++◌, refl, ap, ◌∙◌, arith, filter, cond, map, if◌then◌else◌, append-nil, flat_map}
use Rattle.std.specs.List.{range_with_len}
use Rattle.std.proofs.lemmas.Grind.{flat_map-append}
use Rattle.std.proofs.lemmas.List.FromFn.{filter_of_map_range_with_len_more}
use Rattle.ti_caps.specs.Table.{place_of_rank}
use Rattle.ti_caps.specs.Entry.{Content}
use Rattle.ti_caps.specs.declared.types.Kind.{Kind}
use Rattle.ti_commands.specs.Listings.{caps_by_name, is_listed_at, listed, name_line}
use Rattle.ti_commands.specs.declared.descriptions.Comparison.{Comparison}

one_line : (f : ℕ → List ℕ) (b : Bool) (x : ℕ) → flat_map f (cond b (x ∷ []) []) ≡ (if b then f x else [])
one_line f true x = append-nil (f x)
one_line f false x = refl

-- the lines of the capabilities that pass
lines_more : (f : ℕ → List ℕ) (p : ℕ → Bool) (count : ℕ) → flat_map f (filter p (caps_by_name (count + 1))) ≡ flat_map f (filter p (caps_by_name count)) ++ (if p (place_of_rank count) then f (place_of_rank count) else [])
unfolding caps_by_name
lines_more f p count =
    ap (flat_map f) (filter_of_map_range_with_len_more p place_of_rank 0 count count (omega arith))
    ∙ flat_map-append f (filter p (map place_of_rank (range_with_len 0 count))) (cond (p (place_of_rank count)) (place_of_rank count ∷ []) [])
    ∙ ap (λ (l : List ℕ). flat_map f (filter p (map place_of_rank (range_with_len 0 count))) ++ l) (one_line f (p (place_of_rank count)) (place_of_rank count))

pub listed_more : (comparison : Comparison) (first second : Content) (kind : Kind) (count : ℕ) → flat_map name_line (listed comparison first second kind (count + 1)) ≡ flat_map name_line (listed comparison first second kind count) ++ (if is_listed_at comparison first second kind (place_of_rank count) then name_line (place_of_rank count) else [])
unfolding listed
listed_more comparison first second kind count = lines_more name_line (is_listed_at comparison first second kind) count

pub none_listed : (comparison : Comparison) (first second : Content) (kind : Kind) → flat_map name_line (listed comparison first second kind 0) ≡ []
unfolding listed caps_by_name
none_listed comparison first second kind = refl
