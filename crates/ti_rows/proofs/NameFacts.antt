-- The tables of names, positions and first rows, from tests of each whole table that compute.
use Rattle.std.proofs.Common.{◌≡◌, ℕ, ◌+◌, ◌<◌, ◌==◌, Bool, true, List, if◌then◌else◌, Option, Some, None, IfSome, IfNone, refl, sym, ap, ◌∙◌, arith}
use Rattle.std.specs.Prelude.{nat_lt}
use Rattle.std.specs.Cmp.Lexicographic.{slice_cmp}
use Rattle.std.specs.Ordering.{nat_cmp, is_lt}
use Rattle.std.specs.declared.cmp.Ordering.{Ordering}
use Rattle.std.specs.declared.cmp.Ordering.TheVariants.{Less, Equal, Greater}
use Rattle.std.specs.Str.{bytes_eq}
use Rattle.std.proofs.lemmas.Bool.{agree_below, agree_below_at, ltb-true, eqb-true, lt-ltb}
use Rattle.std.proofs.lemmas.Slice.Eq.{bytes_eq-Decides}
use Rattle.std.proofs.lemmas.Option.{same_Some, none-some}
use Rattle.ti_caps.specs.Table.{name_at, row_at, place_from}
use Rattle.ti_caps.specs.declared.types.Kind.TheVariants.{String}
use Rattle.ti_rows.specs.Rows.{Row, Clear}
use Rattle.ti_rows.specs.Names.{order, name_in_order, string_in_order, first_in_order, name_of, NamesRise, Named, HasFirst, FirstsInOrder, OrdersSmall, capabilities}

-- the test passes at each place
pub each_at : (test : ℕ → Bool) (n k : ℕ) → agree_below test (λ _. true) n ≡ true → k < n → test k ≡ true
each_at test n k all less = agree_below_at test (λ _. true) n k all less

unfoldable is_small : ℕ → Bool
is_small n = nat_lt (string_in_order n) 414

each_is_small : agree_below is_small (λ _. true) capabilities ≡ true
unfolding is_small string_in_order
each_is_small = refl

pub strings_small : (n : ℕ) → n < capabilities → string_in_order n < 414
unfolding is_small
strings_small n less = ltb-true _ _ (each_at is_small capabilities n each_is_small less)

unfoldable is_named : ℕ → Bool
is_named n = bytes_eq (name_at (83 + string_in_order n)) (name_in_order n)

each_is_named : agree_below is_named (λ _. true) capabilities ≡ true
unfolding is_named string_in_order name_in_order name_at row_at
each_is_named = refl

pub named : Named
unfolding is_named
named n less = (bytes_eq-Decides (name_at (83 + string_in_order n)) (name_in_order n)).0 (each_at is_named capabilities n each_is_named less)

less_from : (o : Ordering) → is_lt o ≡ true → o ≡ Less
less_from Less e = refl
less_from Equal e = cc
less_from Greater e = cc

-- each pair of names
unfoldable is_above : ℕ → ℕ → Bool
is_above high low = is_lt (slice_cmp nat_cmp (name_in_order low) (name_in_order high))

unfoldable is_above_all : ℕ → Bool
is_above_all high = agree_below (is_above high) (λ _. true) high

each_is_above_all : agree_below is_above_all (λ _. true) capabilities ≡ true
unfolding is_above_all is_above name_in_order
each_is_above_all = refl

above_all : (high : ℕ) → high < capabilities → agree_below (is_above high) (λ _. true) high ≡ true
unfolding is_above_all
above_all high less = each_at is_above_all capabilities high each_is_above_all less

pub names_rise : NamesRise
unfolding is_above
names_rise low high less within = less_from _ (each_at (is_above high) high low (above_all high within) less)

-- first rows
abbrev is_ordered_row : ℕ → Option Row → Bool
is_ordered_row n None = nat_lt 1 0
is_ordered_row n (Some row) = order row == n

unfoldable is_ordered : ℕ → Bool
is_ordered n = is_ordered_row n (first_in_order n)

each_is_ordered : agree_below is_ordered (λ _. true) capabilities ≡ true
unfolding is_ordered first_in_order
each_is_ordered = refl

ordered_row : (n : ℕ) (o : Option Row) → first_in_order n ≡ o → is_ordered_row n o ≡ true → HasFirst n
ordered_row n None e h = cc
ordered_row n (Some row) e h = record { row = row; is_first = e; ordered = eqb-true (order row) n h }

pub firsts_in_order : FirstsInOrder
unfolding is_ordered
firsts_in_order n less = ordered_row n (first_in_order n) refl (each_at is_ordered capabilities n each_is_ordered less)

pub orders_small : OrdersSmall
orders_small Clear = omega arith
orders_small row = omega arith

-- the place found for a string's position is that position's
pub placed : (position place : ℕ) → position < 414 → Some place ≡ place_from String position → place ≡ 83 + position
unfolding place_from
placed position place lt h = same_Some place (83 + position) (h ∙ ap (λ (b : Bool). if b then Some (83 + position) else None) (lt-ltb position 414 lt))

-- the first row of a place has its name
pub first_named : (n : ℕ) (o : Option Row) (text : List ℕ) → n < capabilities → o ≡ first_in_order n → name_in_order n ≡ text → IfSome o (λ row. name_of row ≡ text)
first_named n None text less e h = tt
first_named n (Some row) text less e h =
    let f : HasFirst n = firsts_in_order n less in
    ap name_in_order (ap order (same_Some row f.row (e ∙ f.is_first)) ∙ f.ordered) ∙ h

pub first_again : (n : ℕ) (o : Option Row) → n < capabilities → o ≡ first_in_order n → IfSome o (λ row. first_in_order (order row) ≡ Some row)
first_again n None less e = tt
first_again n (Some row) less e =
    let f : HasFirst n = firsts_in_order n less in
    ap first_in_order (ap order (same_Some row f.row (e ∙ f.is_first)) ∙ f.ordered) ∙ sym e

pub first_found : (G : Type 0) (n : ℕ) (o : Option Row) → n < capabilities → o ≡ first_in_order n → IfNone o G
first_found G n None less e = absurd (none-some (firsts_in_order n less).row (e ∙ (firsts_in_order n less).is_first))
first_found G n (Some row) less e = tt
