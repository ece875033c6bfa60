-- Facts about the table, from tests that compute over all of it.
use Rattle.std.proofs.Common.{◌≡◌, ◌≢◌, ℕ, zero, suc, ◌<◌, ◌≤◌, ◌+◌, ◌-◌, ◌==◌, Bool, true, ◌&&◌, List, [], ◌∷◌, Option, Some, None, ⊎_elim, refl, ◌∙◌, ap, subst, length, get_or, arith}
use Rattle.std.specs.Prelude.{nat_lt, nat_le}
use Rattle.std.specs.Int.{from_be_bytes, w64}
use Rattle.std.specs.List.{position_from}
use Rattle.std.specs.Option.{unwrap_or}
use Rattle.std.specs.Cmp.Lexicographic.{slice_cmp}
use Rattle.std.specs.Ordering.{nat_cmp, is_lt}
use Rattle.std.specs.declared.cmp.Ordering.{Ordering}
use Rattle.std.specs.declared.cmp.Ordering.TheVariants.{Less, Equal, Greater}
use Rattle.std.proofs.lemmas.Cmp.{nat_list_cmp_total}
use Rattle.std.specs.Str.{bytes_eq}
use Rattle.std.proofs.lemmas.Bool.{agree_below, agree_below_at, and_parts, ltb-true, leb-true, eqb-true, cases_order, cases_Bool, cond-false}
use Rattle.std.proofs.lemmas.Slice.Eq.{bytes_eq-Decides}
use Rattle.ti_caps.specs.declared.table.TheConstants.{NAMES, SORTED}
use Rattle.ti_caps.specs.Table.{row_at, name_at, place_in, place_of_rank, rank_key, key_of, padded, unpadded, NamesRise, EachHasRank}

-- the test passes at each number below n
abbrev each_below : (ℕ → Bool) → ℕ → Bool
each_below test n = agree_below test (λ _. true) n

each_at : (test : ℕ → Bool) (n k : ℕ) → each_below test n ≡ true → k < n → test k ≡ true
each_at test n k all less = agree_below_at test (λ _. true) n k all less

-- the rank of the name at a place
unfoldable rank_of : ℕ → ℕ
rank_of place = unwrap_or (position_from (λ p. p == place) 0 SORTED) 497

unfoldable is_ranked : ℕ → Bool
is_ranked place = nat_lt (rank_of place) 497 && (place_of_rank (rank_of place) == place)

unfoldable is_inside : ℕ → Bool
is_inside rank = nat_lt (place_of_rank rank) 497

unfoldable is_rising : ℕ → Bool
is_rising rank = nat_lt (rank_key rank) (rank_key (rank + 1))

unfoldable is_ordered : ℕ → Bool
is_ordered rank = is_lt (slice_cmp nat_cmp (name_at (place_of_rank rank)) (name_at (place_of_rank (rank + 1))))

unfoldable is_padded : ℕ → Bool
is_padded place = bytes_eq (row_at place) (padded (name_at place)) && nat_le (length (name_at place)) 8

unfoldable is_found : ℕ → Bool
is_found place = unwrap_or (place_in (name_at place)) 497 == place

each_is_ranked : each_below is_ranked 497 ≡ true
unfolding is_ranked rank_of place_of_rank
each_is_ranked = refl

each_is_inside : each_below is_inside 497 ≡ true
unfolding is_inside place_of_rank
each_is_inside = refl

each_is_rising : each_below is_rising 496 ≡ true
unfolding is_rising rank_key row_at place_of_rank
each_is_rising = refl

each_is_ordered : each_below is_ordered 496 ≡ true
unfolding is_ordered name_at row_at place_of_rank
each_is_ordered = refl

each_is_padded : each_below is_padded 497 ≡ true
unfolding is_padded row_at name_at
each_is_padded = refl

each_is_found : each_below is_found 497 ≡ true
unfolding is_found place_in name_at row_at
each_is_found = refl

-- a rank's place is in the table
pub place_in_table : (rank : ℕ) → rank < 497 → place_of_rank rank < 497
unfolding is_inside
place_in_table rank inside = ltb-true _ _ (each_at is_inside 497 rank each_is_inside inside)

rises_by_one : (rank : ℕ) → rank + 1 < 497 → rank_key rank < rank_key (rank + 1)
unfolding is_rising
rises_by_one rank inside = ltb-true _ _ (each_at is_rising 496 rank each_is_rising (omega arith))

rises_by : (gap low : ℕ) → low + gap + 1 < 497 → rank_key low < rank_key (low + gap + 1)
rises_by zero low inside = let e : low + zero + 1 ≡ low + 1 = omega arith in rw e (rises_by_one low (omega arith))
rises_by (suc gap) low inside =
    let before = rises_by gap low (omega arith) in
    let last = rises_by_one (low + gap + 1) (omega arith) in
    let e : low + suc gap + 1 ≡ low + gap + 1 + 1 = omega arith in
    rw e (omega arith)

-- the keys rise with the ranks
pub rank_key_rises : (i j : ℕ) → i < j → j < 497 → rank_key i < rank_key j
rank_key_rises i j less inside =
    let e : j ≡ i + (j - i - 1) + 1 = omega arith in
    rw e (rises_by (j - i - 1) i (omega arith))

-- the row of a name is the name padded to 8 bytes
row_is_padded : (place : ℕ) → place < 497 → (row_at place ≡ padded (name_at place)) × (length (name_at place) ≤ 8)
unfolding is_padded
row_is_padded place inside =
    let both = and_parts _ _ (each_at is_padded 497 place each_is_padded inside) in
    ((bytes_eq-Decides (row_at place) (padded (name_at place))).0 both.0, leb-true _ _ both.1)

-- a name has at most 8 bytes
pub name_is_short : (place : ℕ) → place < 497 → length (name_at place) ≤ 8
name_is_short place inside = (row_is_padded place inside).1

some_from_unwrap : (o : Option ℕ) (d x : ℕ) → x < d → unwrap_or o d ≡ x → o ≡ Some x
some_from_unwrap None d x less e = absurd (omega (arith, e))
some_from_unwrap (Some y) d x less e = ap Some e

-- the name of a place names that place
pub place_in_name : (place : ℕ) → place < 497 → place_in (name_at place) ≡ Some place
unfolding is_found
place_in_name place inside =
    some_from_unwrap (place_in (name_at place)) 497 place inside (eqb-true _ _ (each_at is_found 497 place each_is_found inside))

-- a name's rank
pub record HasRank (place : ℕ) (text : List ℕ) (rank : ℕ) : Type 0 where
  pub inside : rank < 497
  pub there : place_of_rank rank ≡ place
  pub key : rank_key rank ≡ key_of text

named_rank : (place : ℕ) (text : List ℕ) → place < 497 → name_at place ≡ text → HasRank place text (rank_of place)
unfolding is_ranked rank_key
named_rank place text inside named =
    let both = and_parts _ _ (each_at is_ranked 497 place each_is_ranked inside) in
    let there : place_of_rank (rank_of place) ≡ place = eqb-true _ _ both.1 in
    record {
      inside = ltb-true _ _ both.0;
      there = there;
      key = ap (λ p. from_be_bytes w64 (row_at p)) there ∙ ap (from_be_bytes w64) ((row_is_padded place inside).0 ∙ ap padded named);
    }

-- a text isn't a name if the ranks below `low` have lower keys, the others have none, and the name at `low` differs
pub unnamed_at : (text : List ℕ) (key low : ℕ) → key ≡ key_of text → ((rank : ℕ) → rank < low → rank_key rank < key) → ((rank : ℕ) → low ≤ rank → rank < 497 → key ≤ rank_key rank) → (low < 497 → name_at (place_of_rank low) ≢ text) → (place : ℕ) → place < 497 → name_at place ≢ text
unnamed_at text key low is_key below above other place inside named =
    let found = named_rank place text inside named in
    let rank = rank_of place in
    ⊎_elim
    (λ same. other (subst (λ r. r < 497) same found.inside) (subst (λ r. name_at (place_of_rank r) ≡ text) same (ap name_at found.there ∙ named)))
    (λ apart. ⊎_elim
    (λ less. let b = below rank less in let k = found.key in omega arith)
    (λ more. let up = rank_key_rises low rank more found.inside in let a = above low (omega arith) (omega (arith, found.inside)) in let k = found.key in omega arith)
    apart)
    (cases_order rank low)

-- a search that finds no row gives no position
no_position : (test : List ℕ → Bool) (i : ℕ) (rows : List (List ℕ)) → ((k : ℕ) → k < length rows → test (get_or rows k []) ≡ true → ⊥) → position_from test i rows ≡ None
no_position test i [] none = refl
no_position test i (row ∷ rows) none =
    ⊎_elim
    (λ t. absurd (none 0 (omega arith) t))
    (λ f. cond-false _ _ _ f ∙ no_position test (i + 1) rows (λ k less. none (suc k) (omega arith)))
    (cases_Bool (test row))

-- a text that isn't a name has no place
pub place_in_none : (text : List ℕ) → ((place : ℕ) → place < 497 → name_at place ≢ text) → place_in text ≡ None
unfolding place_in name_at row_at
place_in_none text none =
    no_position (λ row. bytes_eq (unpadded row) text) 0 NAMES (λ k less same. none k less ((bytes_eq-Decides (unpadded (get_or NAMES k [])) text).0 same))

-- the order of two names
abbrev order_of : ℕ → ℕ → Ordering
order_of low high = slice_cmp nat_cmp (name_at (place_of_rank low)) (name_at (place_of_rank high))

less_from : (o : Ordering) → is_lt o ≡ true → o ≡ Less
less_from Less e = refl
less_from Equal e = cc
less_from Greater e = cc

follows_one : (rank : ℕ) → rank + 1 < 497 → order_of rank (rank + 1) ≡ Less
unfolding is_ordered
follows_one rank inside = less_from _ (each_at is_ordered 496 rank each_is_ordered (omega arith))

follows_by : (gap low : ℕ) → low + gap + 1 < 497 → order_of low (low + gap + 1) ≡ Less
follows_by zero low inside = let e : low + zero + 1 ≡ low + 1 = omega arith in rw e (follows_one low (omega arith))
follows_by (suc gap) low inside =
    let e : low + suc gap + 1 ≡ low + gap + 1 + 1 = omega arith in
    rw e (nat_list_cmp_total.trans (name_at (place_of_rank low)) (name_at (place_of_rank (low + gap + 1))) (name_at (place_of_rank (low + gap + 1 + 1))) (follows_by gap low (omega arith)) (follows_one (low + gap + 1) (omega arith)))

pub names_rise : NamesRise
names_rise low high less inside =
    let e : high ≡ low + (high - low - 1) + 1 = omega arith in
    rw e (follows_by (high - low - 1) low (omega arith))

pub each_has_rank : EachHasRank
unfolding is_ranked
each_has_rank place inside =
    let both = and_parts _ _ (each_at is_ranked 497 place each_is_ranked inside) in
    (rank_of place, ltb-true _ _ both.0, eqb-true _ _ both.1)
