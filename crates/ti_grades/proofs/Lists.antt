-- The parameter lists of a capability, one after another.
use Rattle.std.proofs.Common.{◌≡◌, ◌⊎◌, inl, inr, ◌<◌, ◌+◌, ℕ, Bool, List, Option, Some, None, is_some, true, false, sym, ap, subst, ◌∙◌, arith}
use Rattle.std.proofs.Math.Nat.{eq-or-lt_of_le}
use Rattle.vt_term.specs.Size.{IsSize}
use Rattle.ti_rows.specs.declared.rows.Row.{Row}
use Rattle.ti_rows.specs.Names.{order, first_in_order, capabilities}
use Rattle.ti_rows.proofs.NameFacts.{firsts_in_order}
use Rattle.ti_rows.specs.Lists.{IsFirst, IsInRange, Follows, next, rank, count}
use Rattle.ti_rows.proofs.ListFacts.{firsts_in_range, last_is_last, ranks_below, one_of_rank}
use Rattle.ti_conforms.proofs.Walks.{same_count}
use Rattle.ti_grades.specs.Functions.{IsNeverKnown, SendsUnknown, UnknownBefore}

pub none_before : (rows cols : ℕ) (string : List ℕ) (place k : ℕ) → k ≡ 0 → UnknownBefore rows cols string place k
none_before rows cols string place k zero row range same lt = absurd (omega (arith, zero, lt))

up_to : (rows cols : ℕ) (string : List ℕ) (place : ℕ) (row : Row) → IsInRange rows cols row → order row ≡ place → SendsUnknown string row → UnknownBefore rows cols string place (rank rows cols row)
    → (other : Row) → IsInRange rows cols other → order other ≡ place → rank rows cols other < rank rows cols row + 1 → SendsUnknown string other
up_to rows cols string place row range same is before other in_range alike lt = by_rank (eq-or-lt_of_le (omega (arith, lt)))
  where
    by_rank : (rank rows cols other ≡ rank rows cols row) ⊎ (rank rows cols other < rank rows cols row) → SendsUnknown string other
    by_rank (inl e) = subst (λ (r : Row). SendsUnknown string r) (sym (one_of_rank rows cols other row in_range range (alike ∙ sym same) e)) is
    by_rank (inr less) = before other in_range alike less

pub one_more : (rows cols : ℕ) (string : List ℕ) (place : ℕ) (row after : Row) → IsInRange rows cols row → order row ≡ place → Follows rows cols row after → SendsUnknown string row → UnknownBefore rows cols string place (rank rows cols row)
    → UnknownBefore rows cols string place (rank rows cols after)
one_more rows cols string place row after range same f is before other in_range alike lt =
    let k = f.rank_next in up_to rows cols string place row range same is before other in_range alike (omega (arith, k, lt))

pub after_last : (rows cols : ℕ) (string : List ℕ) (place : ℕ) (row : Row) → IsSize rows cols → IsInRange rows cols row → order row ≡ place → next rows cols row ≡ None → SendsUnknown string row → UnknownBefore rows cols string place (rank rows cols row)
    → (other : Row) → IsInRange rows cols other → order other ≡ place → SendsUnknown string other
after_last rows cols string place row size range same last is before other in_range alike =
    let most_rank : rank rows cols row + 1 ≡ count rows cols row = last_is_last rows cols row size range last in
    let as_many : count rows cols other ≡ count rows cols row = same_count rows cols other row (alike ∙ sym same) in
    let below : rank rows cols other < count rows cols other = ranks_below rows cols other size in_range in
    up_to rows cols string place row range same is before other in_range alike (omega (arith, most_rank, as_many, below))

-- ---- the first parameter list

pub has_first : (place : ℕ) (found : Option Row) → place < capabilities → found ≡ first_in_order place → is_some found ≡ true
has_first place found lt e = let f = firsts_in_order place lt in ap (λ (o : Option Row). is_some o) (e ∙ f.is_first)

pub first_order : (place : ℕ) (first : Row) → place < capabilities → Some first ≡ first_in_order place → order first ≡ place
first_order place first lt e =
    let f = firsts_in_order place lt in
    let is : Some first ≡ Some f.row = e ∙ f.is_first in
    let alike : first ≡ f.row = cc in
    ap (λ (r : Row). order r) alike ∙ f.ordered

pub first_list : (rows cols place : ℕ) (first : Row) → IsSize rows cols → Some first ≡ first_in_order place → IsFirst rows cols first
first_list rows cols place first size e = firsts_in_range rows cols place first size (sym e)

-- ---- whichever list of a capability is named

pub of_same_cap : (rows cols : ℕ) (string : List ℕ) (first row : Row) (so : Bool) → order first ≡ order row → IsNeverKnown rows cols string first so → IsNeverKnown rows cols string row so
of_same_cap rows cols string first row true same never = λ other range of_cap. never other range (of_cap ∙ sym same)
of_same_cap rows cols string first row false same once = record { other = once.other; range = once.range; of_cap = once.of_cap ∙ same; sends = once.sends }
