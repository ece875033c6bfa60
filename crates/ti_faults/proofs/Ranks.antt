-- The rows of a capability, one after another.
use Rattle.std.proofs.Common.{◌≡◌, ◌⊎◌, inl, inr, ◌<◌, ◌+◌, ℕ, List, None, sym, subst, ◌∙◌, arith}
use Rattle.std.proofs.Math.Nat.{eq-or-lt_of_le}
use Rattle.vt_term.specs.Size.{IsSize}
use Rattle.ti_rows.specs.declared.rows.Row.{Row}
use Rattle.ti_rows.specs.Names.{order}
use Rattle.ti_rows.specs.Lists.{IsInRange, Follows, next, rank, count}
use Rattle.ti_rows.proofs.ListFacts.{last_is_last, ranks_below, one_of_rank}
use Rattle.ti_conforms.proofs.Walks.{same_count}
use Rattle.ti_checker.specs.First.{SendsAsked}
use Rattle.ti_faults.specs.RowFaults.{SendsAllAsked, SendsAskedBefore}

pub right_none : (rows cols : ℕ) (string : List ℕ) (place k : ℕ) → k ≡ 0 → SendsAskedBefore rows cols string place k
right_none rows cols string place k zero row range same lt = absurd (omega (arith, zero, lt))

right_up_to : (rows cols : ℕ) (string : List ℕ) (place : ℕ) (row : Row) → IsInRange rows cols row → order row ≡ place → SendsAsked rows cols string row → SendsAskedBefore rows cols string place (rank rows cols row)
    → (other : Row) → IsInRange rows cols other → order other ≡ place → rank rows cols other < rank rows cols row + 1 → SendsAsked rows cols string other
right_up_to rows cols string place row range same right before other in_range alike lt = by_rank (eq-or-lt_of_le (omega (arith, lt)))
  where
    by_rank : (rank rows cols other ≡ rank rows cols row) ⊎ (rank rows cols other < rank rows cols row) → SendsAsked rows cols string other
    by_rank (inl e) = subst (λ (r : Row). SendsAsked rows cols string r) (sym (one_of_rank rows cols other row in_range range (alike ∙ sym same) e)) right
    by_rank (inr less) = before other in_range alike less

pub right_next : (rows cols : ℕ) (string : List ℕ) (place : ℕ) (row after : Row) → IsInRange rows cols row → order row ≡ place → Follows rows cols row after → SendsAsked rows cols string row → SendsAskedBefore rows cols string place (rank rows cols row)
    → SendsAskedBefore rows cols string place (rank rows cols after)
right_next rows cols string place row after range same f right before other in_range alike lt =
    let k = f.rank_next in right_up_to rows cols string place row range same right before other in_range alike (omega (arith, k, lt))

pub right_last : (rows cols : ℕ) (string : List ℕ) (place : ℕ) (row : Row) → IsSize rows cols → IsInRange rows cols row → order row ≡ place → next rows cols row ≡ None → SendsAsked rows cols string row → SendsAskedBefore rows cols string place (rank rows cols row)
    → SendsAllAsked rows cols string place
right_last rows cols string place row size range same last right before other in_range alike =
    let most_rank : rank rows cols row + 1 ≡ count rows cols row = last_is_last rows cols row size range last in
    let as_many : count rows cols other ≡ count rows cols row = same_count rows cols other row (alike ∙ sym same) in
    let below : rank rows cols other < count rows cols other = ranks_below rows cols other size in_range in
    right_up_to rows cols string place row range same right before other in_range alike (omega (arith, most_rank, as_many, below))
