-- All lines of a capability, one after another.
use Rattle.std.proofs.Common.{◌≡◌, ◌<◌, ◌+◌, ℕ, List, Option, None, sym, ap, subst, ◌∙◌, arith, below_more, refl}
use Rattle.vt_term.specs.Size.{max_rows, max_cols}
use Rattle.ti_rows.specs.declared.rows.Row.{Row}
use Rattle.ti_rows.specs.Names.{order}
use Rattle.ti_rows.specs.Lists.{IsInRange, next, rank, count}
use Rattle.ti_rows.proofs.ListFacts.{last_is_last, ranks_below, one_of_rank}
use Rattle.ti_conforms.proofs.Walks.{same_count}
use Rattle.ti_sizes.specs.Lines.{IsSteadyLine, IsSteadyAt, CapIsSteady}
use Rattle.ti_sizes.proofs.StepFacts.{greatest}

-- one more line
pub one_more : (line_of : Row → Option (List ℕ)) (n : ℕ) (row : Row) → IsInRange max_rows max_cols row → order row ≡ n → IsSteadyLine row (line_of row)
    → ((k : ℕ) → k < rank max_rows max_cols row → IsSteadyAt line_of n k) → (k : ℕ) → k < rank max_rows max_cols row + 1 → IsSteadyAt line_of n k
one_more line_of n row range same steady before = below_more (IsSteadyAt line_of n) (rank max_rows max_cols row) before
    (λ other o r e. let is : row ≡ other = one_of_rank max_rows max_cols row other range r (same ∙ sym o) (sym e) in subst (λ (x : Row). IsSteadyLine x (line_of x)) is steady)

-- after the last line, all are steady
pub all_steady : (line_of : Row → Option (List ℕ)) (n : ℕ) (row : Row) → IsInRange max_rows max_cols row → order row ≡ n → next max_rows max_cols row ≡ None
    → ((k : ℕ) → k < rank max_rows max_cols row + 1 → IsSteadyAt line_of n k) → CapIsSteady line_of n
all_steady line_of n row range same last all other o r =
    let most : rank max_rows max_cols row + 1 ≡ count max_rows max_cols row = last_is_last max_rows max_cols row greatest range last in
    let alike : count max_rows max_cols row ≡ count max_rows max_cols other = same_count max_rows max_cols row other (same ∙ sym o) in
    let below : rank max_rows max_cols other < count max_rows max_cols other = ranks_below max_rows max_cols other greatest r in
    let lt : rank max_rows max_cols other < rank max_rows max_cols row + 1 = omega (arith, most, alike, below) in
    all (rank max_rows max_cols other) lt other o r refl

pub next_there : (rows cols : ℕ) (row : Row) (o : Option Row) → rows ≡ max_rows → cols ≡ max_cols → o ≡ next rows cols row → next max_rows max_cols row ≡ o
next_there rows cols row o er ec e = sym (e ∙ (ap (λ (n : ℕ). next n cols row) er ∙ ap (λ (n : ℕ). next max_rows n row) ec))
