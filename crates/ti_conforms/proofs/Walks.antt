-- All parameter lists of a capability, one after another.
use Rattle.std.proofs.Common.{◌≡◌, ◌<◌, ◌+◌, ◌-◌, ◌*◌, ◌==◌, ℕ, List, Option, None, if◌then◌else◌, refl, sym, ap, subst, ◌∙◌, arith, below_more}
use Rattle.vt_term.specs.Size.{IsSize}
use Rattle.ti_rows.specs.declared.rows.Row.{Row}
use Rattle.ti_rows.specs.declared.rows.Row.TheVariants.{Cup}
use Rattle.ti_rows.specs.Names.{order}
use Rattle.ti_rows.specs.Lists.{IsInRange, above, next, rank, count, Follows}
use Rattle.ti_rows.proofs.ListFacts.{last_is_last, ranks_below, one_of_rank}
use Rattle.ti_conforms.specs.Agreement.{LineSends, AllSend, SendsAt}

-- how many lists the capability at a place has
count_at : ℕ → ℕ → ℕ → ℕ
count_at rows cols n =
    if n == 14 then rows * cols else
    (if n == 25 then cols else
    (if n == 41 then rows else
    (if n == 8 then cols - 1 else
    (if n == 12 then cols - 1 else
    (if n == 15 then rows - 1 else
    (if n == 10 then rows - 1 else
    (if n == 19 then cols else
    (if n == 35 then 128 else
    (if n == 34 then 8 else
    (if n == 33 then 8 else
    (if n == 7 then above rows (rows - 1) else
    1)))))))))))

counted : (rows cols : ℕ) (row : Row) → count rows cols row ≡ count_at rows cols (order row)
unfolding count_at
counted rows cols (Cup row col) = refl
counted rows cols _ = refl

-- rows of one capability have the same number of lists
pub same_count : (rows cols : ℕ) (row other : Row) → order row ≡ order other → count rows cols row ≡ count rows cols other
same_count rows cols row other e = counted rows cols row ∙ (ap (count_at rows cols) e ∙ sym (counted rows cols other))

-- one more list
pub one_more : (rows cols : ℕ) (string : List ℕ) (line_of : Row → Option (List ℕ)) (n : ℕ) (row : Row) → IsInRange rows cols row → order row ≡ n → LineSends string (line_of row) row
    → ((k : ℕ) → k < rank rows cols row → SendsAt rows cols string line_of n k) → (k : ℕ) → k < rank rows cols row + 1 → SendsAt rows cols string line_of n k
one_more rows cols string line_of n row range same sends before = below_more (SendsAt rows cols string line_of n) (rank rows cols row) before
    (λ other o r e. let is : row ≡ other = one_of_rank rows cols row other range r (same ∙ sym o) (sym e) in subst (λ (x : Row). LineSends string (line_of x) x) is sends)

-- after the last list, all are sent
pub all_send : (rows cols : ℕ) (string : List ℕ) (line_of : Row → Option (List ℕ)) (n : ℕ) (row : Row) → IsSize rows cols → IsInRange rows cols row → order row ≡ n → next rows cols row ≡ None
    → ((k : ℕ) → k < rank rows cols row + 1 → SendsAt rows cols string line_of n k) → AllSend rows cols string line_of n
all_send rows cols string line_of n row size range same last all other o r =
    let most : rank rows cols row + 1 ≡ count rows cols row = last_is_last rows cols row size range last in
    let alike : count rows cols row ≡ count rows cols other = same_count rows cols row other (same ∙ sym o) in
    let below : rank rows cols other < count rows cols other = ranks_below rows cols other size r in
    let lt : rank rows cols other < rank rows cols row + 1 = omega (arith, most, alike, below) in
    all (rank rows cols other) lt other o r refl

-- after each list, fewer are left
pub nearer : (rows cols : ℕ) (row other : Row) → IsSize rows cols → Follows rows cols row other → IsInRange rows cols other → count rows cols other - rank rows cols other < count rows cols row - rank rows cols row
nearer rows cols row other size f range =
    let below : rank rows cols other < count rows cols other = ranks_below rows cols other size range in
    let one : rank rows cols other ≡ rank rows cols row + 1 = f.rank_next in
    let same : count rows cols other ≡ count rows cols row = f.same_count in
    omega (arith, below, one, same)
