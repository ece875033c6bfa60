-- Screens that differ only within some of their lines.
use Rattle.std.proofs.Common.{◌≡◌, ◌+◌, ℕ, ◌<◌, ◌≤◌, inl, inr, zero, suc, if◌then◌else◌, refl, sym, ap, subst, ◌∙◌, arith}
use Rattle.std.proofs.lemmas.Bool.Decides.{nat_tests}
use Rattle.std.proofs.lemmas.Bool.{cases_lt}
use Rattle.cur_steps.specs.Inks.{mixed, same}
use Rattle.cur_steps.specs.declared.inks.Ink.{Ink}
use Rattle.cur_moves.specs.declared.scrolls.Scroll.{Scroll}
use Rattle.cur_moves.specs.Scrolls.{shifted}
use Rattle.cur_paint.specs.Differ.{AreSameOutside, IsMoved, all_differ, differs, span}
use Rattle.cur_paint.specs.declared.changes.LineRange.{LineRange}
use Rattle.cur_paint.proofs.Ranges.{span_none}

-- screens that differ only in some lines, with their size in other words
pub sized_as : (old new : ℕ → ℕ → Ink) (from end rows cols n m : ℕ) → AreSameOutside old new from end rows cols → rows ≡ n → cols ≡ m → AreSameOutside old new from end n m
sized_as old new from end rows cols n m h e f = record {
  above = λ i j a b. h.above i j a (omega (arith, f, b));
  below = λ i j a b d. h.below i j a (omega (arith, e, b)) (omega (arith, f, d));
}

-- equal lines above add nothing to the count
pub all_above : (old new : ℕ → ℕ → Ink) (cols n : ℕ) → ((i j : ℕ) → i < n → j < cols → old i j ≡ new i j) → all_differ old new cols n ≡ 0
all_above old new cols zero h = refl
all_above old new cols (suc n) h =
    omega (arith, all_above old new cols n (λ i j a b. h i j (omega (arith, a)) b), span_none old new n 0 cols (λ j a b. h n j (omega arith) (omega (arith, b))))

-- equal lines below add nothing to the count
pub all_below : (old new : ℕ → ℕ → Ink) (cols end n : ℕ) → end ≤ n → ((i j : ℕ) → end ≤ i → i < n → j < cols → old i j ≡ new i j) → all_differ old new cols n ≡ all_differ old new cols end
all_below old new cols end zero le h = let same : 0 ≡ end = omega (arith, le) in ap (λ (k : ℕ). all_differ old new cols k) same
all_below old new cols end (suc n) le h = elim (cases_lt n end) [
  | inl lt ↦ (let same : suc n ≡ end = omega (arith, le, lt) in ap (λ (k : ℕ). all_differ old new cols k) same)
  | inr ge ↦ omega (arith, all_below old new cols end n ge (λ i j a b d. h i j a (omega (arith, b)) d), span_none old new n 0 cols (λ j a b. h n j ge (omega arith) (omega (arith, b))))
]

-- the lines before those that may differ add nothing to the count, whose size is told in other words
pub none_before : (old new : ℕ → ℕ → Ink) (lines : LineRange) (rows cols n m : ℕ) → AreSameOutside old new lines.from lines.end rows cols → rows ≡ n → cols ≡ m → 0 ≡ all_differ old new m lines.from
none_before old new lines rows cols n m h e f =
    let same = sized_as old new lines.from lines.end rows cols n m h e f in
    sym (all_above old new m lines.from same.above)

-- the lines from the last of them on add nothing to the count
pub none_past : (old new : ℕ → ℕ → Ink) (lines : LineRange) (row rows cols n m : ℕ) → AreSameOutside old new lines.from lines.end rows cols → lines.end ≤ rows → row ≡ lines.end → rows ≡ n → cols ≡ m
    → all_differ old new m row ≡ all_differ old new m n
none_past old new lines row rows cols n m h le end e f =
    let same = sized_as old new lines.from lines.end rows cols n m h e f in
    ap (λ (k : ℕ). all_differ old new m k) end ∙ sym (all_below old new m lines.end n (omega (arith, le, e)) same.below)

-- the lines above are as wanted already
pub mixed_above : (old new : ℕ → ℕ → Ink) (r i j : ℕ) → (i < r → old i j ≡ new i j) → old i j ≡ mixed old new r 0 i j
mixed_above old new r i j h = grind (arith, nat_tests, h)

-- the lines below are as wanted already
pub mixed_below : (old new : ℕ → ℕ → Ink) (r i j : ℕ) → (r ≤ i → old i j ≡ new i j) → mixed old new r 0 i j ≡ new i j
mixed_below old new r i j h = grind (arith, nat_tests, h)

shifted_above : (x : Scroll) (g : ℕ → ℕ → Ink) (i j : ℕ) → i < x.top → shifted x g i j ≡ g i j
shifted_above x g i j lt = grind (arith, nat_tests)

shifted_below : (x : Scroll) (g : ℕ → ℕ → Ink) (i j : ℕ) → x.bottom < i → shifted x g i j ≡ g i j
shifted_below x g i j lt = grind (arith, nat_tests)

-- a scrolled screen doesn't differ outside the region and the lines that differed before
pub moved_outside : (between : (ℕ → ℕ → Ink) → (ℕ → ℕ → Ink) → Type 0) (x : Scroll) (shown g new : ℕ → ℕ → Ink) (from end first last rows cols : ℕ) → (m : IsMoved between x shown g new)
    → AreSameOutside m.old new from end rows cols → first ≤ from → first ≤ x.top → end ≤ last → ((i : ℕ) → last ≤ i → i < rows → x.bottom < i) → AreSameOutside g new first last rows cols
moved_outside between x shown g new from end first last rows cols m h a b d past = record {
  above = λ i j lt lj. ap (λ (f : ℕ → ℕ → Ink). f i j) m.is ∙ shifted_above x m.old i j (omega (arith, lt, b)) ∙ h.above i j (omega (arith, lt, a)) lj;
  below = λ i j le li lj. ap (λ (f : ℕ → ℕ → Ink). f i j) m.is ∙ shifted_below x m.old i j (past i le li) ∙ h.below i j (omega (arith, d, le)) li lj;
}

-- the count of a line is one of its cells
span_same : (a b new : ℕ → ℕ → Ink) (i from n : ℕ) → ((j : ℕ) → from ≤ j → j < from + n → a i j ≡ b i j) → span a new i from n ≡ span b new i from n
span_same a b new i from zero h = refl
span_same a b new i from (suc n) h =
    let one : differs a new i (from + n) ≡ differs b new i (from + n) = ap (λ (x : Ink). if same x (new i (from + n)) then 0 else 1) (h (from + n) (omega arith) (omega arith)) in
    omega (arith, span_same a b new i from n (λ j x y. h j x (omega (arith, y))), one)

-- equal lines above have equal counts
counts_above : (a b new : ℕ → ℕ → Ink) (cols n : ℕ) → ((i j : ℕ) → i < n → j < cols → a i j ≡ b i j) → all_differ a new cols n ≡ all_differ b new cols n
counts_above a b new cols zero h = refl
counts_above a b new cols (suc n) h =
    omega (arith, counts_above a b new cols n (λ i j x y. h i j (omega (arith, x)) y), span_same a b new n 0 cols (λ j x y. h n j (omega arith) (omega (arith, y))))

-- equal lines below add as much to one count as to the other
counts_below : (a b new : ℕ → ℕ → Ink) (cols end n : ℕ) → end ≤ n → ((i j : ℕ) → end ≤ i → i < n → j < cols → a i j ≡ b i j)
    → all_differ a new cols n + all_differ b new cols end ≡ all_differ b new cols n + all_differ a new cols end
counts_below a b new cols end zero le h =
    let same : 0 ≡ end = omega (arith, le) in
    subst (λ (k : ℕ). all_differ a new cols 0 + all_differ b new cols k ≡ all_differ b new cols 0 + all_differ a new cols k) same refl
counts_below a b new cols end (suc n) le h = elim (cases_lt n end) [
  | inl lt ↦ (let same : suc n ≡ end = omega (arith, le, lt) in subst (λ (k : ℕ). all_differ a new cols (suc n) + all_differ b new cols k ≡ all_differ b new cols (suc n) + all_differ a new cols k) same (omega arith))
  | inr ge ↦ omega (arith, counts_below a b new cols end n ge (λ i j x y z. h i j x (omega (arith, y)) z), span_same a b new n 0 cols (λ j x y. h n j ge (omega arith) (omega (arith, y))))
]

-- a scroll saves as many cells on the whole screen as in its region
pub region_saves : (x : Scroll) (old new : ℕ → ℕ → Ink) (cols from end rows left count by : ℕ) → x.top < x.bottom → x.bottom < rows → from ≡ x.top → end ≡ x.bottom + 1
    → all_differ (shifted x old) new cols end ≤ all_differ (shifted x old) new cols from + left → all_differ old new cols from + count ≤ all_differ old new cols end → left + by ≤ count
    → by + all_differ (shifted x old) new cols rows ≤ all_differ old new cols rows
region_saves x old new cols from end rows left count by region bottom f e after before saves =
    let above = counts_above (shifted x old) old new cols from (λ i j lt k. shifted_above x old i j (omega (arith, lt, f))) in
    let below = counts_below (shifted x old) old new cols end rows (omega (arith, e, bottom)) (λ i j ge lt k. shifted_below x old i j (omega (arith, ge, e))) in
    omega (arith, above, below, after, before, saves)
