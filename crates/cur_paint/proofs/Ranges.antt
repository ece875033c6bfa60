-- A line that differs only within some of its columns.
use Rattle.std.proofs.Common.{◌≡◌, Option, Some, None, ℕ, ◌+◌, ◌-◌, ◌<◌, ◌≤◌, inl, inr, ◌==◌, ◌&&◌, Bool, true, false, zero, suc, if◌then◌else◌, refl, sym, ap, subst, ◌∙◌, arith}
use Rattle.std.proofs.lemmas.Bool.Decides.{nat_tests}
use Rattle.std.proofs.lemmas.Bool.{cases_lt}
use Rattle.cur_steps.specs.Inks.{alike, blank_ink, same}
use Rattle.cur_steps.specs.declared.inks.Ink.{Ink}
use Rattle.cur_steps.proofs.Sameness.{brush_known}
use Rattle.cur_moves.specs.declared.scrolls.Scroll.{Scroll}
use Rattle.cur_moves.specs.Scrolls.{cell_of, shifted}
use Rattle.cur_paint.specs.Differ.{IsMoved, IsSameOutside, IsWritten, differs, span}
use Rattle.cur_paint.proofs.Mixtures.{span_more, span_parts, span_split}

number_self : (n : ℕ) → (n == n) ≡ true
number_self n = grind (arith, nat_tests)

alike_self : (b : Bool) → alike b b ≡ true
alike_self true = refl
alike_self false = refl

three : (a b c : Bool) → a ≡ true → b ≡ true → c ≡ true → (a && (b && c)) ≡ true
three true true true p q r = refl
three true true false p q r = r
three true false c p q r = q
three false b c p q r = p

same_self : (x : Ink) → same x x ≡ true
same_self x = three _ _ _ (number_self x.byte) (alike_self x.graphic) (brush_known x.brush x.brush refl)

none_differs : (old new : ℕ → ℕ → Ink) (i j : ℕ) → old i j ≡ new i j → differs old new i j ≡ 0
none_differs old new i j e =
    let f : same (old i j) (new i j) ≡ true = subst (λ (x : Ink). same (old i j) x ≡ true) e (same_self (old i j)) in
    ap (λ (x : Bool). if x then 0 else 1) f

-- equal cells add nothing to the count
pub span_none : (old new : ℕ → ℕ → Ink) (i from n : ℕ) → ((j : ℕ) → from ≤ j → j < from + n → old i j ≡ new i j) → span old new i from n ≡ 0
span_none old new i from zero h = refl
span_none old new i from (suc n) h =
    omega (arith, span_none old new i from n (λ j a b. h j a (omega (arith, b))), none_differs old new i (from + n) (h (from + n) (omega arith) (omega arith)))

few_differ : (t : Bool) → (if t then 0 else 1) ≤ 1
few_differ true = omega arith
few_differ false = omega arith

-- no more places differ than there are
pub span_few : (old new : ℕ → ℕ → Ink) (i from n : ℕ) → span old new i from n ≤ n
span_few old new i from zero = omega arith
span_few old new i from (suc n) = omega (arith, span_few old new i from n, few_differ (same (old i (from + n)) (new i (from + n))))

-- only the columns that may differ add to the count
pub span_within : (old new : ℕ → ℕ → Ink) (i from end cols : ℕ) → IsSameOutside old new i from end cols → from ≤ end → end ≤ cols → span old new i from (end - from) ≡ span old new i 0 cols
span_within old new i from end cols h order within =
    let front : span old new i 0 from ≡ 0 = span_none old new i 0 from (λ j a b. h.before j (omega (arith, b))) in
    let back : span old new i end (cols - end) ≡ 0 = span_none old new i end (cols - end) (λ j a b. h.after j a (omega (arith, b, within))) in
    omega (arith, front, back, span_parts old new i from cols (omega (arith, order, within)), span_split old new i from end cols order within)

-- one more place of a line from a column on
pub span_on : (old new : ℕ → ℕ → Ink) (i from n count one : ℕ) → count ≡ span old new i from n → one ≡ differs old new i (from + n) → count + one ≡ span old new i from (n + 1)
span_on old new i from n count one e f = omega (arith, e, f, span_more old new i from n)

-- a screen that was scrolled, in other words
pub moved_same : (between : (ℕ → ℕ → Ink) → (ℕ → ℕ → Ink) → Type 0) (x : Scroll) (shown g new : ℕ → ℕ → Ink) (i from end cols : ℕ) → (m : IsMoved between x shown g new)
    → IsSameOutside (shifted x m.old) new i from end cols → IsSameOutside g new i from end cols
moved_same between x shown g new i from end cols m h = record {
  before = λ j lt. ap (λ (f : ℕ → ℕ → Ink). f i j) m.is ∙ h.before j lt;
  after = λ j le lt. ap (λ (f : ℕ → ℕ → Ink). f i j) m.is ∙ h.after j le lt;
}

-- a blank line that a scroll brings in
pub incoming_same : (between : (ℕ → ℕ → Ink) → (ℕ → ℕ → Ink) → Type 0) (x : Scroll) (shown g new : ℕ → ℕ → Ink) (i from end cols : ℕ) (o : Option ℕ) → (m : IsMoved between x shown g new) → o ≡ None → from ≡ 0
    → ((j : ℕ) → shifted x m.old i j ≡ cell_of m.old o j) → ((k : ℕ) → end ≤ k → k < cols → shown i k ≡ blank_ink) → IsSameOutside g new i from end cols
incoming_same between x shown g new i from end cols o m none start before blank = record {
  before = λ j lt. absurd (omega (arith, lt, start));
  after = λ j le lt. ap (λ (f : ℕ → ℕ → Ink). f i j) m.is ∙ before j ∙ ap (λ (p : Option ℕ). cell_of m.old p j) none ∙ sym (blank j le lt) ∙ sym (m.other i j);
}

-- a line on a blank screen
pub written_same : (shown old new : ℕ → ℕ → Ink) (i from end cols : ℕ) → IsWritten shown old new → from ≡ 0 → ((k : ℕ) → end ≤ k → k < cols → shown i k ≡ blank_ink) → IsSameOutside old new i from end cols
written_same shown old new i from end cols h start blank = record {
  before = λ j lt. absurd (omega (arith, lt, start));
  after = λ j le lt. h.blank i j ∙ sym (blank j le lt) ∙ sym (h.other i j);
}

-- a line that a scroll leaves where it is
pub stayed_same : (x : Scroll) (g new : ℕ → ℕ → Ink) (i from end cols : ℕ) (o : Option ℕ) (line : ℕ) → o ≡ Some line → line ≡ i → ((j : ℕ) → shifted x g i j ≡ cell_of g o j)
    → IsSameOutside g new i from end cols → IsSameOutside (shifted x g) new i from end cols
stayed_same x g new i from end cols o line is at before h =
    let e : (j : ℕ) → shifted x g i j ≡ g i j = λ j. before j ∙ ap (λ (p : Option ℕ). cell_of g p j) is ∙ ap (λ (k : ℕ). g k j) at in
    record {
      before = λ j lt. e j ∙ h.before j lt;
      after = λ j le lt. e j ∙ h.after j le lt;
    }

-- no column of a line may differ
pub all_same : (old new : ℕ → ℕ → Ink) (i from end cols : ℕ) → IsSameOutside old new i from end cols → from ≡ end → (k : ℕ) → k < cols → old i k ≡ new i k
all_same old new i from end cols h e k lt = elim (cases_lt k from) [
  | inl less ↦ h.before k less
  | inr more ↦ h.after k (omega (arith, e, more)) lt
]
