-- Marks of many grids, changed one after another.
use Rattle.std.proofs.Common.{ap, ◌≡◌, ◌≢◌, ℕ, ◌+◌, ◌<◌, ◌≤◌, ◌⊎◌, [], true, length, min, set, refl, sym, ◌∙◌, inl, inr, arith, subst}
use Rattle.std.proofs.lemmas.Bool.{cases_eq, cases_lt}
use Rattle.std.proofs.lemmas.List.{get_or-set_same, get_or-set_other}
use Rattle.cur_screens.specs.Marks.{JoinsMarks, Marking}
use Rattle.cur_screens.specs.Touched.{Markings, Spreads, full_from, grid_marks}
use Rattle.cur_screens.proofs.Openings.{filled, full_at, is_full_at, length_full_from, used_at}
use Rattle.cur_screens.proofs.Marked.{past_full}

abbrev pub unknown : Marking
unknown = record { all = true; lines = [] }

-- no mark is missing if all is marked
pub joins_full : (m o : Marking) (rows cols : ℕ) → m.all ≡ true → JoinsMarks m o rows cols m
joins_full m o rows cols full = record {
  kept = λ i j u. u;
  joined = λ i j row col u. absurd (let some = u.some in cc);
  only = λ i j side. elim side [ inl all ↦ (all j (omega arith)).one | inr all ↦ (all j (omega arith)).one ];
}

-- the marks are added to one more grid
pub next_spread : (t x : Markings) (n o : Marking) (k but rows cols : ℕ) → k < length x → ((l : ℕ) → l < k → l ≢ but → JoinsMarks (grid_marks t l) o rows cols (grid_marks x l)) → JoinsMarks (grid_marks t k) o rows cols n →
    (l : ℕ) → l < k + 1 → l ≢ but → JoinsMarks (grid_marks t l) o rows cols (grid_marks (set x k n) l)
next_spread t x n o k but rows cols lt before next l near apart = elim (cases_eq l k) [
  | inl same ↦ subst (λ (r : ℕ). JoinsMarks (grid_marks t r) o rows cols (grid_marks (set x k n) r)) (sym same) (subst (λ (m : Marking). JoinsMarks (grid_marks t k) o rows cols m) (sym (get_or-set_same x k n unknown lt)) next)
  | inr other ↦ subst (λ (m : Marking). JoinsMarks (grid_marks t l) o rows cols m) (sym (get_or-set_other x k l n unknown other)) (before l (omega (arith, near, other)) apart)
]

pub rest_spread : (t x : Markings) (n : Marking) (k but : ℕ) → k ≢ but → ((l : ℕ) → (k ≤ l) ⊎ (l ≡ but) → grid_marks x l ≡ grid_marks t l) → (l : ℕ) → (k + 1 ≤ l) ⊎ (l ≡ but) → grid_marks (set x k n) l ≡ grid_marks t l
rest_spread t x n k but apart rest l (inl past) = get_or-set_other x k l n unknown (λ (e : l ≡ k). absurd (omega (arith, e, past))) ∙ rest l (inl (omega (arith, past)))
rest_spread t x n k but apart rest l (inr same) = get_or-set_other x k l n unknown (λ (e : l ≡ k). apart (sym e ∙ same)) ∙ rest l (inr same)

pub later : (k l but : ℕ) → (k + 1 ≤ l) ⊎ (l ≡ but) → (k ≤ l) ⊎ (l ≡ but)
later k l but (inl past) = inl (omega (arith, past))
later k l but (inr same) = inr same

-- the grid `but` gets none
pub next_left : (t x : Markings) (o : Marking) (k but rows cols : ℕ) → k ≡ but → ((l : ℕ) → l < k → l ≢ but → JoinsMarks (grid_marks t l) o rows cols (grid_marks x l)) → (l : ℕ) → l < k + 1 → l ≢ but → JoinsMarks (grid_marks t l) o rows cols (grid_marks x l)
next_left t x o k but rows cols is before l near apart = before l (omega (arith, is, near, apart)) apart

-- the marks are added to all grids in use
pub all_spread : (t x : Markings) (o : Marking) (n k but rows cols : ℕ) → min n (length t) ≤ k → k ≤ min n (length t) → length x ≡ length t → ((l : ℕ) → l < k → l ≢ but → JoinsMarks (grid_marks t l) o rows cols (grid_marks x l)) →
    ((l : ℕ) → (k ≤ l) ⊎ (l ≡ but) → grid_marks x l ≡ grid_marks t l) → Spreads (full_from n t) (full_from n x) but o rows cols
all_spread t x o n k but rows cols end near size before rest = record {
  same = same_at but (rest but (inr refl));
  size = length_full_from n x ∙ size ∙ sym (length_full_from n t);
  others = λ l apart. elim (cases_lt l k) [
    | inl gone ↦ subst (λ (m : Marking). JoinsMarks m o rows cols (grid_marks (full_from n x) l)) (sym (used_at n t l (omega (arith, gone, near))))
        (subst (λ (m : Marking). JoinsMarks (grid_marks t l) o rows cols m) (sym (used_at n x l (omega (arith, gone, near)))) (before l gone apart))
    | inr past ↦ subst (λ (m : Marking). JoinsMarks (grid_marks (full_from n t) l) o rows cols m) (sym (same_at l (rest l (inl past))))
        (joins_full (grid_marks (full_from n t) l) o rows cols (full_past l past))
  ];
}
  where
    same_at : (l : ℕ) → grid_marks x l ≡ grid_marks t l → grid_marks (full_from n x) l ≡ grid_marks (full_from n t) l
    same_at l is = elim (cases_lt l n) [
      | inl used ↦ used_at n x l used ∙ is ∙ sym (used_at n t l used)
      | inr full ↦ full_at n x l full ∙ ap filled is ∙ sym (full_at n t l full)
    ]

    full_past : (l : ℕ) → k ≤ l → (grid_marks (full_from n t) l).all ≡ true
    full_past l past = elim (cases_lt l n) [
      | inl used ↦ past_full (full_from n t) l (omega (arith, used, past, end, length_full_from n t))
      | inr full ↦ is_full_at n t l full
    ]
