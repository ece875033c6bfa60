-- Marks of lines and of rectangles.
use Rattle.std.proofs.Common.{◌≡◌, ◌≢◌, ℕ, ◌+◌, ◌-◌, ◌<◌, ◌≤◌, ◌⊎◌, true, [], length, sym, ap, inl, inr, arith, subst, false, refl}
use Rattle.std.proofs.lemmas.Bool.{cases_lt, cases_eq}
use Rattle.std.proofs.lemmas.List.{get_or-set_other, get_or_past, length-set}
use Rattle.cur_drawing.specs.declared.windows.Window.{Window}
use Rattle.cur_screens.specs.declared.marks.Marked.{Marked}
use Rattle.cur_screens.specs.Marks.{IsUnmarked, Marking, marked_at, marked_between, nothing, widened}
use Rattle.cur_screens.specs.declared.slots.Origin.{Origin}
use Rattle.cur_screens.specs.Touched.{IsGoneThrough, Markings, grid_marks, IsUnmarkedOutside, cells_shown, MarksArea}
use Rattle.std.proofs.lemmas.Bool.Decides.{nat_tests}
use Rattle.cur_drawing.specs.Grids.{is_in}
use Rattle.std.proofs.lemmas.Grind.{get_or-set_at}
use Rattle.grids.specs.declared.areas.Area.{Area}
use Rattle.grids.proofs.Rectangles.{no_rows, top_rows}
use Rattle.cur_screens.proofs.MarkFacts.{unmarked_before, unmarked_beside}

-- a grid without marks
pub past_full : (t : Markings) (k : ℕ) → length t ≤ k → (grid_marks t k).all ≡ true
past_full t k past = ap (λ (m : Marking). m.all) (get_or_past t k (record { all = true; lines = [] }) past)

-- an unmarked place in another line stays unmarked
pub unmarked_other : (m : Marking) (row from end i j : ℕ) → i ≢ row → IsUnmarked m i j → IsUnmarked (marked_between row from end m) i j
unmarked_other m row from end i j apart u = record {
  some = u.some;
  line = omega (arith, u.line, length-set m.lines row (widened from end (marked_at m row)));
  column = subst (λ (x : Marked). (j < x.from) ⊎ (x.end ≤ j)) (sym (get_or-set_other m.lines row i (widened from end (marked_at m row)) nothing apart)) u.column;
}

-- a line through which the cursor didn't pass
pub not_gone : (o : Origin) (w : Window) (first i : ℕ) → (IsGoneThrough o w first i → ⊥) → (i < o.top + w.area.top + first) ⊎ (o.top + w.area.top + first + (w.row + 1 - first) ≤ i)
not_gone o w first i off = elim (cases_lt i (o.top + w.area.top + first)) [
  | inl low ↦ inl low
  | inr past ↦ elim (cases_lt (o.top + w.area.top + w.row) i) [
    | inl high ↦ inr (omega (arith, past, high))
    | inr near ↦ absurd (off (record { after = past; before = near }))
  ]
]

-- a place in the cells' own line, beside them
pub cell_beside : (o : Origin) (w : Window) (col n i j : ℕ) → (i ≡ o.top + w.area.top + w.row → (j < o.left + w.area.left + col) ⊎ (o.left + w.area.left + col + n ≤ j)) → is_in (cells_shown o w col n) i j ≡ false
cell_beside o w col n i j side = elim (cases_eq i (o.top + w.area.top + w.row)) [
  | inl same ↦ elim (side same) [ inl low ↦ before low | inr high ↦ after high ]
  | inr apart ↦ off apart
]
  where
    before : j < o.left + w.area.left + col → is_in (cells_shown o w col n) i j ≡ false
    before low = grind (arith, nat_tests, low)

    after : o.left + w.area.left + col + n ≤ j → is_in (cells_shown o w col n) i j ≡ false
    after high = grind (arith, nat_tests, high)

    off : i ≢ o.top + w.area.top + w.row → is_in (cells_shown o w col n) i j ≡ false
    off apart = grind (arith, nat_tests, apart)

in_cells : (o : Origin) (w : Window) (col n i j : ℕ) → i ≡ o.top + w.area.top + w.row → o.left + w.area.left + col ≤ j → j < o.left + w.area.left + col + n → is_in (cells_shown o w col n) i j ≡ false → ⊥
in_cells o w col n i j row from to off = grind (arith, nat_tests, row, from, to, off)

-- a place of the cells' line is before the first of them if all places up to it are free
pub before_cells : (m : Marking) (o : Origin) (w : Window) (col n i j : ℕ) → 0 < n → ((k : ℕ) → k ≤ j → IsUnmarkedOutside m (cells_shown o w col n) i k) → i ≡ o.top + w.area.top + w.row → j < o.left + w.area.left + col
before_cells m o w col n i j some all row = elim (cases_lt j (o.left + w.area.left + col)) [
  | inl low ↦ low
  | inr past ↦ absurd (in_cells o w col n i (o.left + w.area.left + col) row (omega arith) (omega (arith, some)) (all (o.left + w.area.left + col) past).outside)
]

-- a place of the cells' line is after the last of them if all places from it on are free
pub after_cells : (m : Marking) (o : Origin) (w : Window) (col n i j : ℕ) → 0 < n → ((k : ℕ) → j ≤ k → IsUnmarkedOutside m (cells_shown o w col n) i k) → i ≡ o.top + w.area.top + w.row → o.left + w.area.left + col + n ≤ j
after_cells m o w col n i j some all row = elim (cases_lt j (o.left + w.area.left + col + n)) [
  | inl near ↦ absurd (in_cells o w col n i (o.left + w.area.left + col + n - 1) row (omega (arith, some)) (omega (arith, some)) (all (o.left + w.area.left + col + n - 1) (omega (arith, near, some))).outside)
  | inr past ↦ past
]

-- ---- the columns of one more line

abbrev IsOff : Marked → ℕ → Type 0
IsOff x j = (j < x.from) ⊎ (x.end ≤ j)

low_both : (from end j : ℕ) (x : Marked) → j < x.from → j < from → IsOff (widened from end x) j
low_both from end j x one two = grind (arith, nat_tests)

high_both : (from end j : ℕ) (x : Marked) → x.end ≤ j → end ≤ j → IsOff (widened from end x) j
high_both from end j x one two = grind (arith, nat_tests)

-- in a line without marks, a column before the new ones stays unmarked
low_alone : (from end j : ℕ) (x : Marked) → x.end ≤ x.from → j < from → IsOff (widened from end x) j
low_alone from end j x none low = grind (arith, nat_tests)

high_alone : (from end j : ℕ) (x : Marked) → x.end ≤ x.from → end ≤ j → IsOff (widened from end x) j
high_alone from end j x none high = grind (arith, nat_tests)

-- columns that aren't in order are none
none_from : (x : Marked) → IsOff x x.from → x.end ≤ x.from
none_from x (inl low) = absurd (omega (arith, low))
none_from x (inr past) = past

off_before : (from end j : ℕ) (x : Marked) → ((k : ℕ) → k ≤ j → IsOff x k) → j < from → IsOff (widened from end x) j
off_before from end j x off low = elim (cases_lt j x.from) [
  | inl near ↦ low_both from end j x near low
  | inr past ↦ low_alone from end j x (none_from x (off x.from past)) low
]

off_after : (from end j : ℕ) (x : Marked) → ((k : ℕ) → j ≤ k → IsOff x k) → end ≤ j → IsOff (widened from end x) j
off_after from end j x off high = elim (cases_lt j x.end) [
  | inl near ↦ high_alone from end j x (none_from x (off x.from (from_on (off j (omega arith)) near))) high
  | inr past ↦ high_both from end j x past high
]
  where
    from_on : IsOff x j → j < x.end → j ≤ x.from
    from_on (inl low) near = omega (arith, low)
    from_on (inr past) near = absurd (omega (arith, near, past))

unmarked_there : (m : Marking) (row from end j : ℕ) → IsUnmarked m row j → IsOff (widened from end (marked_at m row)) j → IsUnmarked (marked_between row from end m) row j
unmarked_there m row from end j u off = record {
  some = u.some;
  line = omega (arith, u.line, length-set m.lines row (widened from end (marked_at m row)));
  column = subst (λ (x : Marked). IsOff x j) (sym (get_or-set_at m.lines row row (widened from end (marked_at m row)) nothing refl u.line)) off;
}

-- ---- the first lines of a rectangle

in_fewer : (a : Area) (k i j : ℕ) → is_in (top_rows a (k + 1)) i j ≡ false → is_in (top_rows a k) i j ≡ false
in_fewer a k i j off = grind (arith, nat_tests, off)

other_row : (a : Area) (k i j : ℕ) → is_in (top_rows a k) i j ≡ false → i ≢ a.top + k → is_in (top_rows a (k + 1)) i j ≡ false
other_row a k i j off apart = grind (arith, nat_tests)

left_of : (a : Area) (i j : ℕ) → j < a.left → is_in a i j ≡ false
left_of a i j low = grind (arith, nat_tests)

right_of : (a : Area) (i j : ℕ) → a.left + a.cols ≤ j → is_in a i j ≡ false
right_of a i j high = grind (arith, nat_tests)

row_beside : (a : Area) (k j : ℕ) → is_in (top_rows a (k + 1)) (a.top + k) j ≡ false → (j < a.left) ⊎ (a.left + a.cols ≤ j)
row_beside a k j off = grind (arith, nat_tests, off)

next_row : (a : Area) (k i j : ℕ) → is_in (top_rows a k) i j ≡ false → (i ≡ a.top + k → (j < a.left) ⊎ (a.left + a.cols ≤ j)) → is_in (top_rows a (k + 1)) i j ≡ false
next_row a k i j off beside = elim (cases_eq i (a.top + k)) [
  | inl same ↦ elim (beside same) [ inl low ↦ left_of (top_rows a (k + 1)) i j low | inr high ↦ right_of (top_rows a (k + 1)) i j high ]
  | inr apart ↦ other_row a k i j off apart
]

-- no line is marked yet
pub no_line_marked : (m : Marking) (a : Area) → MarksArea m m (top_rows a 0)
no_line_marked m a = record {
  kept = λ i j u. u;
  cells = λ i j u. no_rows a i j;
  only = λ i j side. elim side [ inl all ↦ (all j (omega arith)).unmarked | inr all ↦ (all j (omega arith)).unmarked ];
}

-- one more line is marked
pub line_marked : (m n x : Marking) (a : Area) (k : ℕ) → MarksArea m n (top_rows a k) → x ≡ marked_between (a.top + k) a.left (a.left + a.cols) n → 0 < a.cols → MarksArea m x (top_rows a (k + 1))
line_marked m n x a k before e some = record {
  kept = λ i j u. before.kept i j (sooner i j u);
  cells = λ i j u. next_row a k i j (before.cells i j (sooner i j u)) (λ same. unmarked_beside n row a.left end j (subst (λ (r : ℕ). IsUnmarked (marked_between row a.left end n) r j) same (subst (λ (y : Marking). IsUnmarked y i j) e u)));
  only = λ i j side. subst (λ (y : Marking). IsUnmarked y i j) (sym e) (elim (cases_eq i row) [
    | inl same ↦ subst (λ (r : ℕ). IsUnmarked (marked_between row a.left end n) r j) (sym same) (here j (subst (λ (r : ℕ). Beside r j) same side))
    | inr apart ↦ unmarked_other n row a.left end i j apart (before.only i j (fewer i j side))
  ]);
}
  where
    row : ℕ
    row = a.top + k

    end : ℕ
    end = a.left + a.cols

    Beside : ℕ → ℕ → Type 0
    Beside i j = ((l : ℕ) → l ≤ j → IsUnmarkedOutside m (top_rows a (k + 1)) i l) ⊎ ((l : ℕ) → j ≤ l → IsUnmarkedOutside m (top_rows a (k + 1)) i l)

    sooner : (i j : ℕ) → IsUnmarked x i j → IsUnmarked n i j
    sooner i j u = unmarked_before n row a.left end i j (subst (λ (y : Marking). IsUnmarked y i j) e u)

    less : (i l : ℕ) → IsUnmarkedOutside m (top_rows a (k + 1)) i l → IsUnmarkedOutside m (top_rows a k) i l
    less i l u = record { unmarked = u.unmarked; outside = in_fewer a k i l u.outside }

    fewer : (i j : ℕ) → Beside i j → ((l : ℕ) → l ≤ j → IsUnmarkedOutside m (top_rows a k) i l) ⊎ ((l : ℕ) → j ≤ l → IsUnmarkedOutside m (top_rows a k) i l)
    fewer i j (inl all) = inl (λ l le. less i l (all l le))
    fewer i j (inr all) = inr (λ l le. less i l (all l le))

    low : (j : ℕ) → ((l : ℕ) → l ≤ j → IsUnmarkedOutside m (top_rows a (k + 1)) row l) → j < a.left
    low j all = elim (cases_lt j a.left) [
      | inl near ↦ near
      | inr past ↦ absurd (elim (row_beside a k a.left (all a.left past).outside) [ inl lt ↦ omega (arith, lt) | inr le ↦ omega (arith, le, some) ])
    ]

    high : (j : ℕ) → ((l : ℕ) → j ≤ l → IsUnmarkedOutside m (top_rows a (k + 1)) row l) → end ≤ j
    high j all = elim (cases_lt j end) [
      | inl near ↦ absurd (elim (row_beside a k (a.left + a.cols - 1) (all (a.left + a.cols - 1) (omega (arith, near))).outside) [ inl lt ↦ omega (arith, lt, some) | inr le ↦ omega (arith, le, some) ])
      | inr past ↦ past
    ]

    here : (j : ℕ) → Beside row j → IsUnmarked (marked_between row a.left end n) row j
    here j (inl all) =
        let off : (l : ℕ) → l ≤ j → IsUnmarked n row l = λ l le. before.only row l (fewer row l (inl (λ o lo. all o (omega (arith, lo, le))))) in
        unmarked_there n row a.left end j (off j (omega arith)) (off_before a.left end j (marked_at n row) (λ l le. (off l le).column) (low j all))
    here j (inr all) =
        let off : (l : ℕ) → j ≤ l → IsUnmarked n row l = λ l le. before.only row l (fewer row l (inr (λ o lo. all o (omega (arith, lo, le))))) in
        unmarked_there n row a.left end j (off j (omega arith)) (off_after a.left end j (marked_at n row) (λ l le. (off l le).column) (high j all))

-- an unmarked place in another line stays unmarked
above : (a : Area) (i j : ℕ) → i < a.top → is_in a i j ≡ false
above a i j low = grind (arith, nat_tests)

below : (a : Area) (i j : ℕ) → a.top + a.rows ≤ i → is_in a i j ≡ false
below a i j high = grind (arith, nat_tests)

pub lines_spared : (m n : Marking) (a : Area) (i j : ℕ) → MarksArea m n a → IsUnmarked m i j → (i < a.top) ⊎ (a.top + a.rows ≤ i) → IsUnmarked n i j
lines_spared m n a i j is u side = is.only i j (elim u.column [
  | inl low ↦ inl (λ k le. clear k (inl (omega (arith, low, le))))
  | inr high ↦ inr (λ k le. clear k (inr (omega (arith, high, le))))
])
  where
    clear : (k : ℕ) → IsOff (marked_at m i) k → IsUnmarkedOutside m a i k
    clear k off = record {
      unmarked = record { some = u.some; line = u.line; column = off };
      outside = elim side [ inl low ↦ above a i k low | inr high ↦ below a i k high ];
    }
