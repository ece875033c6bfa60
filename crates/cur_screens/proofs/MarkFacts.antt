-- Marked columns, and copies of marked cells.
use Rattle.std.proofs.Common.{◌≡◌, ◌≢◌, ℕ, ◌+◌, ◌-◌, ◌<◌, ◌≤◌, ◌⊎◌, false, length, refl, sym, ap, ◌∙◌, inl, inr, arith, subst}
use Rattle.std.proofs.lemmas.Bool.{cases_eq, cases_lt}
use Rattle.std.proofs.lemmas.Bool.Decides.{nat_tests}
use Rattle.std.proofs.lemmas.Grind.{get_or-set_at}
use Rattle.std.proofs.lemmas.List.{get_or-set_other, length-set}
use Rattle.grids.specs.declared.areas.Area.{Area}
use Rattle.grids.specs.declared.areas.Place.{Place}
use Rattle.grids.proofs.Drawings.{cell_at-drawn_in_off}
use Rattle.grids.proofs.Rectangles.{top_rows}
use Rattle.cur_screens.specs.declared.marks.Marked.{Marked}
use Rattle.cur_drawing.specs.declared.spans.Span.{Span}
use Rattle.cur_drawing.specs.Cells.{Content, space}
use Rattle.cur_drawing.specs.Calls.{place}
use Rattle.cur_drawing.specs.Grids.{Grid, cell_at, copied, drawn_in, is_in, row_of, taken}
use Rattle.cur_screens.specs.Marks.{AreSame, AreUnmarked, AreUnmarkedBeside, IsCopiedBut, JoinsLine, JoinsLines, JoinsMarks, IsSameIn, IsUnmarked, IsUntouched, Keeps, Marking, MarksOnly, marked_at, marked_between, nothing, widened}
use Rattle.cur_screens.proofs.ChangedRows.{AreEqualBeside, AreEqualOff}

-- ---- further columns of a line are marked

abbrev IsOff : Marked → ℕ → Type 0
IsOff x j = (j < x.from) ⊎ (x.end ≤ j)

off_before : (from end j : ℕ) (x : Marked) → IsOff (widened from end x) j → IsOff x j
off_before from end j x off = grind (arith, nat_tests)

off_new : (from end j : ℕ) (x : Marked) → IsOff (widened from end x) j → (j < from) ⊎ (end ≤ j)
off_new from end j x off = grind (arith, nat_tests)

-- columns that aren't in order are none
off_all : (x : Marked) → IsOff x x.from → x.end ≤ x.from
off_all x (inl low) = absurd (omega (arith, low))
off_all x (inr past) = past

off_joined : (from end j : ℕ) (x : Marked) → (j < x.from) × (j < from) → IsOff (widened from end x) j
off_joined from end j x low = let one = low.0 in let two = low.1 in grind (arith, nat_tests)

off_joined_after : (from end j : ℕ) (x : Marked) → x.end ≤ j → end ≤ j → IsOff (widened from end x) j
off_joined_after from end j x one two = grind (arith, nat_tests)

off_alone : (from end j : ℕ) (x : Marked) → x.end ≤ x.from → (j < from) ⊎ (end ≤ j) → IsOff (widened from end x) j
off_alone from end j x none off = grind (arith, nat_tests)

-- a column before the new ones stays unmarked if all up to it are
off_left : (from end j : ℕ) (x : Marked) → ((k : ℕ) → k ≤ j → IsOff x k) → j < from → IsOff (widened from end x) j
off_left from end j x off lt = elim (cases_lt j x.from) [
  | inl low ↦ off_joined from end j x (low, lt)
  | inr past ↦ off_alone from end j x (off_all x (off x.from past)) (inl lt)
]

-- a column after the new ones stays unmarked if all from it on are
off_right : (from end j : ℕ) (x : Marked) → ((k : ℕ) → j ≤ k → IsOff x k) → end ≤ j → IsOff (widened from end x) j
off_right from end j x off le = elim (cases_lt j x.end) [
  | inl near ↦ off_alone from end j x (off_all x (off x.from (from_on (off j (omega arith)) near))) (inr le)
  | inr past ↦ off_joined_after from end j x past le
]
  where
    from_on : IsOff x j → j < x.end → j ≤ x.from
    from_on (inl low) near = omega (arith, low)
    from_on (inr past) near = absurd (omega (arith, near, past))

line_marked : (m : Marking) (row from end i : ℕ) → i ≡ row → i < length m.lines → marked_at (marked_between row from end m) i ≡ widened from end (marked_at m i)
line_marked m row from end i same lt =
    get_or-set_at m.lines row i (widened from end (marked_at m row)) nothing same (subst (λ (r : ℕ). r < length m.lines) same lt)
    ∙ ap (λ (r : ℕ). widened from end (marked_at m r)) (sym same)

line_beside : (m : Marking) (row i from end : ℕ) → i ≢ row → marked_at (marked_between row from end m) i ≡ marked_at m i
line_beside m row i from end apart = get_or-set_other m.lines row i (widened from end (marked_at m row)) nothing apart

as_many : (m : Marking) (row from end : ℕ) → length (marked_between row from end m).lines ≡ length m.lines
as_many m row from end = length-set m.lines row (widened from end (marked_at m row))

pub unmarked_before : (m : Marking) (row from end i j : ℕ) → IsUnmarked (marked_between row from end m) i j → IsUnmarked m i j
unmarked_before m row from end i j u =
    let within : i < length m.lines = omega (arith, u.line, as_many m row from end) in record {
      some = u.some;
      line = within;
      column = elim (cases_eq i row) [
        | inl same ↦ off_before from end j (marked_at m i) (subst (λ (x : Marked). IsOff x j) (line_marked m row from end i same within) u.column)
        | inr apart ↦ subst (λ (x : Marked). IsOff x j) (line_beside m row i from end apart) u.column
      ];
    }

pub unmarked_beside : (m : Marking) (row from end j : ℕ) → IsUnmarked (marked_between row from end m) row j → (j < from) ⊎ (end ≤ j)
unmarked_beside m row from end j u =
    let within : row < length m.lines = omega (arith, u.line, as_many m row from end) in
    off_new from end j (marked_at m row) (subst (λ (x : Marked). IsOff x j) (line_marked m row from end row refl within) u.column)

unmarked_still : (m : Marking) (row from end i j : ℕ) → IsUnmarked m i j → (i ≡ row → IsOff (widened from end (marked_at m i)) j) → IsUnmarked (marked_between row from end m) i j
unmarked_still m row from end i j u off = record {
  some = u.some;
  line = omega (arith, u.line, as_many m row from end);
  column = elim (cases_eq i row) [
    | inl same ↦ subst (λ (x : Marked). IsOff x j) (sym (line_marked m row from end i same u.line)) (off same)
    | inr apart ↦ subst (λ (x : Marked). IsOff x j) (sym (line_beside m row i from end apart)) u.column
  ];
}

-- a place before the new columns and before all marked ones of its line
pub unmarked_left : (m : Marking) (row from end i j : ℕ) → ((k : ℕ) → k ≤ j → IsUnmarked m i k) → (i ≡ row → j < from) → IsUnmarked (marked_between row from end m) i j
unmarked_left m row from end i j all before = unmarked_still m row from end i j (all j (omega arith)) (λ same. off_left from end j (marked_at m i) (λ k le. (all k le).column) (before same))

-- a place after all of these
pub unmarked_right : (m : Marking) (row from end i j : ℕ) → ((k : ℕ) → j ≤ k → IsUnmarked m i k) → (i ≡ row → end ≤ j) → IsUnmarked (marked_between row from end m) i j
unmarked_right m row from end i j all after = unmarked_still m row from end i j (all j (omega arith)) (λ same. off_right from end j (marked_at m i) (λ k le. (all k le).column) (after same))

-- ---- no more is marked than differs

-- the columns from the first one in which a line differs to the last one are marked
pub marks_only : (m n : Marking) (row from end : ℕ) (g h : Grid) → n ≡ marked_between row from end m → from < end → (cell_at g row from ≡ cell_at h row from → ⊥) → (cell_at g row (end - 1) ≡ cell_at h row (end - 1) → ⊥) → MarksOnly m g n h
marks_only m n row from end g h e some first last i j side =
    subst (λ (x : Marking). IsUnmarked x i j) (sym e) (elim side [
      | inl all ↦ unmarked_left m row from end i j (λ k le. (all k le).unmarked) (before all)
      | inr all ↦ unmarked_right m row from end i j (λ k le. (all k le).unmarked) (after all)
    ])
  where
    before : ((k : ℕ) → k ≤ j → IsUntouched m g h i k) → i ≡ row → j < from
    before all is = elim (cases_lt j from) [
      | inl near ↦ near
      | inr past ↦ absurd (first (subst (λ (r : ℕ). cell_at g r from ≡ cell_at h r from) is (all from past).same))
    ]

    after : ((k : ℕ) → j ≤ k → IsUntouched m g h i k) → i ≡ row → end ≤ j
    after all is = elim (cases_lt j end) [
      | inl near ↦ absurd (last (subst (λ (r : ℕ). cell_at g r (end - 1) ≡ cell_at h r (end - 1)) is (all (end - 1) (omega (arith, near))).same))
      | inr past ↦ past
    ]

pub marks_only_none : (m : Marking) (g : Grid) → MarksOnly m g m g
marks_only_none m g i j side = elim side [ inl all ↦ (all j (omega arith)).unmarked | inr all ↦ (all j (omega arith)).unmarked ]

-- two steps, at most one of which changes each line
pub marks_only_then : (m n o : Marking) (g h x : Grid) → MarksOnly m g n h → MarksOnly n h o x → ((i : ℕ) → ((j : ℕ) → cell_at g i j ≡ cell_at h i j) ⊎ ((j : ℕ) → cell_at h i j ≡ cell_at x i j)) → MarksOnly m g o x
marks_only_then m n o g h x one two apart i j side =
    two i j (elim side [
      | inl all ↦ inl (λ k le. next k (all k le) (one i k (inl (λ l lt. first l (all l (omega (arith, le, lt)))))))
      | inr all ↦ inr (λ k le. next k (all k le) (one i k (inr (λ l lt. first l (all l (omega (arith, le, lt)))))))
    ])
  where
    first : (k : ℕ) → IsUntouched m g x i k → IsUntouched m g h i k
    first k u = record {
      unmarked = u.unmarked;
      same = elim (apart i) [ inl same ↦ same k | inr same ↦ u.same ∙ sym (same k) ];
    }

    next : (k : ℕ) → IsUntouched m g x i k → IsUnmarked n i k → IsUntouched n h x i k
    next k u off = record {
      unmarked = off;
      same = elim (apart i) [ inl same ↦ sym (same k) ∙ u.same | inr same ↦ same k ];
    }

left_of : (a : Area) (i j : ℕ) → j < a.left → is_in a i j ≡ false
left_of a i j h = grind (arith, nat_tests)

right_of : (a : Area) (i j : ℕ) → a.left + a.cols ≤ j → is_in a i j ≡ false
right_of a i j h = grind (arith, nat_tests)

other_row : (a : Area) (i j : ℕ) → a.rows ≡ 1 → i ≢ a.top → is_in a i j ≡ false
other_row a i j one h = grind (arith, nat_tests)

-- outside a row
beside : (a : Area) (i j : ℕ) → a.rows ≡ 1 → (i ≡ a.top → (j < a.left) ⊎ (a.left + a.cols ≤ j)) → is_in a i j ≡ false
beside a i j one h = elim (cases_eq i a.top) [
  | inl same ↦ elim (h same) [ inl low ↦ left_of a i j low | inr high ↦ right_of a i j high ]
  | inr other ↦ other_row a i j one other
]

-- a row that is copied and marked
pub copied_kept : (a : Area) (from : Place) (source g h : Grid) (m n : Marking) → a.rows ≡ 1 → h ≡ copied a from source g → n ≡ marked_between a.top a.left (a.left + a.cols) m → Keeps m g n h
copied_kept a from source g h m n one e marks v same i j off =
    let u : IsUnmarked (marked_between a.top a.left (a.left + a.cols) m) i j = subst (λ (x : Marking). IsUnmarked x i j) marks off in
    same i j (unmarked_before m a.top a.left (a.left + a.cols) i j u)
    ∙ sym (ap (λ (x : Grid). cell_at x i j) e ∙ cell_at-drawn_in_off a (taken a from source) space g i j
    (beside a i j one (λ (is : i ≡ a.top). unmarked_beside m a.top a.left (a.left + a.cols) j (subst (λ (r : ℕ). IsUnmarked (marked_between a.top a.left (a.left + a.cols) m) r j) is u))))

-- a row whose unmarked cells are equal
pub equal_beside_marks : (a : Area) (k : ℕ) (s : Span) (source g : Grid) (m : Marking) → a.left ≡ 0 → IsSameIn m (a.top + k) g source →
    ((j : ℕ) → j < a.cols → (j < s.at) ⊎ (s.at + s.size ≤ j) → IsUnmarked m (a.top + k) j) → AreEqualBeside a (place a.top a.left) k s source g
equal_beside_marks a k s source g m left same others x lt side =
    let col : x ≡ a.left + x = omega (arith, left) in
    same (a.left + x) (subst (λ (j : ℕ). IsUnmarked m (a.top + k) j) col (others x lt side))

below_top : (a : Area) (k j : ℕ) → is_in (top_rows a k) (a.top + k) j ≡ false
below_top a k j = grind (arith, nat_tests)

-- the row after the copied ones is as before
pub same_below : (a : Area) (k : ℕ) (f : ℕ → ℕ → Content → Content) (source g h : Grid) (m : Marking) → h ≡ drawn_in (top_rows a k) f g → IsSameIn m (a.top + k) g source → IsSameIn m (a.top + k) h source
same_below a k f source g h m e same j u =
    ap (λ (x : Grid). cell_at x (a.top + k) j) e ∙ cell_at-drawn_in_off (top_rows a k) f space g (a.top + k) j (below_top a k j) ∙ same j u

-- a row below the copied ones, whose unmarked cells are equal
pub equal_beside_touched : (a : Area) (from : Place) (k : ℕ) (f : ℕ → ℕ → Content → Content) (s : Span) (source g h : Grid) (m : Marking) → k < a.rows → h ≡ drawn_in (top_rows a k) f g → IsCopiedBut m a from source g →
    ((j : ℕ) → j < a.cols → (j < s.at) ⊎ (s.at + s.size ≤ j) → IsUnmarked m (a.top + k) (a.left + j)) → AreEqualBeside a from k s source h
equal_beside_touched a from k f s source g h m lt e same others x near side =
    ap (λ (y : Grid). cell_at y (a.top + k) (a.left + x)) e ∙ cell_at-drawn_in_off (top_rows a k) f space g (a.top + k) (a.left + x) (below_top a k (a.left + x))
    ∙ same k x lt near (others x near side)

off_this_row : (a : Area) (k i j : ℕ) → i ≢ a.top + k → is_in (row_of a k) i j ≡ false
off_this_row a k i j apart = grind (arith, nat_tests)

-- rows are changed one after the other
pub row_by_row : (a : Area) (k : ℕ) (f e : ℕ → ℕ → Content → Content) (g h x : Grid) → h ≡ drawn_in (top_rows a k) f g → x ≡ drawn_in (row_of a k) e h → (i : ℕ) →
    ((j : ℕ) → cell_at g i j ≡ cell_at h i j) ⊎ ((j : ℕ) → cell_at h i j ≡ cell_at x i j)
row_by_row a k f e g h x rows row i = elim (cases_eq i (a.top + k)) [
  | inl same ↦ inl (λ j. sym (ap (λ (y : Grid). cell_at y i j) rows ∙ cell_at-drawn_in_off (top_rows a k) f space g i j (subst (λ (r : ℕ). is_in (top_rows a k) r j ≡ false) (sym same) (below_top a k j))))
  | inr apart ↦ inr (λ j. sym (ap (λ (y : Grid). cell_at y i j) row ∙ cell_at-drawn_in_off (row_of a k) e space h i j (off_this_row a k i j apart)))
]

-- ---- lines that have no mark

-- the cells of such lines of a rectangle are equal
pub unmarked_lines : (a : Area) (from : Place) (s : Span) (source g : Grid) (m : Marking) → IsCopiedBut m a from source g →
    ((i j : ℕ) → i < a.rows → (i < s.at) ⊎ (s.at + s.size ≤ i) → IsUnmarked m (a.top + i) j) → AreEqualOff a from s source g
unmarked_lines a from s source g m same others i x lt near side = same i x lt near (others i (a.left + x) lt side)

-- the unmarked cells of the other lines are equal
pub copied_but_lines : (a : Area) (from : Place) (s : Span) (source g : Grid) (m : Marking) → s.at + s.size ≤ a.rows → IsCopiedBut m a from source g →
    (i j : ℕ) → i < s.size → j < a.cols → IsUnmarked m (a.top + s.at + i) (a.left + j) → cell_at g (a.top + s.at + i) (a.left + j) ≡ cell_at source (from.row + s.at + i) (from.col + j)
copied_but_lines a from s source g m le same i j lt near u =
    let row : a.top + s.at + i ≡ a.top + (s.at + i) = omega arith in
    let there : from.row + (s.at + i) ≡ from.row + s.at + i = omega arith in
    ap (λ (n : ℕ). cell_at g n (a.left + j)) row
    ∙ same (s.at + i) j (omega (arith, lt)) near (subst (λ (n : ℕ). IsUnmarked m n (a.left + j)) row u)
    ∙ ap (λ (n : ℕ). cell_at source n (from.col + j)) there

-- a rectangle at one place of both grids
pub same_is_copied : (a : Area) (source g : Grid) (m : Marking) → AreSame m g source → IsCopiedBut m a (place a.top a.left) source g
same_is_copied a source g m same i j lt near u = same (a.top + i) (a.left + j) u

-- ---- the marks of another marking are added

-- the marks of no line
pub none_joined : (m o : Marking) (lines : Span) (cols : ℕ) → JoinsLines m o lines 0 cols m
none_joined m o lines cols = record {
  kept = λ i j u. u;
  joined = λ i j from to lt u. absurd (omega (arith, from, to));
  others = λ i j side u. u;
  only = λ i j side. elim side [ inl all ↦ (all j (omega arith)).one | inr all ↦ (all j (omega arith)).one ];
}

-- the marks of one more line
pub next_joined : (m o n x : Marking) (lines : Span) (k cols : ℕ) → JoinsLines m o lines k cols n → JoinsLine n o (lines.at + k) cols x → JoinsLines m o lines (k + 1) cols x
next_joined m o n x lines k cols before next = record {
  kept = λ i j u. before.kept i j (next.kept i j u);
  joined = λ i j from to lt u. elim (cases_eq i (lines.at + k)) [
    | inl same ↦ subst (λ (r : ℕ). IsUnmarked o r j) (sym same) (next.joined j lt (subst (λ (r : ℕ). IsUnmarked x r j) same u))
    | inr apart ↦ before.joined i j from (omega (arith, to, apart)) lt (next.kept i j u)
  ];
  others = λ i j side u. next.others i j (λ same. this_line i same side) (before.others i j (sooner i side) u);
  only = λ i j side. elim (cases_eq i (lines.at + k)) [
    | inl same ↦ subst (λ (r : ℕ). IsUnmarked x r j) (sym same) (next.only j (subst (λ (r : ℕ). AreUnmarkedBeside n o cols r j) same (still i j same side)))
    | inr apart ↦ next.others i j apart (before.only i j side)
  ];
}
  where
    this_line : (i : ℕ) → i ≡ lines.at + k → (i < lines.at) ⊎ (lines.at + (k + 1) ≤ i) → ⊥
    this_line i same (inl low) = absurd (omega (arith, same, low))
    this_line i same (inr high) = absurd (omega (arith, same, high))

    sooner : (i : ℕ) → (i < lines.at) ⊎ (lines.at + (k + 1) ≤ i) → (i < lines.at) ⊎ (lines.at + k ≤ i)
    sooner i (inl low) = inl low
    sooner i (inr high) = inr (omega (arith, high))

    stays : (i j : ℕ) → i ≡ lines.at + k → AreUnmarked m o cols i j → AreUnmarked n o cols i j
    stays i j same u = record { one = before.others i j (inr (omega (arith, same))) u.one; other = u.other }

    still : (i j : ℕ) → i ≡ lines.at + k → AreUnmarkedBeside m o cols i j → AreUnmarkedBeside n o cols i j
    still i j same (inl all) = inl (λ l le. stays i l same (all l le))
    still i j same (inr all) = inr (λ l le. stays i l same (all l le))

-- a line without marks
pub line_left : (m o : Marking) (row cols : ℕ) → ((j : ℕ) → j < cols → IsUnmarked o row j) → JoinsLine m o row cols m
line_left m o row cols none = record {
  kept = λ i j u. u;
  joined = λ j lt u. none j lt;
  others = λ i j apart u. u;
  only = λ j side. elim side [ inl all ↦ (all j (omega arith)).one | inr all ↦ (all j (omega arith)).one ];
}

-- a line in which these columns are marked
pub line_joined : (m o n : Marking) (row cols : ℕ) (s : Span) → n ≡ marked_between row s.at (s.at + s.size) m → 0 < s.size → s.at + s.size ≤ cols →
    ((j : ℕ) → s.at ≤ j → j < s.at + s.size → IsUnmarked o row j → ⊥) → ((j : ℕ) → j < cols → (j < s.at) ⊎ (s.at + s.size ≤ j) → IsUnmarked o row j) → JoinsLine m o row cols n
line_joined m o n row cols s e some le marked others = record {
  kept = λ i j u. unmarked_before m row s.at (s.at + s.size) i j (subst (λ (x : Marking). IsUnmarked x i j) e u);
  joined = λ j lt u. others j lt (unmarked_beside m row s.at (s.at + s.size) j (subst (λ (x : Marking). IsUnmarked x row j) e u));
  others = λ i j apart u. subst (λ (x : Marking). IsUnmarked x i j) (sym e) (unmarked_still m row s.at (s.at + s.size) i j u (λ same. absurd (apart same)));
  only = λ j side. subst (λ (x : Marking). IsUnmarked x row j) (sym e) (elim side [
    | inl all ↦ unmarked_left m row s.at (s.at + s.size) row j (λ k le. (all k le).one) (λ same. before j all)
    | inr all ↦ unmarked_right m row s.at (s.at + s.size) row j (λ k le. (all k le).one) (λ same. after j all)
  ]);
}
  where
    before : (j : ℕ) → ((k : ℕ) → k ≤ j → AreUnmarked m o cols row k) → j < s.at
    before j all = elim (cases_lt j s.at) [
      | inl near ↦ near
      | inr past ↦ absurd (marked s.at (omega arith) (omega (arith, some)) ((all s.at past).other (omega (arith, some, le))))
    ]

    after : (j : ℕ) → ((k : ℕ) → j ≤ k → AreUnmarked m o cols row k) → s.at + s.size ≤ j
    after j all = elim (cases_lt j (s.at + s.size)) [
      | inl near ↦ absurd (marked (s.at + s.size - 1) (omega (arith, some)) (omega (arith, some)) ((all (s.at + s.size - 1) (omega (arith, near))).other (omega (arith, some, le))))
      | inr past ↦ past
    ]

pub all_joined : (m o n : Marking) (lines : Span) (rows cols : ℕ) → JoinsLines m o lines lines.size cols n → ((i j : ℕ) → i < rows → (i < lines.at) ⊎ (lines.at + lines.size ≤ i) → IsUnmarked o i j) → JoinsMarks m o rows cols n
all_joined m o n lines rows cols is others = record {
  kept = is.kept;
  joined = λ i j row col u. elim (cases_lt i lines.at) [
    | inl low ↦ others i j row (inl low)
    | inr from ↦ elim (cases_lt i (lines.at + lines.size)) [ inl to ↦ is.joined i j from to col u | inr high ↦ others i j row (inr high) ]
  ];
  only = is.only;
}
