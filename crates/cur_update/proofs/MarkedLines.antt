-- Lines that are equal outside their marks, and the part of them that is compared; and lines without a mark.
use Rattle.std.proofs.Common.{◌≡◌, ℕ, ◌+◌, ◌-◌, ◌<◌, ◌≤◌, ◌⊎◌, ◌&&◌, nat_lt, cond, Bool, true, Option, List, [], drop, length, get_or, inl, inr, sym, ap, ◌∙◌, arith}
use Rattle.std.specs.List.{slice_range}
use Rattle.std.proofs.lemmas.Bool.{cases_lt}
use Rattle.std.proofs.lemmas.List.{get_or-drop, get_or-take, get_or_past, length-drop, length-take-le}
use Rattle.cur_drawing.specs.Cells.{Content, IsCell, pair_count, space}
use Rattle.cur_screens.specs.Differences.{AreEqualAt, AreEqualIn}
use Rattle.cur_drawing.specs.Grids.{Grid, line_at}
use Rattle.cur_screens.specs.Marks.{AreSame, IsUnmarked, Marking}
use Rattle.cur_screens.specs.VirtualScreen.{IsScreen, Screen, colors_at}
use Rattle.ti_conforms.specs.Certified.{Table}
use Rattle.cur_steps.specs.Inks.{blank_ink}
use Rattle.cur_steps.specs.declared.inks.Ink.{Ink}
use Rattle.cur_paint.specs.Differ.{AreSameOutside}
use Rattle.cur_update.specs.Inks.{content_at, ink_at, ink_of}
use Rattle.cur_update.specs.Shift.{IsShift}

part_cell : (l : List Content) (at size k : ℕ) → at ≤ k → k < at + size → get_or (slice_range l at (at + size)) (k - at) space ≡ get_or l k space
part_cell l at size k le lt =
    get_or-take (at + size - at) (drop at l) (k - at) space (omega arith) ∙ get_or-drop at l (k - at) space ∙ ap (λ (n : ℕ). get_or l n space) (omega arith)

pub part_long : (l : List Content) (at size : ℕ) → at + size ≤ length l → length (slice_range l at (at + size)) ≡ size
part_long l at size le =
    let same : at + size - at ≡ size = omega arith in
    length-take-le (at + size - at) (drop at l) (omega (arith, length-drop at l)) ∙ same

-- before the first column of the part that differs
pub equal_before : (old new : List Content) (at size from : ℕ) → from ≤ size → AreEqualIn old new 0 at → AreEqualIn (slice_range old at (at + size)) (slice_range new at (at + size)) 0 from
    → AreEqualIn old new 0 (at + from)
equal_before old new at size from le before inside k zero lt = elim (cases_lt k at) [
  | inl low ↦ before k zero low
  | inr high ↦ sym (part_cell old at size k high (omega arith)) ∙ inside (k - at) (omega arith) (omega arith) ∙ part_cell new at size k high (omega arith)
]

-- after the last column of the part that differs
pub equal_after : (old new : List Content) (at size end : ℕ) → length (slice_range new at (at + size)) ≡ size → AreEqualIn old new (at + size) (length new)
    → AreEqualIn (slice_range old at (at + size)) (slice_range new at (at + size)) end (length (slice_range new at (at + size))) → AreEqualIn old new (at + end) (length new)
equal_after old new at size end long after inside k le lt = elim (cases_lt k (at + size)) [
  | inl low ↦ (let left : at ≤ k = omega arith in
      sym (part_cell old at size k left low) ∙ inside (k - at) (omega arith) (omega (arith, long)) ∙ part_cell new at size k left low)
  | inr high ↦ after k high lt
]

-- a line outside its marks
pub equal_unmarked : (m : Marking) (row cols at size : ℕ) (g h : Grid) (a b : List Content) → a ≡ line_at g row → b ≡ line_at h row → AreSame m g h
    → ((j : ℕ) → j < cols → (j < at) ⊎ (at + size ≤ j) → IsUnmarked m row j) → (k : ℕ) → k < cols → (k < at) ⊎ (at + size ≤ k) → AreEqualAt a b k
equal_unmarked m row cols at size g h a b e f same others k lt side =
    ap (λ (l : List Content). get_or l k space) e ∙ same row k (others k lt side) ∙ sym (ap (λ (l : List Content). get_or l k space) f)

-- a column of a line of the screen
pub column_below : (v : Screen) (row k : ℕ) (b : List Content) → IsScreen v → b ≡ line_at v.grid row → k < length b → k < v.cols
column_below v row k b is e lt =
    let long : length b ≡ length (line_at v.grid row) = ap length e in
    elim (cases_lt row (length v.grid)) [
      | inl there ↦ omega (arith, is.columns row there, long)
      | inr past ↦ (let none : length (line_at v.grid row) ≡ 0 = ap length (get_or_past v.grid row [] past) in absurd (omega (arith, none, long, lt)))
    ]

-- a place in which the screens have the same cell, printed
pub same_ink : (t : Table) (partners : ℕ → Option ℕ) (v w : Screen) → v.rows ≡ w.rows → v.cols ≡ w.cols → ((p : ℕ) → p < pair_count → colors_at v p ≡ colors_at w p)
    → (i j : ℕ) → content_at v i j ≡ content_at w i j → (content_at w i j).pair < pair_count → ink_at t partners v i j ≡ ink_at t partners w i j
same_ink t partners v w rows cols pairs i j e lt =
    let c : Content = content_at v i j in
    let d : Content = content_at w i j in
    let colors : colors_at v c.pair ≡ colors_at w d.pair = ap (λ (x : Content). colors_at v x.pair) e ∙ pairs d.pair lt in
    λ k. cond (nat_lt i (rows k) && nat_lt j (cols k)) (ink_of t partners (colors k) (e k)) blank_ink

-- the lines of two screens that have no mark, as they are printed
pub same_unmarked : (t : Table) (partners : ℕ → Option ℕ) (v w : Screen) (m : Marking) (pairs : Bool) (old new : ℕ → ℕ → Ink) (at size rows cols : ℕ) → IsShift t partners v w pairs old new → pairs ≡ true
    → v.rows ≡ w.rows → v.cols ≡ w.cols → rows ≡ w.rows → cols ≡ w.cols → ((i j : ℕ) → i < w.rows → j < w.cols → IsCell (content_at w i j)) → AreSame m v.grid w.grid
    → ((i j : ℕ) → i < w.rows → (i < at) ⊎ (at + size ≤ i) → IsUnmarked m i j) → at + size ≤ w.rows → AreSameOutside old new at (at + size) rows cols
same_unmarked t partners v w m pairs old new at size rows cols is e same_rows same_cols r q cells same unmarked within =
    let equal : (i j : ℕ) → i < w.rows → j < w.cols → (i < at) ⊎ (at + size ≤ i) → old i j ≡ new i j = λ i j li lj side.
    ap (λ (f : ℕ → ℕ → Ink). f i j) is.before ∙ same_ink t partners v w same_rows same_cols (is.pairs e) i j (same i j (unmarked i j li side)) (cells i j li lj).pair ∙ sym (ap (λ (f : ℕ → ℕ → Ink). f i j) is.after) in
    record {
      above = λ i j lt lj. equal i j (omega (arith, lt, within)) (omega (arith, q, lj)) (inl lt);
      below = λ i j le li lj. equal i j (omega (arith, r, li)) (omega (arith, q, lj)) (inr le);
    }
