-- A screen that shows a grid where the grid isn't marked, after writing and after copying.
use Rattle.std.proofs.Common.{◌≡◌, ◌≢◌, ℕ, ◌+◌, ◌-◌, ◌<◌, ◌≤◌, ◌⊎◌, Bool, true, false, List, [], Option, Some, None, Result, Ok, Err, IfErr, OnOk, nat_lt, if◌then◌else◌, length, get_or, set, refl, sym, ap, ◌∙◌, inl, inr, arith, subst}
use Rattle.std.specs.Option.{is_some}
use Rattle.std.proofs.lemmas.Bool.{cases_eq, cases_lt}
use Rattle.std.proofs.lemmas.Bool.Decides.{nat_tests}
use Rattle.std.proofs.lemmas.List.{get_or-set_same, get_or-set_other, get_or_default, set-get_or}
use Rattle.grids.specs.declared.areas.Area.{Area}
use Rattle.grids.specs.declared.areas.Place.{Place}
use Rattle.grids.specs.Grids as base
use Rattle.grids.proofs.Drawings.{cell_at-drawn_in, cell_at-drawn_in_off}
use Rattle.cur_drawing.specs.declared.windows.Window.{Window}
use Rattle.cur_drawing.specs.Cells.{space}
use Rattle.cur_drawing.specs.declared.refusals.Refusal.{Refusal}
use Rattle.cur_drawing.specs.Calls.{Canvas, CanvasStep, IsCanvas, IsKept, canvas, place, step}
use Rattle.cur_drawing.specs.Grids.{Grid, Fits, cell_at, copied, is_in, line_at, shape_of, taken}
use Rattle.cur_drawing.specs.Laws.{ChangesNothingIfRefusedButNoScroll, IsLocal, Stays}
use Rattle.cur_screens.specs.Marks.{AreSame, IsUnmarked, JoinsMarks, Marking, none_marked}
use Rattle.cur_drawing.specs.declared.refusals.Refusal.TheVariants.{Full}
use Rattle.cur_drawing.proofs.DrawingFacts.{shape_of-line, shape_of-length}
use Rattle.cur_windows.proofs.WrittenLines.{Writes, Writing}
use Rattle.cur_screens.specs.declared.slots.Origin.{Origin}
use Rattle.cur_screens.specs.declared.slots.Slot.{Slot}
use Rattle.cur_windows.specs.Desks.{IsDesk, IsFramed, IsPlaced, IsWhole, State, after, grid_at, origin_at, slot_of, some_slot, window_at}
use Rattle.cur_screens.specs.VirtualScreen.{IsScreen, Screen}
use Rattle.cur_windows.specs.Refreshes.{area_on_screen}
use Rattle.cur_drawing.specs.declared.refusals.Refusal.TheVariants.{NoScroll}
use Rattle.cur_screens.specs.Touched.{AreFull, TakesMarksOff, IsShownBut, LeavesMarks, IsTouched, IsWrittenLine, Markings, Spreads, TouchesGrid, grid_marks}
use Rattle.cur_windows.specs.TouchedWindows.{HasAll, KeepsShown, MarksCopied, MarksWritten, ShowsBut, WritesLine}
use Rattle.cur_screens.proofs.Marked.{past_full}

-- ---- writing

-- lines of a rectangle of a grid, as places of the screen
abbrev lines_at : Origin → Area → ℕ → ℕ → Area
lines_at o a first n = record { top = o.top + a.top + first; left = o.left + a.left; rows = n; cols = a.cols }

-- a place of the rectangle in another line than these
other_line : (o : Origin) (a : Area) (first last i j : ℕ) → first ≤ last → is_in a i j ≡ true → is_in (lines_at o a first (last + 1 - first)) (o.top + i) (o.left + j) ≡ false → (i < a.top + first) ⊎ (a.top + last < i)
other_line o a first last i j le on off = grind (arith, nat_tests)

-- an unmarked place is unchanged by writing
unchanged : (s : Canvas) (h : Grid) (m n : Marking) (w : Window) (o : Origin) → Writes s (canvas h w) → Stays s (canvas h w) → TouchesGrid m n w o s.window.row →
    (i j : ℕ) → IsUnmarked n (o.top + i) (o.left + j) → cell_at h i j ≡ cell_at s.grid i j
unchanged s h m n w o writes stays is i j off = at (is_in s.window.area i j) refl
  where
    lines : is_in (lines_at o s.window.area s.window.row (w.row + 1 - s.window.row)) (o.top + i) (o.left + j) ≡ false
    lines = subst (λ (a : Area). is_in (lines_at o a s.window.row (w.row + 1 - s.window.row)) (o.top + i) (o.left + j) ≡ false) writes.area (is.lines (o.top + i) (o.left + j) off)

    at : (b : Bool) → is_in s.window.area i j ≡ b → cell_at h i j ≡ cell_at s.grid i j
    at true on = writes.cells (λ may. is.all may (o.top + i) (o.left + j) off) i j (other_line o s.window.area s.window.row w.row i j writes.down on lines)
    at false beside = stays.outside i j beside

-- the desk after a window of some grid was written
abbrev pub with_grid : State → Slot → Grid → List (Option Slot) → State
with_grid d slot h ws = record d { grids = set d.grids slot.root h; windows = ws }

-- all of a grid may differ
pub shown_full : (m : Marking) (o : Origin) (g v : Grid) → m.all ≡ true → IsShownBut m o g v
shown_full m o g v all i j row col off = absurd (let some = off.some in cc)

pub shows_full : (t : Markings) (d : State) (v : Grid) → AreFull t → ShowsBut t d v
shows_full t d v full k lies = shown_full (grid_marks t k) (origin_at d k) (grid_at d k) v (full k)

-- a place unmarked after a call was unmarked before it, and has kept its cell
pub record Spares (m n : Marking) (o : Origin) (g h : Grid) : Type 0 where
  pub kept : (i j : ℕ) → IsUnmarked n i j → IsUnmarked m i j
  pub same : (i j : ℕ) → IsUnmarked n (o.top + i) (o.left + j) → cell_at h i j ≡ cell_at g i j

-- unmarked places of a window's grid keep their cells, unless it is a pad's; no other grid changes
pub record SparesGrid (t u : Markings) (d : State) (slot : Slot) (h : Grid) : Type 0 where
  pub grid : (origin_at d slot.root).pad ≡ false → slot.root < length t → Spares (grid_marks t slot.root) (grid_marks u slot.root) (origin_at d slot.root) (grid_at d slot.root) h
  pub none : length t ≤ slot.root → u ≡ t
  pub others : (k : ℕ) → k ≢ slot.root → grid_marks u k ≡ grid_marks t k

-- the grid that is written
same_written : (d : State) (ws : List (Option Slot)) (slot : Slot) (h : Grid) (m n : Marking) (v : Grid) → slot.root < length d.grids → shape_of h ≡ shape_of (grid_at d slot.root) → Spares m n (origin_at d slot.root) (grid_at d slot.root) h →
    IsShownBut m (origin_at d slot.root) (grid_at d slot.root) v → IsShownBut n (origin_at d slot.root) (grid_at (with_grid d slot h ws) slot.root) v
same_written d ws slot h m n v lt shape spares shown =
    subst (λ (x : Grid). IsShownBut n (origin_at d slot.root) x v) (sym (get_or-set_same d.grids slot.root h [] lt))
    (λ i j row col off.
    shown i j (omega (arith, row, shape_of-length (grid_at d slot.root) h shape)) (omega (arith, col, shape_of-line (grid_at d slot.root) h i shape)) (spares.kept _ _ off)
    ∙ sym (spares.same i j off))

-- a grid that wasn't written
other_written : (d : State) (ws : List (Option Slot)) (slot : Slot) (h : Grid) (m : Marking) (v : Grid) (k : ℕ) → k ≢ slot.root → IsShownBut m (origin_at d k) (grid_at d k) v → IsShownBut m (origin_at d k) (grid_at (with_grid d slot h ws) k) v
other_written d ws slot h m v k apart shown = subst (λ (x : Grid). IsShownBut m (origin_at d k) x v) (sym (get_or-set_other d.grids slot.root k h [] apart)) shown

pub slot_spared : (d : State) (ws : List (Option Slot)) (slot : Slot) (h : Grid) (t u : Markings) → slot.root < length d.grids → shape_of h ≡ shape_of (grid_at d slot.root) → SparesGrid t u d slot h → KeepsShown t d u (with_grid d slot h ws)
slot_spared d ws slot h t u lt shape spares v shown k = elim (cases_eq k slot.root) [
  | inl same ↦ subst (λ (n : ℕ). (origin_at d n).pad ≡ false → IsShownBut (grid_marks u n) (origin_at d n) (grid_at (with_grid d slot h ws) n) v) (sym same) there
  | inr apart ↦ λ lies. subst (λ (m : Marking). IsShownBut m (origin_at d k) (grid_at (with_grid d slot h ws) k) v) (sym (spares.others k apart)) (other_written d ws slot h (grid_marks t k) v k apart (shown k lies))
]
  where
    there : (origin_at d slot.root).pad ≡ false → IsShownBut (grid_marks u slot.root) (origin_at d slot.root) (grid_at (with_grid d slot h ws) slot.root) v
    there lies = elim (cases_lt slot.root (length t)) [
      | inl some ↦ same_written d ws slot h (grid_marks t slot.root) (grid_marks u slot.root) v lt shape (spares.grid lies some) (shown slot.root lies)
      | inr past ↦ shown_full (grid_marks u slot.root) (origin_at d slot.root) (grid_at (with_grid d slot h ws) slot.root) v
          (ap (λ (x : Markings). (grid_marks x slot.root).all) (spares.none past) ∙ past_full t slot.root past)
    ]

-- a call that writes in the window of a number
pub touched_by : (d now : State) (ws : List (Option Slot)) (n : ℕ) (s : Slot) (w : Window) (g h : Grid) (t u : Markings) (o : Origin) (act : Canvas → CanvasStep) (r : Result (Unit {0}) Refusal) → Writing act → IsLocal act → d ≡ now → IsDesk d →
    IsPlaced now n s → g ≡ get_or d.grids s.root g → step h w r ≡ act (canvas g s.window) → IsKept g s.window h w → o ≡ origin_at now s.root → IsTouched t u (record s { window = w }) o s.window.row → KeepsShown t now u (with_grid d s h ws)
touched_by d now ws n s w g h t u o act r writing local e is placed at value kept there touched v shown =
    let lt : s.root < length d.grids = omega (arith, is.grids, placed.root) in
    let read : g ≡ grid_at d s.root = at ∙ get_or_default d.grids s.root g [] lt in
    let legal : IsCanvas (grid_at d s.root) s.window = subst (λ (x : State). IsCanvas (grid_at x s.root) s.window) (sym e) placed.canvas in
    let writes : Writes (canvas g s.window) (canvas h w) = subst (λ (x : CanvasStep). Writes (canvas g s.window) x.0) (sym value) (writing (canvas g s.window)) in
    let stays : Stays (canvas g s.window) (canvas h w) = subst (λ (x : CanvasStep). Stays (canvas g s.window) x.0) (sym value)
    (local (canvas g s.window) (subst (λ (x : Grid). IsCanvas x s.window) (sym read) legal)) in
    let here : o ≡ origin_at d s.root = there ∙ sym (ap (λ (x : State). origin_at x s.root) e) in
    let touches : IsTouched t u (record s { window = w }) (origin_at d s.root) s.window.row = subst (λ (x : Origin). IsTouched t u (record s { window = w }) x s.window.row) here touched in
    let spares : SparesGrid t u d (record s { window = w }) h = record {
      grid = λ lies some. record {
        kept = (touches.grid lies some).kept;
        same = unchanged (canvas (grid_at d s.root) s.window) h (grid_marks t s.root) (grid_marks u s.root) w (origin_at d s.root) (subst (λ (x : Grid). Writes (canvas x s.window) (canvas h w)) read writes)
            (subst (λ (x : Grid). Stays (canvas x s.window) (canvas h w)) read stays) (touches.grid lies some);
      };
      none = touches.none;
      others = touches.others;
    } in
    slot_spared d ws (record s { window = w }) h t u lt (kept.shape ∙ ap shape_of read) spares v (subst (λ (x : State). ShowsBut t x v) (sym e) shown)

-- a call that is refused and has changed nothing
grid_kept : (act : Canvas → CanvasStep) (s : Canvas) (t : Canvas) (r : Result (Unit {0}) Refusal) → ChangesNothingIfRefusedButNoScroll act → (t, r) ≡ act s → OnOk r ⊥ → IfErr r (λ e. e ≢ NoScroll) → t.grid ≡ s.grid
grid_kept act s t (Ok u) back value refused other = absurd refused
grid_kept act s t (Err e) back value refused other = ap (λ (x : CanvasStep). x.0.grid) value ∙ ap (λ (x : Canvas). x.grid) (back s e other (ap (λ (x : CanvasStep). x.1) (sym value)))

pub left_by : (d now : State) (ws : List (Option Slot)) (n : ℕ) (s : Slot) (w : Window) (g h : Grid) (t u : Markings) (act : Canvas → CanvasStep) (r : Result (Unit {0}) Refusal) → ChangesNothingIfRefusedButNoScroll act → d ≡ now → IsDesk d →
    IsPlaced now n s → g ≡ get_or d.grids s.root g → step h w r ≡ act (canvas g s.window) → LeavesMarks t u r → KeepsShown t now u (with_grid d s h ws)
left_by d now ws n s w g h t u act r back e is placed at value left v shown =
    let lt : s.root < length d.grids = omega (arith, is.grids, placed.root) in
    let read : h ≡ get_or d.grids s.root [] = grid_kept act (canvas g s.window) (canvas h w) r back value left.refused left.other ∙ at ∙ get_or_default d.grids s.root g [] lt in
    let grids : set d.grids s.root h ≡ d.grids = ap (λ (x : Grid). set d.grids s.root x) read ∙ set-get_or d.grids s.root [] in
    let here : ShowsBut t d v = subst (λ (x : State). ShowsBut t x v) (sym e) shown in
    subst (λ (x : Markings). ShowsBut x (with_grid d s h ws) v) (sym left.same)
    (subst (λ (gs : List Grid). ShowsBut t (record d { grids = gs; windows = ws }) v) (sym grids) here)

-- ---- no more is marked than a call may have written
slot_there : (e : State) (ws : List (Option Slot)) (n : ℕ) (t : Slot) → n < 64 → n < length ws → e.windows ≡ set ws n (Some t) → slot_of e n ≡ Ok t
slot_there e ws n t small lt at =
    let off : nat_lt 63 n ≡ false = grind (arith, nat_tests) in
    ap (λ (b : Bool). if b then Err Full else some_slot (window_at e n)) off
    ∙ ap (λ (x : List (Option Slot)). some_slot (get_or x n None)) at ∙ ap some_slot (get_or-set_same ws n (Some t) None lt)

-- new marks of a window's grid are only in lines in which the window may have written since the line `first`
pub record MarksLess (t u : Markings) (s : Slot) (o : Origin) (first : ℕ) : Type 0 where
  pub only : o.pad ≡ false → s.root < length t → (i j : ℕ) → IsUnmarked (grid_marks t s.root) i j → (IsWrittenLine s.window o first i → ⊥) → IsUnmarked (grid_marks u s.root) i j
  pub pad : o.pad ≡ true → u ≡ t
  pub none : length t ≤ s.root → u ≡ t
  pub others : (k : ℕ) → k ≢ s.root → grid_marks u k ≡ grid_marks t k

pub written_within : (d now e : State) (n : ℕ) (s : Slot) (w : Window) (t u : Markings) (o : Origin) → d ≡ now → IsDesk d → (n < 64) × (window_at now n ≡ Some s) → Ok s ≡ slot_of now n →
    e.windows ≡ set d.windows n (Some (record s { window = w })) → o ≡ origin_at now s.root → MarksLess t u (record s { window = w }) o s.window.row → MarksWritten t u now e n
written_within d now e n s w t u o is desk there before at lies touched = record {
  only = λ k i j off not. elim (cases_eq k s.root) [
    | inl same ↦ by_pad k i j off not o.pad refl same
    | inr apart ↦ subst (λ (m : Marking). IsUnmarked m i j) (sym (touched.others k apart)) off
  ];
}
  where
    new : Slot
    new = record s { window = w }

    writes : (k i : ℕ) → s.root ≡ k → o.pad ≡ false → IsWrittenLine w o s.window.row i → WritesLine k now (slot_of now n) (slot_of e n) i
    writes k i root lie line = subst (λ (r : Result Slot Refusal). WritesLine k now r (slot_of e n) i) before
        (subst (λ (r : Result Slot Refusal). WritesLine k now (Ok s) r i) (sym (slot_there e d.windows n new there.0 (omega (arith, there.0, desk.windows)) at))
        (record { root = root; lies = subst (λ (x : Origin). x.pad ≡ false) lies lie; line = subst (λ (x : Origin). IsWrittenLine w x s.window.row i) lies line }))

    left : (k i j : ℕ) → IsUnmarked (grid_marks t k) i j → u ≡ t → IsUnmarked (grid_marks u k) i j
    left k i j off same = subst (λ (x : Markings). IsUnmarked (grid_marks x k) i j) (sym same) off

    by_pad : (k i j : ℕ) → IsUnmarked (grid_marks t k) i j → (WritesLine k now (slot_of now n) (slot_of e n) i → ⊥) → (b : Bool) → o.pad ≡ b → k ≡ s.root → IsUnmarked (grid_marks u k) i j
    by_pad k i j off not true pad same = left k i j off (touched.pad pad)
    by_pad k i j off not false lie same = elim (cases_lt s.root (length t)) [
      | inl some ↦ subst (λ (x : ℕ). IsUnmarked (grid_marks u x) i j) (sym same) (touched.only lie some i j (subst (λ (x : ℕ). IsUnmarked (grid_marks t x) i j) same off) (λ line. not (writes k i (sym same) lie line)))
      | inr past ↦ left k i j off (touched.none past)
    ]

pub written_by : (d now e : State) (n : ℕ) (s : Slot) (w : Window) (t u : Markings) (o : Origin) → d ≡ now → IsDesk d → (n < 64) × (window_at now n ≡ Some s) → Ok s ≡ slot_of now n →
    e.windows ≡ set d.windows n (Some (record s { window = w })) → o ≡ origin_at now s.root → IsTouched t u (record s { window = w }) o s.window.row → MarksWritten t u now e n
written_by d now e n s w t u o is desk there before at lies touched = written_within d now e n s w t u o is desk there before at lies
    (record { only = λ lie some. (touched.grid lie some).only; pad = touched.pad; none = touched.none; others = touched.others })

pub left_unmarked : (d e : State) (n : ℕ) (t u : Markings) (r : Result (Unit {0}) Refusal) → LeavesMarks t u r → MarksWritten t u d e n
left_unmarked d e n t u r left = record { only = λ k i j off not. subst (λ (x : Markings). IsUnmarked (grid_marks x k) i j) (sym left.same) off }

-- ---- copying

pub no_parent : (o : Option ℕ) → is_some o ≡ false → o ≡ None
no_parent (Some k) e = absurd (let some = e in cc)
no_parent None e = refl

inside_area : (a : Area) (i j : ℕ) → is_in a i j ≡ true → (a.top ≤ i) × (i < a.top + a.rows) × (a.left ≤ j) × (j < a.left + a.cols)
inside_area a i j on = grind (arith, nat_tests)

-- a rectangle is copied: it then shows the grid in all of its places
shown_after : (m : Marking) (o : Origin) (a : Area) (from : Place) (g v h : Grid) → a.top ≡ o.top + from.row → a.left ≡ o.left + from.col → Fits a v → h ≡ copied a from g v →
    ((i j : ℕ) → i < length g → j < length (line_at g i) → is_in a (o.top + i) (o.left + j) ≡ false → IsUnmarked m (o.top + i) (o.left + j) → cell_at v (o.top + i) (o.left + j) ≡ cell_at g i j) → IsShownBut m o g h
shown_after m o a from g v h top left fits is others i j row col off = ap (λ (x : Grid). cell_at x (o.top + i) (o.left + j)) is ∙ at (is_in a (o.top + i) (o.left + j)) refl
  where
    at : (b : Bool) → is_in a (o.top + i) (o.left + j) ≡ b → cell_at (copied a from g v) (o.top + i) (o.left + j) ≡ cell_at g i j
    at true on =
        let (over, under, before, after) = inside_area a (o.top + i) (o.left + j) on in
        let near : o.left + j < length (line_at v (o.top + i)) = omega (arith, fits.rows, under, after, fits.cols (o.top + i) (omega (arith, fits.rows, under))) in
        let rows : from.row + (o.top + i - a.top) ≡ i = omega (arith, top, over) in
        let cols : from.col + (o.left + j - a.left) ≡ j = omega (arith, left, before) in
        cell_at-drawn_in a (taken a from g) space v (o.top + i) (o.left + j) on near
        ∙ ap (λ (n : ℕ). base.cell_at (cell_at v (o.top + i) (o.left + j)) g n (from.col + (o.left + j - a.left))) rows ∙ ap (λ (n : ℕ). base.cell_at (cell_at v (o.top + i) (o.left + j)) g i n) cols
        ∙ get_or_default (line_at g i) j (cell_at v (o.top + i) (o.left + j)) space col
    at false beside = cell_at-drawn_in_off a (taken a from g) space v (o.top + i) (o.left + j) beside ∙ others i j row col beside off

-- a rectangle of the screen
fits_screen : (a : Area) (v : Screen) (rows cols : ℕ) → IsScreen v → v.rows ≡ rows → v.cols ≡ cols → a.top + a.rows ≤ rows → a.left + a.cols ≤ cols → Fits a v.grid
fits_screen a v rows cols legal e f low right = record { rows = omega (arith, legal.lines, e, low); cols = λ i lt. omega (arith, legal.columns i lt, f, right) }

-- a place of the grid on the screen is in a window that has the whole grid
in_whole : (o : Origin) (a w : Area) (g : Grid) (i j : ℕ) → a.top ≡ o.top + w.top → a.left ≡ o.left + w.left → a.rows ≡ w.rows → a.cols ≡ w.cols → IsWhole w g → i < length g → j < length (line_at g i) → is_in a (o.top + i) (o.left + j) ≡ false → ⊥
in_whole o a w g i j top left rows cols is row col off =
    let high = is.rows in let wide = is.cols i row in let up = is.top in let first = is.left in grind (arith, nat_tests)

-- a place of the grid on the screen is in a window as large as the screen
in_screenful : (o : Origin) (a : Area) (high wide rows cols i j : ℕ) → a.rows ≡ high → a.cols ≡ wide → a.top + a.rows ≤ high → a.left + a.cols ≤ wide → i < rows → j < cols → o.top + rows ≤ high → o.left + cols ≤ wide → is_in a (o.top + i) (o.left + j) ≡ false → ⊥
in_screenful o a high wide rows cols i j e f low right row col framed framed2 off = grind (arith, nat_tests)

pub part_copied : (m : Marking) (d : State) (s : Slot) (a : Area) (v : Screen) (h : Grid) → a ≡ area_on_screen d s → a.top + a.rows ≤ d.rows → a.left + a.cols ≤ d.cols → IsScreen v → v.rows ≡ d.rows → v.cols ≡ d.cols →
    h ≡ copied a (place s.window.area.top s.window.area.left) (grid_at d s.root) v.grid → IsShownBut m (origin_at d s.root) (grid_at d s.root) v.grid → IsShownBut m (origin_at d s.root) (grid_at d s.root) h
part_copied m d s a v h at low right legal rows cols is shown =
    shown_after m (origin_at d s.root) a (place s.window.area.top s.window.area.left) (grid_at d s.root) v.grid h (ap (λ (x : Area). x.top) at) (ap (λ (x : Area). x.left) at)
    (fits_screen a v d.rows d.cols legal rows cols low right) is (λ i j row col beside off. shown i j row col off)

pub all_copied : (m : Marking) (d : State) (s : Slot) (a : Area) (v : Screen) (h : Grid) → a ≡ area_on_screen d s → a.top + a.rows ≤ d.rows → a.left + a.cols ≤ d.cols → IsFramed d s.root → (s.parent ≡ None → IsWhole s.window.area (grid_at d s.root)) →
    HasAll d s → IsScreen v → v.rows ≡ d.rows → v.cols ≡ d.cols → h ≡ copied a (place s.window.area.top s.window.area.left) (grid_at d s.root) v.grid → IsShownBut m (origin_at d s.root) (grid_at d s.root) h
all_copied m d s a v h at low right framed whole all legal rows cols is =
    shown_after m (origin_at d s.root) a (place s.window.area.top s.window.area.left) (grid_at d s.root) v.grid h (ap (λ (x : Area). x.top) at) (ap (λ (x : Area). x.left) at)
    (fits_screen a v d.rows d.cols legal rows cols low right) is (λ i j row col beside off. absurd (covered i j row col beside all))
  where
    covered : (i j : ℕ) → i < length (grid_at d s.root) → j < length (line_at (grid_at d s.root) i) → is_in a ((origin_at d s.root).top + i) ((origin_at d s.root).left + j) ≡ false → HasAll d s → ⊥
    covered i j row col beside (inl own) =
        in_whole (origin_at d s.root) a s.window.area (grid_at d s.root) i j (ap (λ (x : Area). x.top) at) (ap (λ (x : Area). x.left) at) (ap (λ (x : Area). x.rows) at) (ap (λ (x : Area). x.cols) at) (whole own) row col beside
    covered i j row col beside (inr full) =
        in_screenful (origin_at d s.root) a d.rows d.cols (length (grid_at d s.root)) (length (line_at (grid_at d s.root) i)) i j (ap (λ (x : Area). x.rows) at ∙ full.rows) (ap (λ (x : Area). x.cols) at ∙ full.cols)
        low right row col framed.rows (framed.cols i row) beside

-- the grid of another window, to whose marks the screen's are added
pub other_copied : (m n o : Marking) (rows cols : ℕ) (p : Origin) (g v h : Grid) → JoinsMarks m o rows cols n → AreSame o v h → p.top + length g ≤ rows → ((i : ℕ) → i < length g → p.left + length (line_at g i) ≤ cols) → IsShownBut m p g v → IsShownBut n p g h
other_copied m n o rows cols p g v h is same high wide shown i j row col off =
    sym (same (p.top + i) (p.left + j) (is.joined (p.top + i) (p.left + j) (omega (arith, high, row)) (omega (arith, wide i row, col)) off)) ∙ shown i j row col (is.kept (p.top + i) (p.left + j) off)

-- the marks of the grid from which a window was copied
marks_part : (t x u : Markings) (root : ℕ) (o : Marking) (rows cols : ℕ) (whole : Bool) → Spreads t x root o rows cols → TakesMarksOff x u root whole → (whole ≡ false) ⊎ (length t ≤ root) → grid_marks u root ≡ grid_marks t root
marks_part t x u root o rows cols whole spread cleared side =
    ap (λ (y : Markings). grid_marks y root) (elim side [ inl part ↦ cleared.part part | inr past ↦ cleared.past (omega (arith, past, spread.size)) ]) ∙ spread.same

marks_whole : (t x u : Markings) (root : ℕ) (o : Marking) (rows cols : ℕ) (whole : Bool) → Spreads t x root o rows cols → TakesMarksOff x u root whole → whole ≡ true → root < length t → grid_marks u root ≡ none_marked (length (grid_marks t root).lines)
marks_whole t x u root o rows cols whole spread cleared is lt =
    ap (λ (y : Markings). grid_marks y root) (cleared.there is (omega (arith, lt, spread.size)))
    ∙ get_or-set_same x root (none_marked (length (grid_marks x root).lines)) (record { all = true; lines = [] }) (omega (arith, lt, spread.size))
    ∙ ap (λ (m : Marking). none_marked (length m.lines)) spread.same

-- the marks of another grid
marks_other : (x u : Markings) (root k : ℕ) (whole : Bool) → TakesMarksOff x u root whole → k ≢ root → grid_marks u k ≡ grid_marks x k
marks_other x u root k whole cleared apart = elim (cases_lt root (length x)) [
  | inl lt ↦ at whole refl lt
  | inr past ↦ ap (λ (y : Markings). grid_marks y k) (cleared.past past)
]
  where
    at : (b : Bool) → whole ≡ b → root < length x → grid_marks u k ≡ grid_marks x k
    at true is lt = ap (λ (y : Markings). grid_marks y k) (cleared.there is lt) ∙ get_or-set_other x root k (none_marked (length (grid_marks x root).lines)) (record { all = true; lines = [] }) apart
    at false is lt = ap (λ (y : Markings). grid_marks y k) (cleared.part is)

pub marks_copied : (t x u : Markings) (o : Marking) (d : State) (s : Slot) (whole : Bool) → Spreads t x s.root o d.rows d.cols → TakesMarksOff x u s.root whole → (whole ≡ true → HasAll d s) → (whole ≡ false → HasAll d s → ⊥) → MarksCopied t u o d s
marks_copied t x u o d s whole spread cleared there part = record {
  whole = λ lt all. at whole refl lt all;
  part = λ not. none whole refl not;
  others = λ k i j apart side. subst (λ (m : Marking). IsUnmarked m i j) (sym (marks_other x u s.root k whole cleared apart)) ((spread.others k apart).only i j side);
}
  where
    at : (b : Bool) → whole ≡ b → s.root < length t → HasAll d s → grid_marks u s.root ≡ none_marked (length (grid_marks t s.root).lines)
    at true is lt all = marks_whole t x u s.root o d.rows d.cols whole spread cleared is lt
    at false is lt all = absurd (part is all)

    none : (b : Bool) → whole ≡ b → (HasAll d s → ⊥) → grid_marks u s.root ≡ grid_marks t s.root
    none true is not = absurd (not (there is))
    none false is not = marks_part t x u s.root o d.rows d.cols whole spread cleared (inl is)

pub slot_copied : (t x u : Markings) (o : Marking) (d : State) (s : Slot) (v : Screen) (h : Grid) (whole : Bool) → IsDesk d → (s.parent ≡ None → IsWhole s.window.area (grid_at d s.root)) → Spreads t x s.root o d.rows d.cols → TakesMarksOff x u s.root whole →
    (whole ≡ true → HasAll d s) → AreSame o v.grid h → (area_on_screen d s).top + (area_on_screen d s).rows ≤ d.rows → (area_on_screen d s).left + (area_on_screen d s).cols ≤ d.cols → IsScreen v → v.rows ≡ d.rows → v.cols ≡ d.cols →
    h ≡ copied (area_on_screen d s) (place s.window.area.top s.window.area.left) (grid_at d s.root) v.grid → (origin_at d s.root).pad ≡ false → ShowsBut t d v.grid → ShowsBut u d h
slot_copied t x u o d s v h whole desk own spread cleared there same low right legal rows cols is window shown k = elim (cases_eq k s.root) [
  | inl same ↦ subst (λ (n : ℕ). (origin_at d n).pad ≡ false → IsShownBut (grid_marks u n) (origin_at d n) (grid_at d n) h) (sym same) (λ lies. here)
  | inr apart ↦ λ lies. subst (λ (m : Marking). IsShownBut m (origin_at d k) (grid_at d k) h) (sym (marks_other x u s.root k whole cleared apart))
      (other_copied (grid_marks t k) (grid_marks x k) o d.rows d.cols (origin_at d k) (grid_at d k) v.grid h (spread.others k apart) same (desk.framed k lies).rows (desk.framed k lies).cols (shown k lies))
]
  where
    still : grid_marks u s.root ≡ grid_marks t s.root → IsShownBut (grid_marks u s.root) (origin_at d s.root) (grid_at d s.root) h
    still e = subst (λ (m : Marking). IsShownBut m (origin_at d s.root) (grid_at d s.root) h) (sym e)
        (part_copied (grid_marks t s.root) d s (area_on_screen d s) v h refl low right legal rows cols is (shown s.root window))

    at : (b : Bool) → whole ≡ b → IsShownBut (grid_marks u s.root) (origin_at d s.root) (grid_at d s.root) h
    at true e = all_copied (grid_marks u s.root) d s (area_on_screen d s) v h refl low right (desk.framed s.root window) own (there e) legal rows cols is
    at false e = still (marks_part t x u s.root o d.rows d.cols whole spread cleared (inl e))

    here : IsShownBut (grid_marks u s.root) (origin_at d s.root) (grid_at d s.root) h
    here = at whole refl
