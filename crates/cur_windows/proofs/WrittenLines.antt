-- Writing changes no line above the cursor's old one or below its new one, unless the region may have scrolled.
use Rattle.std.proofs.Common.{◌≡◌, ℕ, ◌+◌, ◌-◌, ◌<◌, ◌≤◌, ◌⊎◌, ◌&&◌, ◌||◌, ◌==◌, nat_lt, bit_xor, zero, suc, Bool, true, false, List, [], ◌∷◌, Result, Ok, Err, refl, ap, ◌∙◌, inl, inr, arith, if◌then◌else◌}
use Rattle.std.proofs.lemmas.Bool.Decides.{nat_tests}
use Rattle.grids.specs.declared.areas.Area.{Area}
use Rattle.cur_drawing.specs.declared.puts.Put.{Put}
use Rattle.cur_drawing.specs.declared.refusals.Refusal.{Refusal}
use Rattle.cur_drawing.specs.declared.windows.Window.{Window}
use Rattle.cur_drawing.specs.Cells.{Content, space}
use Rattle.cur_drawing.specs.Grids.{Grid, cell_at, filled, is_in}
use Rattle.cur_drawing.specs.Windows.{cells_of, content, checked, is_pair}
use Rattle.cur_drawing.specs.Calls as calls
use Rattle.cur_drawing.specs.Calls.{Canvas, CanvasStep, canvas, and_then, if_accepted, plain, region_height, tab_width}
use Rattle.cur_screens.specs.Touched.{MayScroll}
use Rattle.grids.proofs.Drawings.{cell_at-drawn_in_off}

pub record Writes (s t : Canvas) : Type 0 where
  pub area : t.window.area ≡ s.window.area
  pub scrolls : t.window.scrolls ≡ s.window.scrolls
  pub bottom : t.window.region_bottom ≡ s.window.region_bottom
  pub down : s.window.row ≤ t.window.row
  pub stuck : MayScroll s.window → MayScroll t.window
  pub cells : (MayScroll t.window → ⊥) → (i j : ℕ) → (i < s.window.area.top + s.window.row) ⊎ (s.window.area.top + t.window.row < i) → cell_at t.grid i j ≡ cell_at s.grid i j

abbrev pub Writing : (Canvas → CanvasStep) → Type 0
Writing act = (s : Canvas) → Writes s (act s).0

writes_same : (s : Canvas) → Writes s s
writes_same s = record { area = refl; scrolls = refl; bottom = refl; down = omega arith; stuck = λ may. may; cells = λ off i j side. refl }

writes_both : (s t u : Canvas) → Writes s t → Writes t u → Writes s u
writes_both s t u one two = record {
  area = two.area ∙ one.area;
  scrolls = two.scrolls ∙ one.scrolls;
  bottom = two.bottom ∙ one.bottom;
  down = omega (arith, one.down, two.down);
  stuck = λ may. two.stuck (one.stuck may);
  cells = λ off i j side. both off i j side;
}
  where
    same_top : t.window.area.top ≡ s.window.area.top
    same_top = ap (λ (a : Area). a.top) one.area

    later : (i : ℕ) → (i < s.window.area.top + s.window.row) ⊎ (s.window.area.top + u.window.row < i) → (i < t.window.area.top + t.window.row) ⊎ (t.window.area.top + u.window.row < i)
    later i (inl low) = inl (omega (arith, same_top, one.down))
    later i (inr high) = inr (omega (arith, same_top))

    earlier : (i : ℕ) → (i < s.window.area.top + s.window.row) ⊎ (s.window.area.top + u.window.row < i) → (i < s.window.area.top + s.window.row) ⊎ (s.window.area.top + t.window.row < i)
    earlier i (inl low) = inl low
    earlier i (inr high) = inr (omega (arith, two.down))

    both : (MayScroll u.window → ⊥) → (i j : ℕ) → (i < s.window.area.top + s.window.row) ⊎ (s.window.area.top + u.window.row < i) → cell_at u.grid i j ≡ cell_at s.grid i j
    both off i j side = two.cells off i j (later i side) ∙ one.cells (λ may. off (two.stuck may)) i j (earlier i side)

other_line : (w : Window) (from n i j : ℕ) → (i < w.area.top + w.row) ⊎ (w.area.top + w.row < i) → is_in (cells_of w w.row from n) i j ≡ false
other_line w from n i j (inl low) = grind (arith, nat_tests)
other_line w from n i j (inr high) = grind (arith, nat_tests)

-- cells of the cursor's line are filled
writes_filled : (s : Canvas) (from n : ℕ) (c : Content) → Writes s (canvas (filled (cells_of s.window s.window.row from n) c s.grid) s.window)
writes_filled s from n c = record {
  area = refl;
  scrolls = refl;
  bottom = refl;
  down = omega arith;
  stuck = λ may. may;
  cells = λ off i j side. cell_at-drawn_in_off (cells_of s.window s.window.row from n) (λ i j old. c) space s.grid i j (other_line s.window from n i j side);
}

-- the cursor moves to another column
writes_column : (s : Canvas) (col : ℕ) → Writes s (canvas s.grid (record s.window { col = col }))
writes_column s col = record { area = refl; scrolls = refl; bottom = refl; down = omega arith; stuck = λ may. may; cells = λ off i j side. refl }

-- the cursor moves to the next line, which doesn't make the region scroll
writes_next : (s : Canvas) → (MayScroll s.window → ⊥) → Writes s (canvas s.grid (record s.window { row = s.window.row + 1; col = 0 }))
writes_next s not = record { area = refl; scrolls = refl; bottom = refl; down = omega arith; stuck = λ may. absurd (not may); cells = λ off i j side. refl }

-- the region scrolls
writes_scrolled : (s : Canvas) (h : Grid) → MayScroll s.window → Writes s (canvas h (record s.window { col = 0 }))
writes_scrolled s h may = record { area = refl; scrolls = refl; bottom = refl; down = omega arith; stuck = λ m. m; cells = λ off i j side. absurd (off may) }

writes_if : (s : Canvas) (b : Bool) (x y : CanvasStep) → (b ≡ true → Writes s x.0) → (b ≡ false → Writes s y.0) → Writes s (if b then x else y).0
writes_if s true x y p q = p refl
writes_if s false x y p q = q refl

writes_then : (s : Canvas) (r : CanvasStep) (next : Canvas → CanvasStep) → Writes s r.0 → Writing next → Writes s (and_then r next).0
writes_then s (t, Ok u) next one two = writes_both s t _ one (two t)
writes_then s (t, Err e) next one two = one

writes_good : (s : Canvas) (r : Result (Unit {0}) Refusal) (x : CanvasStep) → Writes s x.0 → Writes s (if_accepted r s x).0
writes_good s (Ok u) x p = p
writes_good s (Err e) x p = writes_same s

may_scroll : (w : Window) → (w.scrolls && (w.row == w.region_bottom)) ≡ true → MayScroll w
may_scroll w is = grind (arith, nat_tests)

may_not : (w : Window) → (w.scrolls && (w.row == w.region_bottom)) ≡ false → MayScroll w → ⊥
may_not w is (scrolls, row) = grind (arith, nat_tests)

advanced : Writing calls.advanced
advanced s =
    writes_if s (s.window.scrolls && (s.window.row == s.window.region_bottom)) _ _
    (λ is. writes_scrolled s (calls.lines_up s.window s.window.region_top (region_height s.window) 1 s.grid) (may_scroll s.window is))
    (λ is. writes_if s ((s.window.row + 1) == s.window.area.rows) _ _ (λ last. writes_same s) (λ more. writes_next s (may_not s.window is)))

written : (p : Put) → Writing (calls.written p)
written p s =
    let t : Canvas = canvas (filled (cells_of s.window s.window.row s.window.col 1) (content s.window p) s.grid) s.window in
    let one : Writes s t = writes_filled s s.window.col 1 (content s.window p) in
    writes_if s (nat_lt (s.window.col + 1) s.window.area.cols) _ _
    (λ more. writes_both s t _ one (writes_column t (s.window.col + 1)))
    (λ last. writes_both s t _ one (advanced t))

written_times : (n : ℕ) (p : Put) → Writing (calls.written_times n p)
written_times zero p s = writes_same s
written_times (suc n) p s = writes_then s (calls.written p s) (λ t. calls.written_times n p t) (written p s) (written_times n p)

character : (p : Put) → Writing (calls.character p)
character p s =
    writes_if s (p.byte == 10) _ _
    (λ newline. (let t : Canvas = canvas (calls.line_cleared s.window s.grid) s.window in
    writes_both s t _ (writes_filled s s.window.col (s.window.area.cols - s.window.col) s.window.background) (advanced t)))
    (λ a. writes_if s (p.byte == 9) _ _ (λ tab. written_times (tab_width s.window) (record p { byte = 32 }) s)
    (λ b. writes_if s (p.byte == 8) _ _ (λ back. writes_column s (s.window.col - 1))
    (λ d. writes_if s (p.byte == 13) _ _ (λ return. writes_column s 0)
    (λ e. writes_if s (nat_lt p.byte 32 || (p.byte == 127)) _ _
    (λ control. writes_then s (calls.written (record p { byte = 94 }) s) _ (written (record p { byte = 94 }) s) (written (record p { byte = bit_xor p.byte 64 })))
    (λ printed. written p s)))))

pub added : (p : Put) → Writing (calls.added p)
added p s = writes_good s (checked (nat_lt p.byte 128) (is_pair p.pair)) _ (character p s)

pub added_all : (text : List ℕ) → Writing (calls.added_all text)
added_all [] s = writes_same s
added_all (b ∷ bs) s = writes_then s (calls.added (plain b) s) (λ t. calls.added_all bs t) (added (plain b) s) (added_all bs)
