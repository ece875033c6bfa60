-- Text that becomes cells of the cursor's line changes and marks nothing else.
use Rattle.std.proofs.Common.{Some, Ok, set, ◌≡◌, inl, inr, ℕ, ◌+◌, ◌<◌, Bool, true, false, List, [], Option, length, get_or, sym, ap, subst, ◌∙◌, arith, refl, suc, ◌∷◌}
use Rattle.std.proofs.lemmas.Bool.{cases_lt}
use Rattle.std.proofs.lemmas.Bool.Decides.{nat_tests}
use Rattle.std.proofs.lemmas.List.{get_or_default}
use Rattle.grids.specs.declared.areas.Area.{Area}
use Rattle.grids.proofs.Drawings.{cell_at-drawn_in_off}
use Rattle.cur_drawing.proofs.Written.{added_next, one_drawn}
use Rattle.cur_drawing.specs.declared.puts.Put.{Put}
use Rattle.cur_drawing.specs.declared.windows.Window.{Window}
use Rattle.cur_drawing.specs.Cells.{space}
use Rattle.cur_drawing.specs.Grids.{Grid, cell_at, is_in, shape_of}
use Rattle.cur_screens.specs.Marks.{Marking}
use Rattle.cur_drawing.specs.Windows.{cells_of, content}
use Rattle.cur_drawing.specs.Calls as calls
use Rattle.cur_drawing.specs.Calls.{Canvas, CanvasStep, IsKept, and_then, canvas, done, plain}
use Rattle.cur_screens.specs.declared.slots.Origin.{Origin}
use Rattle.cur_screens.specs.declared.slots.Slot.{Slot}
use Rattle.cur_windows.specs.Desks.{IsDesk, IsPlaced, State, grid_at, origin_at, slot_of, window_at}
use Rattle.cur_screens.specs.Touched.{AreTouched, FitsLine, IsOneCell, Markings, MarksNoMore, cells_shown, grid_marks}
use Rattle.cur_windows.specs.TouchedWindows.{KeepsShown, MarksCellsAlone, MarksWritten, ShowsBut}
use Rattle.cur_windows.proofs.TouchedFacts.{SparesGrid, slot_spared, with_grid, written_within}

pub one_cell : (p : Put) (s : Canvas) → IsOneCell s.window p → calls.added p s ≡ done (one_drawn p s) (record s.window { col = s.window.col + 1 })
one_cell p s is = added_next p s is.printed is.pair is.before

-- ---- cells of one line

-- writing moves the cursor n columns to the right in its line, and changes only these cells
pub record StaysInLine (s t : Canvas) (n : ℕ) : Type 0 where
  pub window : t.window ≡ record s.window { col = s.window.col + n }
  pub cells : (i j : ℕ) → is_in (cells_of s.window s.window.row s.window.col n) i j ≡ false → cell_at t.grid i j ≡ cell_at s.grid i j

one_stays : (p : Put) (s : Canvas) → StaysInLine s (canvas (one_drawn p s) (record s.window { col = s.window.col + 1 })) 1
one_stays p s = record {
  window = refl;
  cells = λ i j off. cell_at-drawn_in_off (cells_of s.window s.window.row s.window.col 1) (λ i j old. content s.window p) space s.grid i j off;
}

pub put_stays : (p : Put) (s : Canvas) (r : CanvasStep) → IsOneCell s.window p → r ≡ calls.added p s → StaysInLine s r.0 1
put_stays p s r is value = subst (λ (x : CanvasStep). StaysInLine s x.0 1) (sym (value ∙ one_cell p s is)) (one_stays p s)

-- the character isn't refused
pub put_answers : (p : Put) (s : Canvas) (r : CanvasStep) → IsOneCell s.window p → r ≡ calls.added p s → r.1 ≡ Ok tt
put_answers p s r is value = ap (λ (x : CanvasStep). x.1) (value ∙ one_cell p s is)

apart_front : (a : Area) (n i j : ℕ) → is_in (record a { cols = 1 + n }) i j ≡ false → is_in (record a { cols = 1 }) i j ≡ false
apart_front a n i j off = grind (arith, nat_tests, off)

apart_rest : (a : Area) (left n i j : ℕ) → left ≡ a.left + 1 → is_in (record a { cols = 1 + n }) i j ≡ false → is_in (record a { left = left; cols = n }) i j ≡ false
apart_rest a left n i j next off = grind (arith, nat_tests, next, off)

-- one cell, and the cells after it
one_then : (p : Put) (s u : Canvas) (n : ℕ) → StaysInLine (canvas (one_drawn p s) (record s.window { col = s.window.col + 1 })) u n → StaysInLine s u (1 + n)
one_then p s u n rest = record {
  window = rest.window ∙ ap (λ (m : ℕ). record s.window { col = m }) (omega arith);
  cells = λ i j off. rest.cells i j (apart_rest (cells_of s.window s.window.row s.window.col 1) (s.window.area.left + (s.window.col + 1)) n i j (omega arith) off) ∙ (one_stays p s).cells i j (apart_front (cells_of s.window s.window.row s.window.col 1) n i j off);
}

text_stays_from : (text : List ℕ) (s : Canvas) → FitsLine s.window text → StaysInLine s (calls.added_all text s).0 (length text)
text_stays_from [] s fits = record {
  window = ap (λ (n : ℕ). record s.window { col = n }) (omega arith);
  cells = λ i j off. refl;
}
text_stays_from (b ∷ bs) s fits =
    let first : IsOneCell s.window (plain b) = record { printed = fits.printed 0 (omega arith); pair = refl; before = omega (arith, fits.before) } in
    let next : Canvas = canvas (one_drawn (plain b) s) (record s.window { col = s.window.col + 1 }) in
    let rest : StaysInLine next (calls.added_all bs next).0 (length bs) = text_stays_from bs next (record { printed = λ k lt. fits.printed (suc k) (omega (arith, lt)); before = omega (arith, fits.before) }) in
    let more : 1 + length bs ≡ suc (length bs) = omega arith in
    subst (λ (x : CanvasStep). StaysInLine s (and_then x (λ t. calls.added_all bs t)).0 (suc (length bs))) (sym (one_cell (plain b) s first))
    (subst (λ (m : ℕ). StaysInLine s (calls.added_all bs next).0 m) more (one_then (plain b) s (calls.added_all bs next).0 (length bs) rest))

pub text_stays : (text : List ℕ) (s : Canvas) (r : CanvasStep) → FitsLine s.window text → r ≡ calls.added_all text s → StaysInLine s r.0 (length text)
text_stays text s r fits value = subst (λ (x : CanvasStep). StaysInLine s x.0 (length text)) (sym value) (text_stays_from text s fits)

-- a place of the grid outside the cells on the screen is outside the window's
beside : (o : Origin) (w v : Window) (col n i j : ℕ) → w.area ≡ v.area → w.row ≡ v.row → is_in (cells_shown o w col n) (o.top + i) (o.left + j) ≡ false → is_in (cells_of v v.row col n) i j ≡ false
beside o w v col n i j area row off = near v.area v.row (subst (λ (a : Area). is_in (shown a v.row) (o.top + i) (o.left + j) ≡ false) area (subst (λ (r : ℕ). is_in (shown w.area r) (o.top + i) (o.left + j) ≡ false) row off))
  where
    shown : Area → ℕ → Area
    shown a r = record { top = o.top + a.top + r; left = o.left + a.left + col; rows = 1; cols = n }

    near : (a : Area) (r : ℕ) → is_in (record { top = o.top + a.top + r; left = o.left + a.left + col; rows = 1; cols = n }) (o.top + i) (o.left + j) ≡ false
        → is_in (record { top = a.top + r; left = a.left + col; rows = 1; cols = n }) i j ≡ false
    near a r apart = grind (arith, nat_tests, apart)

pub touched_cells : (d now : State) (ws : List (Option Slot)) (n : ℕ) (s : Slot) (w : Window) (g h : Grid) (t u : Markings) (o : Origin) (count : ℕ) → StaysInLine (canvas g s.window) (canvas h w) count → d ≡ now → IsDesk d →
    IsPlaced now n s → g ≡ get_or d.grids s.root g → IsKept g s.window h w → o ≡ origin_at now s.root → AreTouched t u (record s { window = w }) o s.window.col count → KeepsShown t now u (with_grid d s h ws)
touched_cells d now ws n s w g h t u o count stays e desk placed at kept there touched v shown =
    let lt : s.root < length d.grids = omega (arith, desk.grids, placed.root) in
    let read : g ≡ grid_at d s.root = at ∙ get_or_default d.grids s.root g [] lt in
    let here : o ≡ origin_at d s.root = there ∙ sym (ap (λ (x : State). origin_at x s.root) e) in
    let touches : AreTouched t u (record s { window = w }) (origin_at d s.root) s.window.col count = subst (λ (x : Origin). AreTouched t u (record s { window = w }) x s.window.col count) here touched in
    let row : w.row ≡ s.window.row = ap (λ (x : Window). x.row) stays.window in
    let spares : SparesGrid t u d (record s { window = w }) h = record {
      grid = λ lies some. record {
        kept = (touches.grid lies some).kept;
        same = λ i j off. stays.cells i j (beside (origin_at d s.root) w s.window s.window.col count i j kept.area row ((touches.grid lies some).cells _ _ off)) ∙ ap (λ (x : Grid). cell_at x i j) read;
      };
      none = touches.none;
      others = touches.others;
    } in
    slot_spared d ws (record s { window = w }) h t u lt (kept.shape ∙ ap shape_of read) spares v (subst (λ (x : State). ShowsBut t x v) (sym e) shown)

-- only the line of these cells is marked
pub written_cells : (d now e : State) (n : ℕ) (s : Slot) (w : Window) (g h : Grid) (t u : Markings) (o : Origin) (count : ℕ) → StaysInLine (canvas g s.window) (canvas h w) count → d ≡ now → IsDesk d →
    (n < 64) × (window_at now n ≡ Some s) → Ok s ≡ slot_of now n → e.windows ≡ set d.windows n (Some (record s { window = w })) → o ≡ origin_at now s.root → AreTouched t u (record s { window = w }) o s.window.col count → MarksWritten t u now e n
written_cells d now e n s w g h t u o count stays is desk there before at lies touched = written_within d now e n s w t u o is desk there before at lies (record {
  only = λ lie some i j off not. (touched.grid lie some).only i j off (λ same. not (inr (record { after = omega (arith, same, row); before = omega (arith, same) })));
  pad = touched.pad;
  none = touched.none;
  others = touched.others;
})
  where
    row : w.row ≡ s.window.row
    row = ap (λ (x : Window). x.row) stays.window

-- ---- no more is marked than the cells

none_more : (m : Marking) (a : Area) → MarksNoMore m m a
none_more m a i j (inl all) = (all j (omega arith)).unmarked
none_more m a i j (inr all) = (all j (omega arith)).unmarked

-- a call that wrote these cells marks no more of the window's grid
pub alone_cells : (now : State) (s : Slot) (w : Window) (g h : Grid) (t u : Markings) (o : Origin) (col n count : ℕ) → StaysInLine (canvas g s.window) (canvas h w) count → o ≡ origin_at now s.root → col ≡ s.window.col → n ≡ count → AreTouched t u (record s { window = w }) o col n → MarksCellsAlone t u now s count
alone_cells now s w g h t u o col n count stays lies from all touched = by_pad o.pad refl
  where
    More : Markings → Area → Type 0
    More x a = MarksNoMore (grid_marks t s.root) (grid_marks x s.root) a

    shown : Area
    shown = cells_shown (origin_at now s.root) s.window s.window.col count

    is : cells_shown o w col n ≡ shown
    is =
        ap (λ (x : Window). cells_shown o x col n) stays.window ∙ ap (λ (x : Origin). cells_shown x s.window col n) lies
        ∙ ap (λ (c : ℕ). cells_shown (origin_at now s.root) s.window c n) from ∙ ap (λ (c : ℕ). cells_shown (origin_at now s.root) s.window s.window.col c) all

    same : u ≡ t → More u shown
    same left = subst (λ (x : Markings). More x shown) (sym left) (none_more (grid_marks t s.root) shown)

    by_pad : (b : Bool) → o.pad ≡ b → More u shown
    by_pad true pad = same (touched.pad pad)
    by_pad false lie = elim (cases_lt s.root (length t)) [
      | inl some ↦ subst (More u) is (touched.grid lie some).alone
      | inr past ↦ same (touched.none past)
    ]
