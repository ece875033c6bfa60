-- A borrowed line stays a line of its window.
use Rattle.std.proofs.Common.{◌≡◌, ◌≢◌, ◌⊎◌, ℕ, ◌+◌, ◌-◌, ◌<◌, false, List, [], length, get_or, set, drop, Result, Ok, IfOk, sym, subst, ap, ◌∙◌, inl, inr, arith, if◌then◌else◌}
use Rattle.std.proofs.lemmas.Bool.{cases_eq, cases_lt}
use Rattle.std.proofs.lemmas.Bool.Decides.{nat_tests}
use Rattle.std.proofs.lemmas.List.{get_or-set_same, get_or-set_other, length-set, length-drop, length-take-le, get_or-take, get_or-drop, get_or_past, get_or_default}
use Rattle.grids.specs.declared.areas.Area.{Area}
use Rattle.cur_drawing.specs.Cells.{Content, space}
use Rattle.cur_drawing.specs.Grids.{Grid, line_at, cell_at, one, filled, part_written, is_in, shape_of}
use Rattle.cur_drawing.proofs.DrawingFacts.{shape_of-drawn, fits_same, cell_at-drawn_in, cell_at-drawn_in_off}
use Rattle.grids.specs.Grids as base
use Rattle.grids.proofs.Drawings.{drawn_same}
use Rattle.cur_drawing.specs.declared.refusals.Refusal.{Refusal}
use Rattle.cur_screens.specs.declared.slots.Slot.{Slot}
use Rattle.cur_windows.specs.Desks.{State, IsDesk, IsPlaced, grid_at, slot_of, cell}
use Rattle.cur_windows.specs.Rows.{IsLine, row_written, line_area, place_written, written_through}
use Rattle.cur_windows.specs.Views.{cut}
use Rattle.cur_windows.proofs.Supports.{found_there}
use Rattle.cur_windows.proofs.Closures.{grids_kept, shape_kept}

-- a grid that is written and keeps its shape
pub closes_root : (d now : State) (r : ℕ) (g h : Grid) → d ≡ now → IsDesk d → r < 64 → g ≡ get_or d.grids r g → shape_of h ≡ shape_of g → IsDesk (record d { grids = set d.grids r h })
closes_root d now r g h e is small at shape =
    let lt : r < length d.grids = omega (arith, is.grids) in
    let read : g ≡ get_or d.grids r [] = at ∙ get_or_default d.grids r g [] lt in
    grids_kept d (set d.grids r h) is (length-set d.grids r h ∙ is.grids) (λ k. shape_kept d.grids r k h lt (shape ∙ ap shape_of read))

filled_shape : (a : Area) (c : Content) (g : Grid) → shape_of (filled a c g) ≡ shape_of g
filled_shape a c g = shape_of-drawn (λ i j old. if is_in a i j then c else old) g

pub part_shape : (i j : ℕ) (cells : List Content) (g : Grid) → shape_of (part_written i j cells g) ≡ shape_of g
part_shape i j cells g =
    let a : Area = record { top = i; left = j; rows = 1; cols = length cells } in
    shape_of-drawn (λ y x old. if is_in a y x then get_or cells (x - j) old else old) g

written_shape : (d : State) (s : Slot) (y x : ℕ) (c : Content) → shape_of (grid_at (place_written d s y x c) s.root) ≡ shape_of (grid_at d s.root)
written_shape d s y x c =
    let a : Area = one (s.window.area.top + y) (s.window.area.left + x) in
    let h : Grid = filled a c (grid_at d s.root) in
    elim (cases_lt s.root (length d.grids)) [
      | inl lt ↦ ap shape_of (get_or-set_same d.grids s.root h [] lt) ∙ filled_shape a c (grid_at d s.root)
      | inr past ↦ ap shape_of (get_or_past (set d.grids s.root h) s.root [] (omega (arith, length-set d.grids s.root h)) ∙ sym (get_or_past d.grids s.root [] past))
    ]

pub line_kept : (d : State) (s : Slot) (y x : ℕ) (c : Content) → IsLine d s y → IsLine (place_written d s y x c) s y
line_kept d s y x c is = record {
  root = is.root;
  canvas = record { window = is.canvas.window; fits = fits_same s.window.area (grid_at d s.root) (grid_at (place_written d s y x c) s.root) (written_shape d s y x c) is.canvas.fits };
  within = is.within;
}

-- one place of a part in which only the cell x has changed
one_cell : (i j n x y k : ℕ) (c d : Content) (w : List Content) (g : Grid) → n ≡ length w → x < n → ((m : ℕ) (d : Content) → m < n → get_or w m d ≡ base.cell_at d g i (j + m)) →
    (if is_in (record { top = i; left = j; rows = 1; cols = n }) y k then get_or (set w x c) (k - j) (base.cell_at d g y k) else base.cell_at d g y k) ≡ (if is_in (one i (j + x)) y k then c else base.cell_at d g y k)
one_cell i j n x y k c d w g e lt same = elim (cases_eq y i) [
  | inr other ↦ grind (arith, nat_tests)
  | inl row ↦ rw (row) (elim (cases_lt k j) [
    | inl front ↦ grind (arith, nat_tests)
    | inr from ↦ elim (cases_lt (k - j) n) [
      | inr behind ↦ grind (arith, nat_tests)
      | inl within ↦ elim (cases_eq (k - j) x) [
        | inl at ↦ (let new : get_or (set w x c) (k - j) (base.cell_at d g i k) ≡ c = rw (at) (get_or-set_same w x c (base.cell_at d g i k) (omega (arith, e))) in grind (arith, nat_tests))
        | inr beside ↦ (let old : get_or (set w x c) (k - j) (base.cell_at d g i k) ≡ base.cell_at d g i k
            = get_or-set_other w x (k - j) c (base.cell_at d g i k) beside ∙ get_or_default w (k - j) (base.cell_at d g i k) d (omega (arith, e)) ∙ same (k - j) d within ∙ ap (λ (m : ℕ). base.cell_at d g i m) (omega arith) in
            grind (arith, nat_tests))
      ]
    ]
  ])
]

-- a part in which one cell is written
one_written_in_part : (i j x : ℕ) (c : Content) (w : List Content) (g : Grid) → x < length w → ((m : ℕ) (d : Content) → m < length w → get_or w m d ≡ base.cell_at d g i (j + m)) → part_written i j (set w x c) g ≡ filled (one i (j + x)) c g
one_written_in_part i j x c w g lt same = let e = length-set w x c in let a : Area = record { top = i; left = j; rows = 1; cols = length (set w x c) } in
    drawn_same (λ y k old. if is_in a y k then get_or (set w x c) (k - j) old else old) (λ y k old. if is_in (one i (j + x)) y k then c else old) g
    (λ y k d. one_cell i j (length (set w x c)) x y k c d w g e (omega (arith, e)) (λ m d h. same m d (omega (arith, e))))

-- one cell of a borrowed line is written
row_cell : (d : State) (s : Slot) (y x : ℕ) (c : Content) (cells : List Content) → IsLine d s y → cells ≡ cut s.window.area (line_at (grid_at d s.root) (s.window.area.top + y)) → x < s.window.area.cols →
    row_written d s y (set cells x c) ≡ place_written d s y x c
row_cell d s y x c cells is e lt =
    let a : Area = s.window.area in
    let line : List Content = line_at (grid_at d s.root) (a.top + y) in
    let rows = is.canvas.fits.rows in
    let within = is.within in
    let wide = is.canvas.fits.cols (a.top + y) (omega arith) in
    let long : length cells ≡ a.cols = ap length e ∙ length-take-le a.cols (drop a.left line) (let n = length-drop a.left line in omega (arith, n)) in
    ap (λ (g : Grid). record d { grids = set d.grids s.root g })
    (one_written_in_part (a.top + y) a.left x c cells (grid_at d s.root) (omega (arith, long))
    (λ m d h. ap (λ (l : List Content). get_or l m d) e ∙ get_or-take a.cols (drop a.left line) m d (omega (arith, long)) ∙ get_or-drop a.left line m d))

pub lent_written : (e d : State) (r : Result Slot Refusal) (y x : ℕ) (c : Content) (now : State) (s : Slot) (row : ℕ) (cells : List Content) →
    Ok s ≡ r → now ≡ d → row ≡ y → IsLine now s row → cells ≡ cut s.window.area (line_at (grid_at now s.root) (s.window.area.top + row)) → IfOk r (λ t. x < t.window.area.cols) →
    e ≡ row_written now s row (set cells x c) → e ≡ written_through r d y x c
lent_written e d r y x c now s row cells found same line is told within written =
    let lt : x < s.window.area.cols = subst (λ (q : Result Slot Refusal). IfOk q (λ t. x < t.window.area.cols)) (sym found) within in
    written ∙ row_cell now s row x c cells is told lt ∙ ap (λ (q : State). place_written q s row x c) same ∙ ap (λ (n : ℕ). place_written d s n x c) line
    ∙ ap (λ (q : Result Slot Refusal). written_through q d y x c) found

-- a written line, place by place
pub written_inside : (d : State) (n : ℕ) (s : Slot) (y x : ℕ) (cells : List Content) → IsDesk d → slot_of d n ≡ Ok s → y < s.window.area.rows → x < s.window.area.cols → x < length cells → cell (row_written d s y cells) s y x ≡ get_or cells x space
written_inside d n s y x cells is found low near lt =
    let old : IsPlaced d n s = is.placed n s (found_there d n s found) in
    let a : Area = s.window.area in
    let g : Grid = grid_at d s.root in
    let rows = old.canvas.fits.rows in
    let wide = old.canvas.fits.cols (a.top + y) (omega arith) in
    ap (λ (h : Grid). cell_at h (a.top + y) (a.left + x)) (get_or-set_same d.grids s.root (part_written (a.top + y) a.left cells g) [] (omega (arith, is.grids, old.root)))
    ∙ cell_at-drawn_in (line_area s y (length cells)) (λ i j old. get_or cells (j - a.left) old) g (a.top + y) (a.left + x) (grind (arith, nat_tests)) (omega arith)
    ∙ ap (λ (k : ℕ). get_or cells k (cell_at g (a.top + y) (a.left + x))) (omega arith)
    ∙ get_or_default cells x (cell_at g (a.top + y) (a.left + x)) space lt

pub written_outside : (d : State) (n k : ℕ) (s : Slot) (y i j : ℕ) (cells : List Content) → IsDesk d → slot_of d n ≡ Ok s → (k ≢ s.root) ⊎ (is_in (line_area s y (length cells)) i j ≡ false) →
    cell_at (grid_at (row_written d s y cells) k) i j ≡ cell_at (grid_at d k) i j
written_outside d n k s y i j cells is found (inl other) = ap (λ (x : Grid). cell_at x i j) (get_or-set_other d.grids s.root k (part_written (s.window.area.top + y) s.window.area.left cells (grid_at d s.root)) [] other)
written_outside d n k s y i j cells is found (inr off) =
    let old : IsPlaced d n s = is.placed n s (found_there d n s found) in
    let g : Grid = part_written (s.window.area.top + y) s.window.area.left cells (grid_at d s.root) in
    elim (cases_eq k s.root) [
      | inl eq ↦ rw (eq) (ap (λ (x : Grid). cell_at x i j) (get_or-set_same d.grids s.root g [] (omega (arith, is.grids, old.root)))
          ∙ cell_at-drawn_in_off (line_area s y (length cells)) (λ u v cell. get_or cells (v - s.window.area.left) cell) (grid_at d s.root) i j off)
      | inr other ↦ ap (λ (x : Grid). cell_at x i j) (get_or-set_other d.grids s.root k g [] other)
    ]
