-- The cells, place by place, after the calls that shift cells or lines, or copy a rectangle.
use Rattle.std.proofs.Common.{◌≡◌, ◌≢◌, ℕ, ◌+◌, ◌-◌, ◌<◌, ◌≤◌, ◌==◌, ◌&&◌, nat_lt, nat_le, Bool, true, false, Result, Ok, Err, length, refl, ap, ◌∙◌, inl, inr, arith, if◌then◌else◌}
use Rattle.std.proofs.lemmas.Bool.{cases_lt, cases_eq}
use Rattle.std.proofs.lemmas.Bool.Decides.{nat_tests}
use Rattle.std.proofs.lemmas.List.{get_or_default}
use Rattle.grids.specs.declared.areas.Area.{Area}
use Rattle.grids.specs.declared.areas.Place.{Place}
use Rattle.grids.specs.Grids as base
use Rattle.cur_drawing.specs.declared.puts.Put.{Put}
use Rattle.cur_drawing.specs.declared.refusals.Refusal.{Refusal}
use Rattle.cur_drawing.specs.declared.windows.Window.{Window}
use Rattle.cur_drawing.specs.Cells.{Content, space, restyled, unless_space, copied_cell}
use Rattle.cur_drawing.specs.Grids.{Grid, Fits, is_in, line_at, cell_at, copied, combined, taken, overlaid, moved_to}
use Rattle.cur_drawing.specs.Windows.{cells_of, content, as_is}
use Rattle.cur_drawing.specs.Calls as calls
use Rattle.cur_drawing.specs.Calls.{Canvas, CanvasStep, IsCanvas, canvas, place, if_accepted, checked_cell, inserted, deleted, lines_up, lines_down}
use Rattle.cur_drawing.specs.Laws.{LeavesCells, cell_of, cell_inserted, cell_deleted, line_inserted, line_deleted}
use Rattle.cur_drawing.proofs.DrawingFacts.{cell_at-drawn, cell_at-drawn_in}
use Rattle.cur_drawing.proofs.Scrolls.{both_off, copied_there, filled_there, line_long, up_by_place, down_by_place}

-- ---- one line
on_other_row : (b : Bool) (x y : Content) → b ≡ false → y ≡ (if b then x else y)
on_other_row b x y e = rw (e) refl

first_of_three : (a b c : Bool) (x y z w : Content) → a ≡ true → b ≡ true → x ≡ (if a then (if b then x else if c then y else z) else w)
first_of_three a b c x y z w e h = rw (e, h) refl

second_of_three : (a b c : Bool) (x y z w : Content) → a ≡ true → b ≡ false → c ≡ true → y ≡ (if a then (if b then x else if c then y else z) else w)
second_of_three a b c x y z w e h k = rw (e, h, k) refl

third_of_three : (a b c : Bool) (x y z w : Content) → a ≡ true → b ≡ false → c ≡ false → z ≡ (if a then (if b then x else if c then y else z) else w)
third_of_three a b c x y z w e h k = rw (e, h, k) refl

is_lt : (m n : ℕ) → m < n → nat_lt m n ≡ true
is_lt m n lt = grind (arith, nat_tests)

is_not_lt : (m n : ℕ) → n ≤ m → nat_lt m n ≡ false
is_not_lt m n le = grind (arith, nat_tests)

is_eq : (m n : ℕ) → m ≡ n → (m == n) ≡ true
is_eq m n e = grind (arith, nat_tests)

is_not_eq : (m n : ℕ) → m ≢ n → (m == n) ≡ false
is_not_eq m n e = grind (arith, nat_tests)

cells_on : (w : Window) (row from n y x : ℕ) → y ≡ row → from ≤ x → x < from + n → is_in (cells_of w row from n) (w.area.top + y) (w.area.left + x) ≡ true
cells_on w row from n y x e ge lt = grind (arith, nat_tests)

cells_elsewhere : (w : Window) (row from n y x : ℕ) → y ≢ row → is_in (cells_of w row from n) (w.area.top + y) (w.area.left + x) ≡ false
cells_elsewhere w row from n y x e = grind (arith, nat_tests)

cells_right : (w : Window) (row from n y x : ℕ) → x < from → is_in (cells_of w row from n) (w.area.top + y) (w.area.left + x) ≡ false
cells_right w row from n y x lt = grind (arith, nat_tests)

cells_left : (w : Window) (row from n y x : ℕ) → from + n ≤ x → is_in (cells_of w row from n) (w.area.top + y) (w.area.left + x) ≡ false
cells_left w row from n y x le = grind (arith, nat_tests)

inserted_by_place : (g : Grid) (w : Window) (c : Content) (y x : ℕ) → IsCanvas g w → y < w.area.rows → x < w.area.cols → cell_of w (inserted c w g) y x ≡ cell_inserted w c g y x
inserted_by_place g w c y x is lt lt2 =
    let n : ℕ = w.area.cols - (w.col + 1) in
    let A : Area = cells_of w w.row w.col 1 in let B : Area = cells_of w w.row (w.col + 1) n in
    let from : Place = place (w.area.top + w.row) (w.area.left + w.col) in
    let i : ℕ = w.area.top + y in let j : ℕ = w.area.left + x in
    let near : j < length (line_at g i) = line_long g w y x is lt lt2 in
    let here : Content = cell_of w g y x in let moved : Content = cell_of w g y (x - 1) in
    elim (cases_eq y w.row) [
      | inr other ↦ both_off A B from c g i j (cells_elsewhere w w.row w.col 1 y x other) (cells_elsewhere w w.row (w.col + 1) n y x other)
          ∙ on_other_row (y == w.row) _ here (is_not_eq y w.row other)
      | inl row ↦ elim (cases_lt x w.col) [
        | inl before ↦ both_off A B from c g i j (cells_right w w.row w.col 1 y x before) (cells_right w w.row (w.col + 1) n y x (omega arith))
            ∙ first_of_three (y == w.row) (nat_lt x w.col) (x == w.col) here c moved here (is_eq y w.row row) (is_lt x w.col before)
        | inr from_cursor ↦ elim (cases_eq x w.col) [
          | inl at ↦ filled_there A B from c g i j (cells_on w w.row w.col 1 y x row (omega (arith, at)) (omega (arith, at))) near
              ∙ second_of_three (y == w.row) (nat_lt x w.col) (x == w.col) here c moved here (is_eq y w.row row) (is_not_lt x w.col from_cursor) (is_eq x w.col at)
          | inr past ↦ copied_there A B from c g i j i (w.area.left + (x - 1)) (cells_left w w.row w.col 1 y x (omega (arith, past))) (cells_on w w.row (w.col + 1) n y x row (omega (arith, past)) (omega (arith, past))) near
              (omega (arith, row)) (omega (arith, past)) (line_long g w y (x - 1) is lt (omega (arith, past)))
              ∙ third_of_three (y == w.row) (nat_lt x w.col) (x == w.col) here c moved here (is_eq y w.row row) (is_not_lt x w.col from_cursor) (is_not_eq x w.col past)
        ]
      ]
    ]

deleted_by_place : (g : Grid) (w : Window) (y x : ℕ) → IsCanvas g w → y < w.area.rows → x < w.area.cols → cell_of w (deleted w g) y x ≡ cell_deleted w g y x
deleted_by_place g w y x is lt lt2 =
    let n : ℕ = w.area.cols - (w.col + 1) in
    let A : Area = cells_of w w.row (w.area.cols - 1) 1 in let B : Area = cells_of w w.row w.col n in
    let from : Place = place (w.area.top + w.row) (w.area.left + (w.col + 1)) in
    let i : ℕ = w.area.top + y in let j : ℕ = w.area.left + x in
    let near : j < length (line_at g i) = line_long g w y x is lt lt2 in
    let col = is.window.col in
    let here : Content = cell_of w g y x in let moved : Content = cell_of w g y (x + 1) in
    elim (cases_eq y w.row) [
      | inr other ↦ both_off A B from w.background g i j (cells_elsewhere w w.row (w.area.cols - 1) 1 y x other) (cells_elsewhere w w.row w.col n y x other)
          ∙ on_other_row (y == w.row) _ here (is_not_eq y w.row other)
      | inl row ↦ elim (cases_lt x w.col) [
        | inl before ↦ both_off A B from w.background g i j (cells_right w w.row (w.area.cols - 1) 1 y x (omega arith)) (cells_right w w.row w.col n y x before)
            ∙ first_of_three (y == w.row) (nat_lt x w.col) (nat_lt (x + 1) w.area.cols) here moved w.background here (is_eq y w.row row) (is_lt x w.col before)
        | inr from_cursor ↦ elim (cases_lt (x + 1) w.area.cols) [
          | inl inner ↦ copied_there A B from w.background g i j i (w.area.left + (x + 1)) (cells_right w w.row (w.area.cols - 1) 1 y x (omega arith)) (cells_on w w.row w.col n y x row from_cursor (omega arith)) near
              (omega (arith, row)) (omega arith) (line_long g w y (x + 1) is lt inner)
              ∙ second_of_three (y == w.row) (nat_lt x w.col) (nat_lt (x + 1) w.area.cols) here moved w.background here (is_eq y w.row row) (is_not_lt x w.col from_cursor) (is_lt (x + 1) w.area.cols inner)
          | inr last ↦ filled_there A B from w.background g i j (cells_on w w.row (w.area.cols - 1) 1 y x row (omega arith) (omega arith)) near
              ∙ third_of_three (y == w.row) (nat_lt x w.col) (nat_lt (x + 1) w.area.cols) here moved w.background here (is_eq y w.row row) (is_not_lt x w.col from_cursor) (is_not_lt (x + 1) w.area.cols last)
        ]
      ]
    ]

-- ---- lines: a scroll of the region from the cursor's line to the last one
abbrev below_cursor : Window → Window
below_cursor w = record w { region_top = w.row; region_bottom = w.area.rows - 1 }

legal_below : (g : Grid) (w : Window) → IsCanvas g w → IsCanvas g (below_cursor w)
legal_below g w is = record {
  window = record { row = is.window.row; col = is.window.col; region = omega (arith, is.window.row); bottom = omega (arith, is.window.row); pair = is.window.pair; height = is.window.height; width = is.window.width };
  fits = is.fits;
}

down_choice : (row rows y : ℕ) (moved new here : Content) → y < rows → (if nat_le row y && nat_le y (rows - 1) then (if nat_le (row + 1) y then moved else new) else here) ≡ (if nat_lt y row then here else if y == row then new else moved)
down_choice row rows y moved new here lt = grind (arith, nat_tests)

up_choice : (row rows y : ℕ) (moved new here : Content) → y < rows → (if nat_le row y && nat_le y (rows - 1) then (if nat_le (y + 1) (rows - 1) then moved else new) else here) ≡ (if nat_lt y row then here else if nat_lt (y + 1) rows then moved else new)
up_choice row rows y moved new here lt = grind (arith, nat_tests)

line_inserted_by_place : (g : Grid) (w : Window) (y x : ℕ) → IsCanvas g w → y < w.area.rows → x < w.area.cols → cell_of w (lines_down w w.row (w.area.rows - w.row) 1 g) y x ≡ line_inserted w g y x
line_inserted_by_place g w y x is lt lt2 =
    let height : w.area.rows - w.row ≡ w.area.rows - 1 + 1 - w.row = omega (arith, is.window.row) in
    ap (λ (n : ℕ). cell_of w (lines_down w w.row n 1 g) y x) height
    ∙ down_by_place g (below_cursor w) 1 y x (legal_below g w is) lt lt2
    ∙ down_choice w.row w.area.rows y (cell_of w g (y - 1) x) w.background (cell_of w g y x) lt

line_deleted_by_place : (g : Grid) (w : Window) (y x : ℕ) → IsCanvas g w → y < w.area.rows → x < w.area.cols → cell_of w (lines_up w w.row (w.area.rows - w.row) 1 g) y x ≡ line_deleted w g y x
line_deleted_by_place g w y x is lt lt2 =
    let height : w.area.rows - w.row ≡ w.area.rows - 1 + 1 - w.row = omega (arith, is.window.row) in
    ap (λ (n : ℕ). cell_of w (lines_up w w.row n 1 g) y x) height
    ∙ up_by_place g (below_cursor w) 1 y x (legal_below g w is) lt lt2
    ∙ up_choice w.row w.area.rows y (cell_of w g (y + 1) x) w.background (cell_of w g y x) lt

-- ---- the calls
accepted : (r : Result (Unit {0}) Refusal) (s : Canvas) (rest : CanvasStep) → (if_accepted r s rest).1 ≡ Ok tt → if_accepted r s rest ≡ rest
accepted (Ok u) s rest h = refl
accepted (Err e) s rest h = absurd cc

pub insert_char : (p : Put) → LeavesCells (calls.insert_char p) (λ w g y x. cell_inserted w (content w p) g y x)
insert_char p g w y x is lt lt2 ok =
    ap (λ (t : CanvasStep). cell_of w t.0.grid y x) (accepted (checked_cell p) (canvas g w) (calls.done (inserted (content w p) w g) w) ok)
    ∙ inserted_by_place g w (content w p) y x is lt lt2

pub delete_char : LeavesCells calls.delete_char (λ w g y x. cell_deleted w g y x)
delete_char g w y x is lt lt2 ok = deleted_by_place g w y x is lt lt2

pub insert_line : LeavesCells calls.insert_line (λ w g y x. line_inserted w g y x)
insert_line g w y x is lt lt2 ok = line_inserted_by_place g w y x is lt lt2

pub delete_line : LeavesCells calls.delete_line (λ w g y x. line_deleted w g y x)
delete_line g w y x is lt lt2 ok = line_deleted_by_place g w y x is lt lt2

window_on : (a : Area) (y x : ℕ) → y < a.rows → x < a.cols → is_in a (a.top + y) (a.left + x) ≡ true
window_on a y x lt lt2 = grind (arith, nat_tests)

pub change_background : (p : Put) → LeavesCells (calls.change_background p) (λ w g y x. restyled w.background (as_is p) (cell_of w g y x))
change_background p g w y x is lt lt2 ok =
    let new : Content = as_is p in
    ap (λ (t : CanvasStep). cell_of w t.0.grid y x) (accepted (checked_cell p) (canvas g w) _ ok)
    ∙ cell_at-drawn_in w.area (λ i j old. restyled w.background new old) g (w.area.top + y) (w.area.left + x) (window_on w.area y x lt lt2) (line_long g w y x is lt lt2)

-- ---- copies between grids

-- the cell that is read is in its grid
pub read_there : (b : Bool) (g : Grid) (row col : ℕ) (old : Content) → (b ≡ true → col < length (line_at g row)) → (if b then base.cell_at old g row col else old) ≡ (if b then cell_at g row col else old)
read_there true g row col old there = get_or_default (line_at g row) col old space (there refl)
read_there false g row col old there = refl

unless_there : (b : Bool) (g : Grid) (row col : ℕ) (old : Content) → (b ≡ true → col < length (line_at g row)) →
    (if b then unless_space old (base.cell_at old g row col) else old) ≡ (if b then unless_space old (cell_at g row col) else old)
unless_there true g row col old there = ap (unless_space old) (get_or_default (line_at g row) col old space (there refl))
unless_there false g row col old there = refl

pub and_left : (p q : Bool) → (p && q) ≡ true → p ≡ true
and_left true q h = refl
and_left false q h = absurd cc

pub and_right : (p q : Bool) → (p && q) ≡ true → q ≡ true
and_right true q h = h
and_right false q h = absurd cc

source_there : (a : Area) (from : Place) (g : Grid) (i j : ℕ) → Fits (moved_to a from) g → is_in a i j ≡ true → from.col + (j - a.left) < length (line_at g (from.row + (i - a.top)))
source_there a from g i j fits on =
    let low : (nat_le a.top i && nat_lt i (a.top + a.rows)) ≡ true = and_left (nat_le a.top i && nat_lt i (a.top + a.rows)) (nat_le a.left j && nat_lt j (a.left + a.cols)) on in
    let near : (nat_le a.left j && nat_lt j (a.left + a.cols)) ≡ true = and_right (nat_le a.top i && nat_lt i (a.top + a.rows)) (nat_le a.left j && nat_lt j (a.left + a.cols)) on in
    let row : from.row + (i - a.top) < from.row + a.rows = grind (arith, nat_tests) in
    let col : from.col + (j - a.left) < from.col + a.cols = grind (arith, nat_tests) in
    let rows = fits.rows in
    let line = fits.cols (from.row + (i - a.top)) (omega arith) in omega arith

pub copied_by_place : (a : Area) (from : Place) (g old : Grid) (i j : ℕ) → Fits (moved_to a from) g → j < length (line_at old i) →
    cell_at (copied a from g old) i j ≡ (if is_in a i j then cell_at g (from.row + (i - a.top)) (from.col + (j - a.left)) else cell_at old i j)
copied_by_place a from g old i j fits near =
    cell_at-drawn (λ i j old. if is_in a i j then taken a from g i j old else old) old i j near
    ∙ read_there (is_in a i j) g (from.row + (i - a.top)) (from.col + (j - a.left)) (cell_at old i j) (source_there a from g i j fits)

pub overlaid_by_place : (a : Area) (from : Place) (skip : Bool) (g old : Grid) (i j : ℕ) → Fits (moved_to a from) g → j < length (line_at old i) →
    cell_at (overlaid a from skip g old) i j ≡ (if is_in a i j then copied_cell skip (cell_at old i j) (cell_at g (from.row + (i - a.top)) (from.col + (j - a.left))) else cell_at old i j)
overlaid_by_place a from true g old i j fits near =
    cell_at-drawn (λ i j old. if is_in a i j then combined a from unless_space g i j old else old) old i j near
    ∙ unless_there (is_in a i j) g (from.row + (i - a.top)) (from.col + (j - a.left)) (cell_at old i j) (source_there a from g i j fits)
overlaid_by_place a from false g old i j fits near = copied_by_place a from g old i j fits near
