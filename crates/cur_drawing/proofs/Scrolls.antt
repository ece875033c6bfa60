-- The cells after a scroll, place by place.
use Rattle.std.proofs.Common.{◌≡◌, ℕ, ◌+◌, ◌-◌, ◌<◌, ◌≤◌, nat_le, min, Bool, true, false, length, refl, ap, ◌∙◌, inl, inr, arith, if◌then◌else◌}
use Rattle.std.proofs.lemmas.Bool.{cases_lt}
use Rattle.std.proofs.lemmas.Bool.Decides.{nat_tests}
use Rattle.grids.specs.declared.areas.Area.{Area}
use Rattle.grids.specs.declared.areas.Place.{Place}
use Rattle.cur_drawing.specs.declared.windows.Window.{Window}
use Rattle.std.proofs.lemmas.List.{get_or_default}
use Rattle.grids.specs.Grids as base
use Rattle.cur_drawing.specs.Cells.{Content, space}
use Rattle.cur_drawing.specs.Grids.{Grid, is_in, line_at, cell_at, filled, copied, taken, shape_of}
use Rattle.cur_drawing.specs.Windows.{lines_of}
use Rattle.cur_drawing.specs.Calls.{IsCanvas, place, lines_up, lines_down, region_height}
use Rattle.cur_drawing.specs.Laws.{cell_of, in_region, went_up, went_down}
use Rattle.cur_drawing.proofs.DrawingFacts.{shape_of-drawn, shape_of-line, cell_at-drawn_in, cell_at-drawn_in_off}

-- a place in a window, and `n` of its lines
lines_on : (w : Window) (from n y x : ℕ) → from ≤ y → y < from + n → x < w.area.cols → is_in (lines_of w from n) (w.area.top + y) (w.area.left + x) ≡ true
lines_on w from n y x ge lt near = grind (arith, nat_tests)

lines_above : (w : Window) (from n y x : ℕ) → y < from → is_in (lines_of w from n) (w.area.top + y) (w.area.left + x) ≡ false
lines_above w from n y x lt = grind (arith, nat_tests)

lines_below : (w : Window) (from n y x : ℕ) → from + n ≤ y → is_in (lines_of w from n) (w.area.top + y) (w.area.left + x) ≡ false
lines_below w from n y x le = grind (arith, nat_tests)

inside_region : (w : Window) (y : ℕ) → w.region_top ≤ y → y ≤ w.region_bottom → in_region w y ≡ true
inside_region w y ge le = grind (arith, nat_tests)

above_region : (w : Window) (y : ℕ) → y < w.region_top → in_region w y ≡ false
above_region w y lt = grind (arith, nat_tests)

below_region : (w : Window) (y : ℕ) → w.region_bottom < y → in_region w y ≡ false
below_region w y lt = grind (arith, nat_tests)

le_true : (m n : ℕ) → m ≤ n → nat_le m n ≡ true
le_true m n le = grind (arith, nat_tests)

le_false : (m n : ℕ) → n < m → nat_le m n ≡ false
le_false m n lt = grind (arith, nat_tests)

choice : (b c : Bool) (x y z : Content) → b ≡ true → c ≡ true → x ≡ (if b then (if c then x else y) else z)
choice b c x y z e h = rw (e, h) refl

choice_second : (b c : Bool) (x y z : Content) → b ≡ true → c ≡ false → y ≡ (if b then (if c then x else y) else z)
choice_second b c x y z e h = rw (e, h) refl

choice_third : (b c : Bool) (x y z : Content) → b ≡ false → z ≡ (if b then (if c then x else y) else z)
choice_third b c x y z e = rw (e) refl

-- a rectangle was copied, and another one filled
pub both_off : (a b : Area) (from : Place) (c : Content) (g : Grid) (i j : ℕ) → is_in a i j ≡ false → is_in b i j ≡ false → cell_at (filled a c (copied b from g g)) i j ≡ cell_at g i j
both_off a b from c g i j one two =
    cell_at-drawn_in_off a (λ i j old. c) (copied b from g g) i j one ∙ cell_at-drawn_in_off b (taken b from g) g i j two

pub copied_there : (a b : Area) (from : Place) (c : Content) (g : Grid) (i j row col : ℕ) → is_in a i j ≡ false → is_in b i j ≡ true → j < length (line_at g i) → from.row + (i - b.top) ≡ row → from.col + (j - b.left) ≡ col → col < length (line_at g row) →
    cell_at (filled a c (copied b from g g)) i j ≡ cell_at g row col
copied_there a b from c g i j row col off on near r h known =
    cell_at-drawn_in_off a (λ i j old. c) (copied b from g g) i j off ∙ cell_at-drawn_in b (taken b from g) g i j on near
    ∙ ap (λ (k : ℕ). base.cell_at (cell_at g i j) g k (from.col + (j - b.left))) r ∙ ap (λ (k : ℕ). base.cell_at (cell_at g i j) g row k) h
    ∙ get_or_default (line_at g row) col (cell_at g i j) space known

pub filled_there : (a b : Area) (from : Place) (c : Content) (g : Grid) (i j : ℕ) → is_in a i j ≡ true → j < length (line_at g i) → cell_at (filled a c (copied b from g g)) i j ≡ c
filled_there a b from c g i j on near =
    let h : Grid = copied b from g g in
    let shape : shape_of h ≡ shape_of g = shape_of-drawn (λ i j old. if is_in b i j then taken b from g i j old else old) g in
    cell_at-drawn_in a (λ i j old. c) h i j on (let line : length (line_at h i) ≡ length (line_at g i) = shape_of-line g h i shape in omega arith)

pub line_long : (g : Grid) (w : Window) (y x : ℕ) → IsCanvas g w → y < w.area.rows → x < w.area.cols → w.area.left + x < length (line_at g (w.area.top + y))
line_long g w y x is lt lt2 = let rows = is.fits.rows in let cols = is.fits.cols (w.area.top + y) (omega arith) in omega arith

pub up_by_place : (g : Grid) (w : Window) (n y x : ℕ) → IsCanvas g w → y < w.area.rows → x < w.area.cols → cell_of w (lines_up w w.region_top (region_height w) n g) y x ≡ went_up w n g y x
up_by_place g w n y x is lt lt2 =
    let t : ℕ = w.region_top in let b : ℕ = w.region_bottom in let high : ℕ = region_height w in let m : ℕ = min n high in
    let region = is.window.region in
    let i : ℕ = w.area.top + y in let j : ℕ = w.area.left + x in
    let A : Area = lines_of w (t + (high - m)) m in let B : Area = lines_of w t (high - m) in
    let from : Place = place (w.area.top + (t + m)) w.area.left in
    let near : j < length (line_at g i) = line_long g w y x is lt lt2 in
    let moved : Content = cell_of w g (y + n) x in let here : Content = cell_of w g y x in
    elim (cases_lt y t) [
      | inl above ↦ both_off A B from w.background g i j (lines_above w (t + (high - m)) m y x (omega arith)) (lines_above w t (high - m) y x above)
          ∙ choice_third (in_region w y) (nat_le (y + n) b) moved w.background here (above_region w y above)
      | inr ge ↦ elim (cases_lt b y) [
        | inl below ↦ both_off A B from w.background g i j (lines_below w (t + (high - m)) m y x (omega arith)) (lines_below w t (high - m) y x (omega arith))
            ∙ choice_third (in_region w y) (nat_le (y + n) b) moved w.background here (below_region w y below)
        | inr le ↦ elim (cases_lt b (y + n)) [
          | inl gone ↦ filled_there A B from w.background g i j (lines_on w (t + (high - m)) m y x (omega arith) (omega arith) lt2) near
              ∙ choice_second (in_region w y) (nat_le (y + n) b) moved w.background here (inside_region w y ge le) (le_false (y + n) b gone)
          | inr stays ↦ copied_there A B from w.background g i j (w.area.top + (y + n)) (w.area.left + x) (lines_above w (t + (high - m)) m y x (omega arith)) (lines_on w t (high - m) y x ge (omega arith) lt2) near (omega arith) (omega arith) (line_long g w (y + n) x is (omega arith) lt2)
              ∙ choice (in_region w y) (nat_le (y + n) b) moved w.background here (inside_region w y ge le) (le_true (y + n) b stays)
        ]
      ]
    ]

pub down_by_place : (g : Grid) (w : Window) (n y x : ℕ) → IsCanvas g w → y < w.area.rows → x < w.area.cols → cell_of w (lines_down w w.region_top (region_height w) n g) y x ≡ went_down w n g y x
down_by_place g w n y x is lt lt2 =
    let t : ℕ = w.region_top in let b : ℕ = w.region_bottom in let high : ℕ = region_height w in let m : ℕ = min n high in
    let region = is.window.region in
    let i : ℕ = w.area.top + y in let j : ℕ = w.area.left + x in
    let A : Area = lines_of w t m in let B : Area = lines_of w (t + m) (high - m) in
    let from : Place = place (w.area.top + t) w.area.left in
    let near : j < length (line_at g i) = line_long g w y x is lt lt2 in
    let moved : Content = cell_of w g (y - n) x in let here : Content = cell_of w g y x in
    elim (cases_lt y t) [
      | inl above ↦ both_off A B from w.background g i j (lines_above w t m y x above) (lines_above w (t + m) (high - m) y x (omega arith))
          ∙ choice_third (in_region w y) (nat_le (t + n) y) moved w.background here (above_region w y above)
      | inr ge ↦ elim (cases_lt b y) [
        | inl below ↦ both_off A B from w.background g i j (lines_below w t m y x (omega arith)) (lines_below w (t + m) (high - m) y x (omega arith))
            ∙ choice_third (in_region w y) (nat_le (t + n) y) moved w.background here (below_region w y below)
        | inr le ↦ elim (cases_lt y (t + n)) [
          | inl new ↦ filled_there A B from w.background g i j (lines_on w t m y x ge (omega arith) lt2) near
              ∙ choice_second (in_region w y) (nat_le (t + n) y) moved w.background here (inside_region w y ge le) (le_false (t + n) y new)
          | inr old ↦ copied_there A B from w.background g i j (w.area.top + (y - n)) (w.area.left + x) (lines_below w t m y x (omega arith)) (lines_on w (t + m) (high - m) y x (omega arith) (omega arith) lt2) near (omega arith) (omega arith) (line_long g w (y - n) x is (omega arith) lt2)
              ∙ choice (in_region w y) (nat_le (t + n) y) moved w.background here (inside_region w y ge le) (le_true (t + n) y old)
        ]
      ]
    ]
