-- A shown part, place by place.
use Rattle.std.proofs.Common.{◌≡◌, ℕ, ◌+◌, ◌-◌, ◌<◌, ◌≤◌, ◌&&◌, nat_le, nat_lt, Bool, true, false, length, refl, ap, ◌∙◌, arith, if◌then◌else◌}
use Rattle.std.proofs.lemmas.Bool.Decides.{nat_tests}
use Rattle.grids.specs.declared.areas.Area.{Area}
use Rattle.std.proofs.lemmas.List.{get_or_default}
use Rattle.grids.specs.Grids as base
use Rattle.cur_drawing.specs.Cells.{Content, space}
use Rattle.cur_drawing.specs.Grids.{Grid, line_at, cell_at, copied, is_in, taken}
use Rattle.cur_drawing.specs.Calls.{place}
use Rattle.cur_drawing.proofs.DrawingFacts.{cell_at-drawn}
use Rattle.cur_windows.specs.Laws.{is_between}

abbrev pub area_of : ℕ → ℕ → ℕ → ℕ → Area
area_of top left rows cols = record { top = top; left = left; rows = rows; cols = cols }

-- the places up to a last one, as a number of places from the first one on
same_place : (first last i : ℕ) → first ≤ last → (nat_le first i && nat_lt i (first + (last - first + 1))) ≡ is_between first last i
same_place first last i h = grind (arith, nat_tests)

-- the cell that is read exists
read_there : (b : Bool) (g : Grid) (row col : ℕ) (old : Content) → (b ≡ true → col < length (line_at g row)) → (if b then base.cell_at old g row col else old) ≡ (if b then cell_at g row col else old)
read_there true g row col old there = get_or_default (line_at g row) col old space (there refl)
read_there false g row col old there = refl

pub cell_at-shown : (g old : Grid) (down across top left bottom right y x i j : ℕ) → top ≤ bottom → left ≤ right → j < length (line_at old i) →
    ((is_between top bottom i && is_between left right j) ≡ true → across + (x + (j - left)) < length (line_at g (down + (y + (i - top))))) →
    cell_at (copied (area_of top left (bottom - top + 1) (right - left + 1)) (place (down + y) (across + x)) g old) i j
    ≡ (if is_between top bottom i && is_between left right j then cell_at g (down + (y + (i - top))) (across + (x + (j - left))) else cell_at old i j)
cell_at-shown g old down across top left bottom right y x i j high wide near there =
    let a : Area = area_of top left (bottom - top + 1) (right - left + 1) in
    let f : ℕ → ℕ → Content → Content = taken a (place (down + y) (across + x)) g in
    let row : (down + y) + (i - top) ≡ down + (y + (i - top)) = omega arith in
    let col : (across + x) + (j - left) ≡ across + (x + (j - left)) = omega arith in
    cell_at-drawn (λ i j old. if is_in a i j then f i j old else old) old i j near
    ∙ ap (λ (b : Bool). if b && (nat_le left j && nat_lt j (left + (right - left + 1))) then f i j (cell_at old i j) else cell_at old i j) (same_place top bottom i high)
    ∙ ap (λ (b : Bool). if is_between top bottom i && b then f i j (cell_at old i j) else cell_at old i j) (same_place left right j wide)
    ∙ ap (λ (m : ℕ). if is_between top bottom i && is_between left right j then base.cell_at (cell_at old i j) g m ((across + x) + (j - left)) else cell_at old i j) row
    ∙ ap (λ (m : ℕ). if is_between top bottom i && is_between left right j then base.cell_at (cell_at old i j) g (down + (y + (i - top))) m else cell_at old i j) col
    ∙ read_there (is_between top bottom i && is_between left right j) g (down + (y + (i - top))) (across + (x + (j - left))) (cell_at old i j) there
