-- The lines of a window's cells.
use Rattle.std.proofs.Common.{◌≡◌, ℕ, ◌+◌, ◌-◌, ◌<◌, ◌≤◌, List, [], length, take, drop, arith, ap, sym, subst, ◌∙◌}
use Rattle.std.proofs.lemmas.List.{get_or-map, get_or-take, get_or-drop, length-map, length-take-le, length-drop}
use Rattle.grids.specs.declared.areas.Area.{Area}
use Rattle.cur_drawing.specs.Cells.{Content}
use Rattle.cur_drawing.specs.Grids.{Grid, Fits, line_at}
use Rattle.cur_windows.specs.Views.{window_cells, cut}

lines_there : (a : Area) (g : Grid) → Fits a g → length (take a.rows (drop a.top g)) ≡ a.rows
lines_there a g fits = length-take-le a.rows (drop a.top g) (omega (arith, length-drop a.top g, fits.rows))

pub rows_seen : (a : Area) (g : Grid) → Fits a g → a.rows ≡ length (window_cells a g)
rows_seen a g fits = sym (length-map (take a.rows (drop a.top g)) (cut a) ∙ lines_there a g fits)

pub line_seen : (a : Area) (g : Grid) (y : ℕ) → Fits a g → y < length (window_cells a g) → cut a (line_at g (a.top + y)) ≡ line_at (window_cells a g) y
line_seen a g y fits lt =
    let small : y < a.rows = omega (arith, rows_seen a g fits) in
    sym (get_or-map (cut a) (take a.rows (drop a.top g)) y [] [] (omega (arith, lines_there a g fits))
    ∙ ap (cut a) (get_or-take a.rows (drop a.top g) y [] small ∙ get_or-drop a.top g y []))

pub cols_seen : (a : Area) (g : Grid) (y : ℕ) → Fits a g → y < length (window_cells a g) → length (line_at (window_cells a g) y) ≡ a.cols
cols_seen a g y fits lt =
    let small : y < a.rows = omega (arith, rows_seen a g fits) in
    let inside : a.left + a.cols ≤ length (line_at g (a.top + y)) = fits.cols (a.top + y) (omega (arith, fits.rows)) in
    sym (ap length (line_seen a g y fits lt)) ∙ length-take-le a.cols (drop a.left (line_at g (a.top + y))) (omega (arith, length-drop a.left (line_at g (a.top + y))))

pub cols_of : (a : Area) (g h : Grid) (y : ℕ) → window_cells a g ≡ h → Fits a g → y < length h → length (line_at h y) ≡ a.cols
cols_of a g h y e fits = subst (λ (x : Grid). y < length x → length (line_at x y) ≡ a.cols) e (cols_seen a g y fits)

pub row_of : (a : Area) (g h : Grid) (y : ℕ) (line : List Content) → window_cells a g ≡ h → Fits a g → y < length h → line ≡ line_at g (a.top + y) →
    take (a.left + a.cols - a.left) (drop a.left line) ≡ line_at h y
row_of a g h y line e fits lt at =
    let n : a.left + a.cols - a.left ≡ a.cols = omega arith in
    ap (λ (k : ℕ). take k (drop a.left line)) n ∙ ap (cut a) at ∙ subst (λ (x : Grid). y < length x → cut a (line_at g (a.top + y)) ≡ line_at x y) e (line_seen a g y fits) lt

pub height_of : (a : Area) (g h : Grid) → window_cells a g ≡ h → Fits a g → length h ≡ a.rows
height_of a g h e fits = ap length (sym e) ∙ sym (rows_seen a g fits)
