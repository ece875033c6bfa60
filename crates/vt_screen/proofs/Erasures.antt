-- Erasures of parts of the screen.
use Rattle.std.proofs.Common.{◌≡◌, ℕ, ◌+◌, ◌<◌, ◌≤◌, ◌&&◌, ◌||◌, ◌==◌, nat_le, nat_lt, min, List, [], ◌∷◌, length, refl, ap, ◌∙◌, arith, if◌then◌else◌}
use Rattle.std.proofs.lemmas.Bool.Decides.{nat_tests}
use Rattle.vt_screen.specs.declared.functions.EraseExtent.TheVariants.{ToEnd, FromStart, Whole}
use Rattle.vt_screen.specs.Look.{Look, blank}
use Rattle.vt_screen.specs.Grid.{Grid, line_at, line_drawn, drawn}
use Rattle.vt_screen.specs.Screen.{Screen, IsScreen}
use Rattle.vt_screen.specs.Step.{part_erased, lines_erased, line_erased, display_erased, cells_erased}
use Rattle.grids.proofs.Drawings.{grid_is_drawn, length-drawn, line_at-drawn, drawn_drawn}

line_same_within : (n : ℕ) (f h : ℕ → Look → Look) (j : ℕ) (xs : List Look) → j + length xs ≤ n → ((k : ℕ) (x : Look) → k < n → f k x ≡ h k x) → line_drawn f j xs ≡ line_drawn h j xs
line_same_within n f h j [] fits e = refl
line_same_within n f h j (x ∷ xs) fits e =
    ap (λ (y : Look). y ∷ line_drawn f (j + 1) xs) (e j x (omega arith)) ∙ ap (λ (l : List Look). h j x ∷ l) (line_same_within n f h (j + 1) xs (omega arith) e)

-- two drawings of a screen are equal if they agree on the screen's places
pub drawn_same : (s : Screen) (f h : ℕ → ℕ → Look → Look) → IsScreen s → ((i j : ℕ) (x : Look) → i < s.rows → j < s.cols → f i j x ≡ h i j x) → drawn f s.grid ≡ drawn h s.grid
drawn_same s f h p e = grid_is_drawn h s.grid (drawn f s.grid) (length-drawn f s.grid)
    (λ i lt. let within : i < s.rows = omega (arith, p.lines) in
    line_at-drawn f s.grid i ∙ line_same_within s.cols (f i) (h i) 0 (line_at s.grid i) (omega (arith, p.columns i within)) (λ j x lj. e i j x within lj))

line_to_end : (row col cols i j : ℕ) (b x : Look) → j < cols → (if i == row then (if nat_le col j && nat_lt j cols then b else x) else x) ≡ (if (i == row) && nat_le col j then b else x)
line_to_end row col cols i j b x h = grind (arith, nat_tests)

line_from_start : (row col i j : ℕ) (b x : Look) → (if i == row then (if nat_le 0 j && nat_lt j (col + 1) then b else x) else x) ≡ (if (i == row) && nat_le j col then b else x)
line_from_start row col i j b x = grind (arith, nat_tests)

line_whole : (row cols i j : ℕ) (b x : Look) → j < cols → (if i == row then (if nat_le 0 j && nat_lt j cols then b else x) else x) ≡ (if i == row then b else x)
line_whole row cols i j b x h = grind (arith, nat_tests)

line_some : (row col n cols i j : ℕ) (b x : Look) → j < cols → (if i == row then (if nat_le col j && nat_lt j (min (col + n) cols) then b else x) else x) ≡ (if (i == row) && (nat_le col j && nat_lt j (col + n)) then b else x)
line_some row col n cols i j b x h = grind (arith, nat_tests)

display_to_end : (row col rows cols i j : ℕ) (b x : Look) → i < rows → j < cols
    → (if nat_le (row + 1) i && nat_lt i rows then b else (if i == row then (if nat_le col j && nat_lt j cols then b else x) else x)) ≡ (if nat_lt row i || ((i == row) && nat_le col j) then b else x)
display_to_end row col rows cols i j b x h k = grind (arith, nat_tests)

display_from_start : (row col i j : ℕ) (b x : Look)
    → (if nat_le 0 i && nat_lt i row then b else (if i == row then (if nat_le 0 j && nat_lt j (col + 1) then b else x) else x)) ≡ (if nat_lt i row || ((i == row) && nat_le j col) then b else x)
display_from_start row col i j b x = grind (arith, nat_tests)

display_whole : (rows i : ℕ) (b x : Look) → i < rows → (if nat_le 0 i && nat_lt i rows then b else x) ≡ b
display_whole rows i b x h = grind (arith, nat_tests)

with_grid : (s : Screen) (g h : Grid) → g ≡ h → record s { grid = g } ≡ record s { grid = h }
with_grid s g h e = ap (λ (x : Grid). record s { grid = x }) e

pub line_to_end_erased : (s : Screen) → IsScreen s → part_erased s.col s.cols s ≡ line_erased ToEnd s
line_to_end_erased s p = with_grid s _ _ (drawn_same s _ _ p (λ i j x li lj. line_to_end s.row s.col s.cols i j (blank s.rendition) x lj))

pub line_from_start_erased : (s : Screen) → IsScreen s → part_erased 0 (s.col + 1) s ≡ line_erased FromStart s
line_from_start_erased s p = with_grid s _ _ (drawn_same s _ _ p (λ i j x li lj. line_from_start s.row s.col i j (blank s.rendition) x))

pub line_whole_erased : (s : Screen) → IsScreen s → part_erased 0 s.cols s ≡ line_erased Whole s
line_whole_erased s p = with_grid s _ _ (drawn_same s _ _ p (λ i j x li lj. line_whole s.row s.cols i j (blank s.rendition) x lj))

pub some_cells_erased : (n : ℕ) (s : Screen) → IsScreen s → part_erased s.col (min (s.col + n) s.cols) s ≡ cells_erased n s
some_cells_erased n s p = with_grid s _ _ (drawn_same s _ _ p (λ i j x li lj. line_some s.row s.col n s.cols i j (blank s.rendition) x lj))

pub display_to_end_erased : (s : Screen) → IsScreen s → lines_erased (s.row + 1) s.rows (part_erased s.col s.cols s) ≡ display_erased ToEnd s
display_to_end_erased s p = with_grid s _ _ (drawn_drawn _ _ s.grid ∙ drawn_same s _ _ p (λ i j x li lj. display_to_end s.row s.col s.rows s.cols i j (blank s.rendition) x li lj))

pub display_from_start_erased : (s : Screen) → IsScreen s → lines_erased 0 s.row (part_erased 0 (s.col + 1) s) ≡ display_erased FromStart s
display_from_start_erased s p = with_grid s _ _ (drawn_drawn _ _ s.grid ∙ drawn_same s _ _ p (λ i j x li lj. display_from_start s.row s.col i j (blank s.rendition) x))

pub display_whole_erased : (s : Screen) → IsScreen s → lines_erased 0 s.rows s ≡ display_erased Whole s
display_whole_erased s p = with_grid s _ _ (drawn_same s _ _ p (λ i j x li lj. display_whole s.rows i (blank s.rendition) x li))
