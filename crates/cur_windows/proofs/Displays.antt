-- The result of a copy to the virtual screen is a screen.
use Rattle.std.proofs.Common.{◌≡◌, ℕ, ◌<◌, [], get_or, arith, ap, ◌∙◌}
use Rattle.std.proofs.lemmas.List.{get_or_default}
use Rattle.cur_drawing.specs.Grids.{Grid}
use Rattle.cur_windows.specs.Desks.{State, IsDesk, grid_at}

-- the grid that is read
pub grid_read : (d now : State) (r : ℕ) (g : Grid) → d ≡ now → IsDesk d → r < 64 → g ≡ get_or d.grids r g → g ≡ grid_at now r
grid_read d now r g e is lt at = at ∙ get_or_default d.grids r g [] (omega (arith, is.grids)) ∙ ap (λ (x : State). grid_at x r) e
