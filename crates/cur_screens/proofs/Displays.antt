-- A copy to the virtual screen leaves a screen.
use Rattle.std.proofs.Common.{◌≡◌, ℕ, ◌<◌, [], List, Option, Some, Bool, false, IfSome, replicate, inl, inr, length, get_or, arith, ap, sym, subst, ◌∙◌}
use Rattle.std.proofs.lemmas.Bool.{cases_lt}
use Rattle.std.proofs.lemmas.List.{get_or_past, get_or-replicate, length-replicate}
use Rattle.grids.specs.declared.areas.Place.{Place}
use Rattle.cur_drawing.specs.Grids.{Grid, blank, shape_of}
use Rattle.cur_drawing.proofs.DrawingFacts.{shape_of-line, shape_of-length}
use Rattle.cur_screens.specs.VirtualScreen.{AreDefault, Screen, IsScreen, default_colors}
use Rattle.cur_drawing.specs.Calls.{place}
use Rattle.cur_drawing.specs.Cells.{pair_count, space}
use Rattle.cur_screens.specs.declared.virtual_screen.Colors.{Colors}

pub screen_kept : (v now : Screen) (g : Grid) (p : Option Place) (clears : Bool) → v ≡ now → IsScreen v → shape_of g ≡ shape_of v.grid → IfSome p (λ q. (q.row < now.rows) × (q.col < now.cols)) →
    IsScreen (record v { grid = g; cursor = p; clearok = clears })
screen_kept v now g p clears e is shape there =
    let len : length g ≡ length v.grid = shape_of-length v.grid g shape in
    let rows : now.rows ≡ v.rows = ap (λ (x : Screen). x.rows) (sym e) in
    let cols : now.cols ≡ v.cols = ap (λ (x : Screen). x.cols) (sym e) in
    record {
      lines = len ∙ is.lines;
      columns = λ i lt. shape_of-line v.grid g i shape ∙ is.columns i (omega arith);
      cursor = subst (λ (n : ℕ). IfSome p (λ q. (q.row < v.rows) × (q.col < n))) cols (subst (λ (n : ℕ). IfSome p (λ q. (q.row < n) × (q.col < now.cols))) rows there);
      pairs = is.pairs;
    }

-- at first all pairs are default on default
pub never_set : AreDefault 0 (replicate pair_count default_colors)
never_set = record { within = omega arith; colors = λ p le. at p }
  where
    at : (p : ℕ) → get_or (replicate pair_count default_colors) p default_colors ≡ default_colors
    at p = elim (cases_lt p 64) [
      | inl near ↦ get_or-replicate 64 p default_colors default_colors near
      | inr past ↦ get_or_past (replicate 64 default_colors) p default_colors (omega (arith, past, length-replicate 64 default_colors))
    ]

pub first_screen : (rows cols : ℕ) (g : Grid) (pairs : List Colors) → 0 < rows → 0 < cols → g ≡ blank rows cols → pairs ≡ replicate pair_count default_colors →
    IsScreen (record { rows = rows; cols = cols; grid = g; cursor = Some (place 0 0); clearok = false; pairs = pairs })
first_screen rows cols g pairs some wide e p =
    let high : length g ≡ rows = ap length e ∙ length-replicate rows (replicate cols space) in record {
      lines = high;
      columns = λ i lt. ap (λ (x : Grid). length (get_or x i [])) e ∙ ap length (get_or-replicate rows i (replicate cols space) [] (omega (arith, high))) ∙ length-replicate cols space;
      cursor = (some, wide);
      pairs = ap length p ∙ length-replicate pair_count default_colors;
    }
