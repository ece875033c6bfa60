-- A screen in the reset state is legal.
use Rattle.std.proofs.Common.{◌≡◌, ◌-◌, ℕ, zero, suc, List, [], length, refl, ap, ◌∙◌, arith}
use Rattle.std.specs.Prelude.{replicate, slice_index_or}
use Rattle.std.proofs.lemmas.List.{get_or-replicate, length-replicate}
use Rattle.vt_screen.specs.Look.{Look, IsPrinted, space}
use Rattle.vt_screen.specs.Size.{IsSize}
use Rattle.vt_screen.specs.Grid.{look_at, uniform}
use Rattle.vt_screen.specs.Screen.{Screen, IsScreen}

same_cell : (n j : ℕ) → slice_index_or (replicate n space) j space ≡ space
same_cell zero j = refl
same_cell (suc n) zero = refl
same_cell (suc n) (suc j) = same_cell n j

blank_at : (rows cols i j : ℕ) → look_at (uniform rows cols space) i j ≡ space
blank_at zero cols i j = refl
blank_at (suc rows) cols zero j = same_cell cols j
blank_at (suc rows) cols (suc i) j = blank_at rows cols i j

printed : (l : Look) → l ≡ space → IsPrinted l.byte
printed l e = let b : l.byte ≡ 32 = ap (λ (x : Look). x.byte) e in (omega arith, omega arith)

pub begun_is_screen : (s : Screen) → IsSize s.rows s.cols → s.grid ≡ uniform s.rows s.cols space → s.row ≡ 0 → s.col ≡ 0 → s.top ≡ 0 → s.bottom ≡ s.rows - 1 → IsScreen s
begun_is_screen s size grid row col top bottom = record {
  size = size;
  lines = rw (grid) (length-replicate s.rows (replicate s.cols space));
  columns = λ i lt. rw (grid) (ap (λ (l : List Look). length l) (get_or-replicate s.rows i (replicate s.cols space) [] lt) ∙ length-replicate s.cols space);
  characters = λ i j. rw (grid) (printed (look_at (uniform s.rows s.cols space) i j) (blank_at s.rows s.cols i j));
  row = omega (arith, row, size);
  col = omega (arith, col, size);
  region = omega (arith, top, bottom, size);
  bottom = omega (arith, bottom, size);
}
