-- After an effect that applies, the cursor is on the screen and the margins are legal.
use Rattle.std.proofs.Common.{ℕ, ◌<◌, ◌≤◌, arith, Option, None, Some}
use Rattle.vt_term.specs.Screen.{Screen, IsScreen}
use Rattle.vt_effects.specs.declared.effects.Move.{Move}
use Rattle.vt_effects.specs.declared.effects.Move.TheVariants as moves
use Rattle.vt_effects.specs.declared.effects.Region.{Region}
use Rattle.vt_effects.specs.declared.effects.Effect.{Effect}
use Rattle.vt_effects.specs.Effect.{moved, StaysIn, IsLegal, top_of, bottom_of, Applies}

pub stays : (m : Move) (x limit : ℕ) → x < limit → StaysIn m x limit → moved m x < limit
stays moves.Kept x limit lt h = lt
stays (moves.To k) x limit lt h = h
stays (moves.Back k) x limit lt h = omega arith
stays (moves.Forward k) x limit lt h = h

-- the cursor and the margins before and after the effect fit the display's numbers
pub record FitsIn (e : Effect) (s : Screen) : Type 0 where
  pub row_from : s.row ≤ 500
  pub col_from : s.col ≤ 500
  pub row : moved e.row s.row < s.rows
  pub col : moved e.col s.col < s.cols
  pub region : top_of e.margins s.top < bottom_of e.margins s.bottom
  pub bottom : bottom_of e.margins s.bottom < s.rows

legal : (m : Option Region) (s : Screen) → IsScreen s → IsLegal m s.rows → (top_of m s.top < bottom_of m s.bottom) × (bottom_of m s.bottom < s.rows)
legal None s h l = (h.region, h.bottom)
legal (Some r) s h l = l

pub fits_in : (e : Effect) (s : Screen) → IsScreen s → Applies e s → FitsIn e s
fits_in e s h a = record {
  row_from = omega (arith, h.row, h.size.1);
  col_from = omega (arith, h.col, h.size.3);
  row = stays e.row s.row s.rows h.row a.row;
  col = stays e.col s.col s.cols h.col a.col;
  region = (legal e.margins s h a.margins).0;
  bottom = (legal e.margins s h a.margins).1;
}
