-- Each row that moves leads to its stated place, from every state that agrees with the belief.
use Rattle.std.proofs.Common.{◌≡◌, ℕ, ◌+◌, ◌-◌, ◌<◌, ◌≤◌, Bool, true, false, List, [], length, Option, Some, None, refl, ap, subst, ◌∙◌, arith}
use Rattle.vt_term.specs.Screen.{Screen, State, IsOfSize}
use Rattle.ti_rows.specs.declared.rows.Row.{Row}
use Rattle.ti_rows.specs.declared.rows.Row.TheVariants.{Cup, Home, Cr, Hpa, Vpa, Cub1, Cuf1, Cuu1, Cud1, Cub, Cuf, Cuu, Cud}
use Rattle.ti_rows.specs.Starts.{IsCalm}
use Rattle.ti_conforms.specs.Certified.{Table, IsChecked, or_nothing, limit_of}
use Rattle.cur_steps.specs.Beliefs.{Agrees, Turns, IsHere}
use Rattle.cur_steps.specs.declared.beliefs.Belief.{Belief}
use Rattle.cur_steps.specs.declared.beliefs.Place.{Place}
use Rattle.cur_moves.specs.Moves.{Moves, MovesFrom, IsWay}
use Rattle.cur_steps.specs.Pieces.{paints}
use Rattle.cur_steps.specs.declared.inks.Ink.{Ink}
use Rattle.cur_steps.proofs.Turns.{any_of, free_of, placed, calmly}

-- a screen with its cursor elsewhere
abbrev put : Screen → ℕ → ℕ → Bool → Screen
put s r c p = record s { row = r; col = c; pending = p }

same_put : (s : Screen) (r c row col : ℕ) (p : Bool) → r ≡ row → c ≡ col → p ≡ false → put s r c p ≡ put s row col false
same_put s r c row col p e f k = ap (λ (n : ℕ). put s n c p) e ∙ ap (λ (n : ℕ). put s row n p) f ∙ ap (λ (q : Bool). put s row col q) k

-- a line leads to a place, if it states the cursor's end in its own terms
arrives : (t : Table) (g : ℕ → ℕ → Ink) (b : Belief) (row col : ℕ) → col < t.cols → (s u : State) → Agrees t g b s → IsOfSize t.rows t.cols u → u.rest ≡ [] → (r c : ℕ) (p : Bool) → u.screen ≡ put s.screen r c p
    → r ≡ row → c ≡ col → p ≡ false → Agrees t g (record b { place = record { row = row; col = col } }) u
arrives t g b row col lc s u h sized closed r c p e f k l = placed t g b row col lc s u h sized closed (e ∙ same_put s.screen r c row col p f k l)

here : (t : Table) (g : ℕ → ℕ → Ink) (b : Belief) (p : Place) → b.place ≡ p → (s : State) → Agrees t g b s → IsHere t.cols p s.screen.row s.screen.col s.screen.pending
here t g b p e s h = subst (λ (o : Place). IsHere t.cols o s.screen.row s.screen.col s.screen.pending) e h.place

-- a line leads to a place on the screen
at : (t : Table) (g : ℕ → ℕ → Ink) (b : Belief) (p : Place) → b.place ≡ p → p.col < t.cols → (s : State) → Agrees t g b s → (s.screen.row ≡ p.row) × (s.screen.col ≡ p.col) × (s.screen.pending ≡ false)
at t g b p e lt s h = calmly t.cols p s.screen.row s.screen.col s.screen.pending lt (here t g b p e s h)

calm : (t : Table) (g : ℕ → ℕ → Ink) (b : Belief) (p : Place) → b.place ≡ p → p.col < t.cols → (s : State) → Agrees t g b s → IsCalm t.rows t.cols s.screen
calm t g b p e lt s h = record { free = free_of t s h.ready; pending = (at t g b p e lt s h).2 }

from_place : (t : Table) (g : ℕ → ℕ → Ink) (b : Belief) (row col : ℕ) → row < t.rows → col < t.cols → (p : Place) → b.place ≡ p → (line : Row) → MovesFrom t.cols p row col line
    → Turns t line g b g (record b { place = record { row = row; col = col } })
from_place t g b row col lr lc p e Cr m = record {
  starts = λ s h. free_of t s h.ready;
  ends = λ s u h sized closed w. arrives t g b row col lc s u h sized closed s.screen.row 0 false w.wants ((here t g b p e s h).0 ∙ m.0) m.1 refl;
}
from_place t g b row col lr lc p e (Hpa c) m = record {
  starts = λ s h. free_of t s h.ready;
  ends = λ s u h sized closed w. arrives t g b row col lc s u h sized closed s.screen.row c false w.wants ((here t g b p e s h).0 ∙ m.0) m.1 refl;
}
from_place t g b row col lr lc p e (Vpa r) m = record {
  starts = λ s h. free_of t s h.ready;
  ends = λ s u h sized closed w. arrives t g b row col lc s u h sized closed r s.screen.col false w.wants m.0 ((at t g b p e (omega (arith, m.1, lc)) s h).1 ∙ m.1) refl;
}
from_place t g b row col lr lc p e Cub1 m = record {
  starts = λ s h. (calm t g b p e m.2 s h, omega (arith, (at t g b p e m.2 s h).1, m.1));
  ends = λ s u h sized closed w. arrives t g b row col lc s u h sized closed s.screen.row (s.screen.col - 1) s.screen.pending w.wants
      ((at t g b p e m.2 s h).0 ∙ m.0) (omega (arith, (at t g b p e m.2 s h).1, m.1)) (at t g b p e m.2 s h).2;
}
from_place t g b row col lr lc p e Cuf1 m = record {
  starts = λ s h. (calm t g b p e (omega (arith, m.1, lc)) s h, omega (arith, (at t g b p e (omega (arith, m.1, lc)) s h).1, m.1, lc));
  ends = λ s u h sized closed w. arrives t g b row col lc s u h sized closed s.screen.row (s.screen.col + 1) s.screen.pending w.wants
      ((at t g b p e (omega (arith, m.1, lc)) s h).0 ∙ m.0) (omega (arith, (at t g b p e (omega (arith, m.1, lc)) s h).1, m.1)) (at t g b p e (omega (arith, m.1, lc)) s h).2;
}
from_place t g b row col lr lc p e Cuu1 m = record {
  starts = λ s h. (calm t g b p e (omega (arith, m.1, lc)) s h, omega (arith, (at t g b p e (omega (arith, m.1, lc)) s h).0, m.0));
  ends = λ s u h sized closed w. arrives t g b row col lc s u h sized closed (s.screen.row - 1) s.screen.col s.screen.pending w.wants
      (omega (arith, (at t g b p e (omega (arith, m.1, lc)) s h).0, m.0)) ((at t g b p e (omega (arith, m.1, lc)) s h).1 ∙ m.1) (at t g b p e (omega (arith, m.1, lc)) s h).2;
}
from_place t g b row col lr lc p e Cud1 m = record {
  starts = λ s h. (calm t g b p e (omega (arith, m.1, lc)) s h, omega (arith, (at t g b p e (omega (arith, m.1, lc)) s h).0, m.0, lr));
  ends = λ s u h sized closed w. arrives t g b row col lc s u h sized closed (s.screen.row + 1) s.screen.col s.screen.pending w.wants
      (omega (arith, (at t g b p e (omega (arith, m.1, lc)) s h).0, m.0)) ((at t g b p e (omega (arith, m.1, lc)) s h).1 ∙ m.1) (at t g b p e (omega (arith, m.1, lc)) s h).2;
}
from_place t g b row col lr lc p e (Cub n) m = record {
  starts = λ s h. (calm t g b p e m.2 s h, omega (arith, (at t g b p e m.2 s h).1, m.1));
  ends = λ s u h sized closed w. arrives t g b row col lc s u h sized closed s.screen.row (s.screen.col - n) s.screen.pending w.wants
      ((at t g b p e m.2 s h).0 ∙ m.0) (omega (arith, (at t g b p e m.2 s h).1, m.1)) (at t g b p e m.2 s h).2;
}
from_place t g b row col lr lc p e (Cuf n) m = record {
  starts = λ s h. (calm t g b p e (omega (arith, m.1, lc)) s h, omega (arith, (at t g b p e (omega (arith, m.1, lc)) s h).1, m.1, lc));
  ends = λ s u h sized closed w. arrives t g b row col lc s u h sized closed s.screen.row (s.screen.col + n) s.screen.pending w.wants
      ((at t g b p e (omega (arith, m.1, lc)) s h).0 ∙ m.0) (omega (arith, (at t g b p e (omega (arith, m.1, lc)) s h).1, m.1)) (at t g b p e (omega (arith, m.1, lc)) s h).2;
}
from_place t g b row col lr lc p e (Cuu n) m = record {
  starts = λ s h. (calm t g b p e (omega (arith, m.1, lc)) s h, omega (arith, (at t g b p e (omega (arith, m.1, lc)) s h).0, m.0));
  ends = λ s u h sized closed w. arrives t g b row col lc s u h sized closed (s.screen.row - n) s.screen.col s.screen.pending w.wants
      (omega (arith, (at t g b p e (omega (arith, m.1, lc)) s h).0, m.0)) ((at t g b p e (omega (arith, m.1, lc)) s h).1 ∙ m.1) (at t g b p e (omega (arith, m.1, lc)) s h).2;
}
from_place t g b row col lr lc p e (Cud n) m = record {
  starts = λ s h. (calm t g b p e (omega (arith, m.1, lc)) s h, omega (arith, (at t g b p e (omega (arith, m.1, lc)) s h).0, m.0, lr));
  ends = λ s u h sized closed w. arrives t g b row col lc s u h sized closed (s.screen.row + n) s.screen.col s.screen.pending w.wants
      (omega (arith, (at t g b p e (omega (arith, m.1, lc)) s h).0, m.0)) ((at t g b p e (omega (arith, m.1, lc)) s h).1 ∙ m.1) (at t g b p e (omega (arith, m.1, lc)) s h).2;
}
from_place t g b row col lr lc p e line m = absurd m

pub turned : (t : Table) (g : ℕ → ℕ → Ink) (b : Belief) (row col : ℕ) → row < t.rows → col < t.cols → (line : Row) → Moves t.cols (Some b.place) row col line
    → Turns t line g b g (record b { place = record { row = row; col = col } })
turned t g b row col lr lc (Cup r c) m = record {
  starts = λ s h. any_of t s h.ready;
  ends = λ s u h sized closed w. arrives t g b row col lc s u h sized closed r c false w.wants m.0 m.1 refl;
}
turned t g b row col lr lc Home m = record {
  starts = λ s h. free_of t s h.ready;
  ends = λ s u h sized closed w. arrives t g b row col lc s u h sized closed 0 0 false w.wants m.0 m.1 refl;
}
turned t g b row col lr lc line m = from_place t g b row col lr lc b.place refl line m

-- lines that lead to a place paint
straight_paints : (cols : ℕ) (p : Place) (row col : ℕ) (line : Row) → MovesFrom cols p row col line → paints line ≡ true
straight_paints cols p row col Cr m = refl
straight_paints cols p row col (Hpa c) m = refl
straight_paints cols p row col (Vpa r) m = refl
straight_paints cols p row col Cub1 m = refl
straight_paints cols p row col Cuf1 m = refl
straight_paints cols p row col Cuu1 m = refl
straight_paints cols p row col Cud1 m = refl
straight_paints cols p row col (Cub n) m = refl
straight_paints cols p row col (Cuf n) m = refl
straight_paints cols p row col (Cuu n) m = refl
straight_paints cols p row col (Cud n) m = refl
straight_paints cols p row col line m = absurd m

pub move_paints : (cols : ℕ) (p : Place) (row col : ℕ) (line : Row) → Moves cols (Some p) row col line → paints line ≡ true
move_paints cols p row col (Cup r c) m = refl
move_paints cols p row col Home m = refl
move_paints cols p row col line m = straight_paints cols p row col line m

-- a row's text is within its limit
bounded : (t : Table) → IsChecked t → (row : Row) (o : Option (List ℕ)) → t.line_of row ≡ o → length (or_nothing o) ≤ limit_of t row
bounded t checked row None e = omega arith
bounded t checked row (Some bytes) e = (checked.lines row bytes e).short

pub straight_way : (t : Table) → IsChecked t → (from : Option Place) (row col : ℕ) → row < t.rows → col < t.cols → IsWay t from row col (Cup row col)
straight_way t checked from row col lr lc = record {
  moves = (refl, refl);
  there = checked.moves row col lr lc;
  short = bounded t checked (Cup row col) (t.line_of (Cup row col)) refl;
}
