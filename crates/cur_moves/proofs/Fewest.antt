-- No line that leads to a place is shorter than the one found.
use Rattle.std.proofs.Common.{◌≡◌, ℕ, ◌≤◌, length, Option, Some, None, refl, ap, subst, ◌∙◌, arith}
use Rattle.std.specs.Prelude.{IfSome}
use Rattle.ti_rows.specs.declared.rows.Row.{Row}
use Rattle.ti_rows.specs.declared.rows.Row.TheVariants.{Cup, Home, Cr, Hpa, Vpa, Cub1, Cuf1, Cuu1, Cud1, Cub, Cuf, Cuu, Cud}
use Rattle.ti_conforms.specs.Certified.{Table, text_of}
use Rattle.cur_steps.specs.declared.beliefs.Place.{Place}
use Rattle.cur_moves.specs.Moves.{Moves, MovesFrom, IsAtMost}

-- a way no longer than the best of the rows tried is no longer than this row's line, if it was tried
pub picked : (t : Table) (n m : ℕ) (o : Option Row) (line : Row) → n ≤ m → IfSome o (λ line. IsAtMost t m line) → o ≡ Some line → IsAtMost t n line
picked t n m o line le h e there = let k : m ≤ length (text_of t line) = subst (λ (p : Option Row). IfSome p (λ line. IsAtMost t m line)) e h there in omega arith

straight_at_most : (t : Table) (row col n r c : ℕ) → n ≤ length (text_of t (Cup row col)) → r ≡ row → c ≡ col → IsAtMost t n (Cup r c)
straight_at_most t row col n r c le e f there =
    let k : length (text_of t (Cup r c)) ≡ length (text_of t (Cup row col)) = ap (λ (m : ℕ). length (text_of t (Cup m c))) e ∙ ap (λ (m : ℕ). length (text_of t (Cup row m))) f in
    omega arith

pub unknown : (o : Option Place) → o ≡ None → (p : Place) → o ≡ Some p → ⊥
unknown None e p h = cc
unknown (Some q) e p h = cc

-- `cup`, `home`, and lines that lead there from a known place
pub fewest_of : (t : Table) (from : Option Place) (row col n : ℕ) → n ≤ length (text_of t (Cup row col)) → (Moves t.cols from row col Home → IsAtMost t n Home)
    → ((p : Place) → from ≡ Some p → (line : Row) → MovesFrom t.cols p row col line → IsAtMost t n line) → (line : Row) → Moves t.cols from row col line → IsAtMost t n line
fewest_of t from row col n le home known (Cup r c) m = straight_at_most t row col n r c le m.0 m.1
fewest_of t from row col n le home known Home m = home m
fewest_of t (Some p) row col n le home known line m = known p refl line m
fewest_of t None row col n le home known line m = absurd m

-- the rows that lead there from a known place
pub fewest_from : (t : Table) (cols : ℕ) (p : Place) (row col n : ℕ)
    → (MovesFrom cols p row col Cr → IsAtMost t n Cr)
    → ((k : ℕ) → MovesFrom cols p row col (Hpa k) → IsAtMost t n (Hpa k))
    → ((k : ℕ) → MovesFrom cols p row col (Vpa k) → IsAtMost t n (Vpa k))
    → (MovesFrom cols p row col Cub1 → IsAtMost t n Cub1)
    → (MovesFrom cols p row col Cuf1 → IsAtMost t n Cuf1)
    → (MovesFrom cols p row col Cuu1 → IsAtMost t n Cuu1)
    → (MovesFrom cols p row col Cud1 → IsAtMost t n Cud1)
    → ((k : ℕ) → MovesFrom cols p row col (Cub k) → IsAtMost t n (Cub k))
    → ((k : ℕ) → MovesFrom cols p row col (Cuf k) → IsAtMost t n (Cuf k))
    → ((k : ℕ) → MovesFrom cols p row col (Cuu k) → IsAtMost t n (Cuu k))
    → ((k : ℕ) → MovesFrom cols p row col (Cud k) → IsAtMost t n (Cud k))
    → (line : Row) → MovesFrom cols p row col line → IsAtMost t n line
fewest_from t cols p row col n cr hpa vpa left1 right1 up1 down1 left right up down Cr m = cr m
fewest_from t cols p row col n cr hpa vpa left1 right1 up1 down1 left right up down (Hpa k) m = hpa k m
fewest_from t cols p row col n cr hpa vpa left1 right1 up1 down1 left right up down (Vpa k) m = vpa k m
fewest_from t cols p row col n cr hpa vpa left1 right1 up1 down1 left right up down Cub1 m = left1 m
fewest_from t cols p row col n cr hpa vpa left1 right1 up1 down1 left right up down Cuf1 m = right1 m
fewest_from t cols p row col n cr hpa vpa left1 right1 up1 down1 left right up down Cuu1 m = up1 m
fewest_from t cols p row col n cr hpa vpa left1 right1 up1 down1 left right up down Cud1 m = down1 m
fewest_from t cols p row col n cr hpa vpa left1 right1 up1 down1 left right up down (Cub k) m = left k m
fewest_from t cols p row col n cr hpa vpa left1 right1 up1 down1 left right up down (Cuf k) m = right k m
fewest_from t cols p row col n cr hpa vpa left1 right1 up1 down1 left right up down (Cuu k) m = up k m
fewest_from t cols p row col n cr hpa vpa left1 right1 up1 down1 left right up down (Cud k) m = down k m
fewest_from t cols p row col n cr hpa vpa left1 right1 up1 down1 left right up down line m = absurd m
