-- (Serves the code alone.) The rows that lead the cursor from its known place to another one (terminfo(5), "Cursor
-- Motions").
use Rattle.std.specs.Prelude.{ℕ, ◌+◌, ◌^◌, ◌<◌, ◌≤◌, ◌≡◌, true, length, Option, Some, None}
use Rattle.ti_rows.specs.declared.rows.Row.{Row}
use Rattle.ti_rows.specs.declared.rows.Row.TheVariants.{Clear, Cup, Home, Cr, Hpa, Vpa, Cub1, Cuf1, Cuu1, Cud1, Cub}
use Rattle.ti_rows.specs.declared.rows.Row.TheVariants.{Cuf, Cuu, Cud, El, El1, Ed, Ech, Sgr, Sgr0, Setaf, Setab, Op}
use Rattle.ti_rows.specs.declared.rows.Row.TheVariants.{Smul, Rev, Blink, Dim, Bold, Invis, Smso, Smacs, Rmacs, Csr}
use Rattle.ti_rows.specs.declared.rows.Row.TheVariants.{Ind, Ri, Enacs, Civis, Cnorm, Cvvis, Smcup, Rmcup, Bel}
use Rattle.ti_conforms.specs.Certified.{Table, has, text_of}
use Rattle.cur_steps.specs.declared.beliefs.Place.{Place}

-- the distance of a move by a count
abbrev pub IsCount : ℕ → Type 0
IsCount n = (0 < n) × (n < 2 ^ 16)

-- From a known place: in its line, or in its column. No move by a number of columns starts where a wrap is pending.
abbrev pub MovesFrom : ℕ → Place → ℕ → ℕ → Row → Type 0
MovesFrom cols p row col Cr = (p.row ≡ row) × (0 ≡ col)
MovesFrom cols p row col (Hpa c) = (p.row ≡ row) × (c ≡ col)
MovesFrom cols p row col (Vpa r) = (r ≡ row) × (p.col ≡ col)
MovesFrom cols p row col Cub1 = (p.row ≡ row) × (p.col ≡ col + 1) × (p.col < cols)
MovesFrom cols p row col Cuf1 = (p.row ≡ row) × (p.col + 1 ≡ col)
MovesFrom cols p row col Cuu1 = (p.row ≡ row + 1) × (p.col ≡ col)
MovesFrom cols p row col Cud1 = (p.row + 1 ≡ row) × (p.col ≡ col)
MovesFrom cols p row col (Cub n) = (p.row ≡ row) × (p.col ≡ col + n) × (p.col < cols) × IsCount n
MovesFrom cols p row col (Cuf n) = (p.row ≡ row) × (p.col + n ≡ col) × IsCount n
MovesFrom cols p row col (Cuu n) = (p.row ≡ row + n) × (p.col ≡ col) × IsCount n
MovesFrom cols p row col (Cud n) = (p.row + n ≡ row) × (p.col ≡ col) × IsCount n
MovesFrom cols p row col (Cup r c) = ⊥
MovesFrom cols p row col Home = ⊥
MovesFrom cols p row col Clear = ⊥
MovesFrom cols p row col El = ⊥
MovesFrom cols p row col El1 = ⊥
MovesFrom cols p row col Ed = ⊥
MovesFrom cols p row col (Ech n) = ⊥
MovesFrom cols p row col (Sgr a) = ⊥
MovesFrom cols p row col Sgr0 = ⊥
MovesFrom cols p row col (Setaf c) = ⊥
MovesFrom cols p row col (Setab c) = ⊥
MovesFrom cols p row col Op = ⊥
MovesFrom cols p row col Smul = ⊥
MovesFrom cols p row col Rev = ⊥
MovesFrom cols p row col Blink = ⊥
MovesFrom cols p row col Dim = ⊥
MovesFrom cols p row col Bold = ⊥
MovesFrom cols p row col Invis = ⊥
MovesFrom cols p row col Smso = ⊥
MovesFrom cols p row col Enacs = ⊥
MovesFrom cols p row col Smacs = ⊥
MovesFrom cols p row col Rmacs = ⊥
MovesFrom cols p row col (Csr top bottom) = ⊥
MovesFrom cols p row col Ind = ⊥
MovesFrom cols p row col Ri = ⊥
MovesFrom cols p row col Civis = ⊥
MovesFrom cols p row col Cnorm = ⊥
MovesFrom cols p row col Cvvis = ⊥
MovesFrom cols p row col Smcup = ⊥
MovesFrom cols p row col Rmcup = ⊥
MovesFrom cols p row col Bel = ⊥

-- `cup` and `home` lead to a place from anywhere, the other rows only from a known place
abbrev pub Moves : ℕ → Option Place → ℕ → ℕ → Row → Type 0
Moves cols from row col (Cup r c) = (r ≡ row) × (c ≡ col)
Moves cols from row col Home = (0 ≡ row) × (0 ≡ col)
Moves cols (Some p) row col line = MovesFrom cols p row col line
Moves cols None row col line = ⊥

-- a line of the certificate that leads to the place, no longer than the longest `cup`
pub record IsWay (t : Table) (from : Option Place) (row col : ℕ) (line : Row) : Type 0 where
  pub moves : Moves t.cols from row col line
  pub there : has t line ≡ true
  pub short : length (text_of t line) ≤ t.longest.cup

-- a row's line, if there is one, has n bytes or more
abbrev pub IsAtMost : Table → ℕ → Row → Type 0
IsAtMost t n line = has t line ≡ true → n ≤ length (text_of t line)

-- a line of this many bytes leads to the place, and none of fewer
pub record IsFewest (t : Table) (from : Option Place) (row col n : ℕ) : Type 0 where
  pub line : Row
  pub moves : Moves t.cols from row col line
  pub there : has t line ≡ true
  pub bytes : n ≡ length (text_of t line)
  pub least : (other : Row) → Moves t.cols from row col other → IsAtMost t n other
