-- The states from which a row is judged: cells, rendition, character sets and visibility are free in each.
use Rattle.std.specs.Prelude.{ℕ, ◌+◌, ◌<◌, ◌≤◌, ◌≡◌, false}
use Rattle.vt_term.specs.Screen.{Screen, IsScreen}
use Rattle.vt_effects.specs.Settings.{IsTame}
use Rattle.ti_rows.specs.Rows.{Row, Cup, Csr, Cub1, Cuf1, Cuu1, Cud1, Cub, Cuf, Cuu, Cud, El, El1, Ed, Ech, Ind, Ri}

-- any cursor and any legal margins, autowrap on and insertion off
pub record IsAny (rows cols : ℕ) (s : Screen) : Type 0 where
  pub screen : IsScreen s
  pub rows_are : s.rows ≡ rows
  pub cols_are : s.cols ≡ cols
  pub tame : IsTame s

-- any cursor, the whole screen as margins, autowrap on and insertion off
pub record IsFree (rows cols : ℕ) (s : Screen) : Type 0 where
  pub any : IsAny rows cols s
  pub top : s.top ≡ 0
  pub bottom : s.bottom + 1 ≡ s.rows

-- as `IsFree`, and the last column wasn't just printed
pub record IsCalm (rows cols : ℕ) (s : Screen) : Type 0 where
  pub free : IsFree rows cols s
  pub pending : s.pending ≡ false

-- any legal margins, and the last column wasn't just printed
pub record IsCalmAnywhere (rows cols : ℕ) (s : Screen) : Type 0 where
  pub any : IsAny rows cols s
  pub pending : s.pending ≡ false

-- the starts of a row; a move stays on the screen from each of its starts
abbrev pub Starts : ℕ → ℕ → Row → Screen → Type 0
Starts rows cols (Cup row col) s = IsAny rows cols s
Starts rows cols (Csr top bottom) s = IsAny rows cols s
Starts rows cols Cub1 s = IsCalm rows cols s × (1 ≤ s.col)
Starts rows cols Cuf1 s = IsCalm rows cols s × (s.col + 1 < cols)
Starts rows cols Cuu1 s = IsCalm rows cols s × (1 ≤ s.row)
Starts rows cols Cud1 s = IsCalm rows cols s × (s.row + 1 < rows)
Starts rows cols (Cub n) s = IsCalm rows cols s × (n ≤ s.col)
Starts rows cols (Cuf n) s = IsCalm rows cols s × (s.col + n < cols)
Starts rows cols (Cuu n) s = IsCalm rows cols s × (n ≤ s.row)
Starts rows cols (Cud n) s = IsCalm rows cols s × (s.row + n < rows)
Starts rows cols El s = IsCalm rows cols s
Starts rows cols El1 s = IsCalm rows cols s
Starts rows cols Ed s = IsCalm rows cols s
Starts rows cols (Ech n) s = IsCalm rows cols s
Starts rows cols Ind s = IsCalmAnywhere rows cols s × (s.row ≡ s.bottom)
Starts rows cols Ri s = IsCalmAnywhere rows cols s × (s.row ≡ s.top)
Starts rows cols _ s = IsFree rows cols s
