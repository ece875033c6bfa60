-- The states that a start allows.
use Rattle.std.specs.Prelude.{ℕ, ◌+◌, ◌≤◌, ◌≡◌, true, false}
use Rattle.vt_term.specs.Screen.{Screen, IsScreen}
use Rattle.vt_effects.specs.declared.starts.Start.{Start}
use Rattle.vt_effects.specs.declared.starts.Margins.{Margins}
use Rattle.vt_effects.specs.declared.starts.Margins.TheVariants.{Whole, Legal, OnBottom, OnTop}

-- the margins are of this kind; those of every screen are legal
abbrev pub HasMargins : Margins → Screen → Type 0
HasMargins Whole s = (s.top ≡ 0) × (s.bottom + 1 ≡ s.rows)
HasMargins Legal s = Unit {0}
HasMargins OnBottom s = s.row ≡ s.bottom
HasMargins OnTop s = s.row ≡ s.top

pub record Allows (height width : ℕ) (start : Start) (s : Screen) : Type 0 where
  pub screen : IsScreen s
  pub rows : s.rows ≡ height
  pub cols : s.cols ≡ width
  pub row_from : start.row_min ≤ s.row
  pub row_to : s.row ≤ start.row_max
  pub col_from : start.col_min ≤ s.col
  pub col_to : s.col ≤ start.col_max
  pub pending : start.pending ≡ false → s.pending ≡ false
  pub margins : HasMargins start.margins s
  pub autowrap : s.autowrap ≡ true
  pub inserting : s.inserting ≡ false
