-- The screen that is wanted in the end, row by row, stated about screens alone (terminfo(5); ECMA-48 8.3).
use Rattle.std.specs.Prelude.{ℕ, ◌+◌, ◌-◌, ◌≡◌, ◌⊎◌, ◌==◌, ◌&&◌, ◌||◌, nat_le, nat_lt, Bool, true, false, Option, Some}
use Rattle.std.specs.Prelude.{None, if◌then◌else◌}
use Rattle.vt_term.specs.Color.{Color}
use Rattle.vt_term.specs.Look.{Rendition, plain, blank}
use Rattle.vt_term.specs.Grid.{Grid, drawn, scrolled_up, scrolled_down}
use Rattle.vt_term.specs.Screen.{Screen}
use Rattle.ti_rows.specs.Looks.{shown}
use Rattle.ti_rows.specs.Rows.{Marks, Looks, Row, Clear, Cup, Home, Cr, Hpa, Vpa, Cub1, Cuf1, Cuu1, Cud1, Cub, Cuf, Cuu}
use Rattle.ti_rows.specs.Rows.{Cud, El, El1, Ed, Ech, Sgr, Sgr0, Setaf, Setab, Op, Smul, Rev, Blink, Dim, Bold, Invis}
use Rattle.ti_rows.specs.Rows.{Smso, Enacs, Smacs, Rmacs, Csr, Ind, Ri, Civis, Cnorm, Cvvis, Smcup, Rmcup, Bel}

-- a rendition of these marks and colors
abbrev pub marked : Marks → Option Color → Option Color → Rendition
marked m foreground background = record {
  bold = m.bold;
  faint = m.faint;
  underline = m.underline;
  blink = m.blink;
  negative = m.negative;
  concealed = m.concealed;
  foreground = foreground;
  background = background;
}

-- these marks are turned on, and the others stay
abbrev pub adding : Marks → Rendition → Rendition
adding m r = record r {
  bold = m.bold || r.bold;
  faint = m.faint || r.faint;
  underline = m.underline || r.underline;
  blink = m.blink || r.blink;
  negative = m.negative || r.negative;
  concealed = m.concealed || r.concealed;
}

-- the rendition becomes `r`, the sets are free, and all else stays
abbrev pub Renders : Rendition → Screen → Screen → Type 0
Renders r s t = t ≡ record s { rendition = r; charset = t.charset }

-- just these marks are on; both colors stay, or both become default
abbrev pub HasJust : Marks → Screen → Screen → Type 0
HasJust m s t = Renders (marked m s.rendition.foreground s.rendition.background) s t ⊎ Renders (marked m None None) s t

-- the cells around the cursor that an erasure chooses: to the line's end, from its start, to the screen's end, and
-- `n` to the right (ECMA-48 8.3.41, 8.3.39, 8.3.38)
abbrev pub to_line_end : Screen → ℕ → ℕ → Bool
to_line_end s i j = (i == s.row) && nat_le s.col j

abbrev pub from_line_start : Screen → ℕ → ℕ → Bool
from_line_start s i j = (i == s.row) && nat_le j s.col

abbrev pub to_screen_end : Screen → ℕ → ℕ → Bool
to_screen_end s i j = nat_lt s.row i || ((i == s.row) && nat_le s.col j)

abbrev pub next_cells : ℕ → Screen → ℕ → ℕ → Bool
next_cells n s i j = (i == s.row) && (nat_le s.col j && nat_lt j (s.col + n))

-- the chosen cells become blank, on the background of the start
abbrev pub with_blanks : (ℕ → ℕ → Bool) → Screen → Grid
with_blanks chosen s = drawn (λ i j old. if chosen i j then blank s.rendition else old) s.grid

-- the chosen cells become blank, and all else stays
abbrev pub Blanks : (ℕ → ℕ → Bool) → Screen → Screen → Type 0
Blanks chosen s t = t ≡ record s { grid = with_blanks chosen s }

-- the cells after at most one erasure, around the cursor of the start
pub data ErasesOnce (s : Screen) (cells : Grid) : Type 0 where
  Nothing : cells ≡ s.grid → ErasesOnce s cells
  Everything : cells ≡ with_blanks (λ i j. true) s → ErasesOnce s cells
  ToLineEnd : cells ≡ with_blanks (to_line_end s) s → ErasesOnce s cells
  FromLineStart : cells ≡ with_blanks (from_line_start s) s → ErasesOnce s cells
  ToScreenEnd : cells ≡ with_blanks (to_screen_end s) s → ErasesOnce s cells
  NextCells : (n : ℕ) → cells ≡ with_blanks (next_cells n s) s → ErasesOnce s cells

-- a pending wrap stays or ends, and none begins
abbrev pub StaysOrEnds : Bool → Bool → Type 0
StaysOrEnds before after = (after ≡ before) ⊎ (after ≡ false)

-- the margins become these lines; the cursor may go anywhere, a pending wrap may end, and all else stays
pub record Bounds (top bottom : ℕ) (s t : Screen) : Type 0 where
  pub others : t ≡ record s { top = top; bottom = bottom; row = t.row; col = t.col; pending = t.pending }
  pub pending : StaysOrEnds s.pending t.pending

-- a program's screen begins or ends: at most one erasure; the cursor may go anywhere, a pending wrap may end,
-- rendition and sets are free, and all else stays
pub record Enters (s t : Screen) : Type 0 where
  pub others : t ≡ record s {
    grid = t.grid;
    row = t.row;
    col = t.col;
    pending = t.pending;
    rendition = t.rendition;
    charset = t.charset;
  }
  pub cells : ErasesOnce s t.grid
  pub pending : StaysOrEnds s.pending t.pending

-- the cursor becomes visible, or all stays
abbrev pub Appears : Screen → Screen → Type 0
Appears s t = (t ≡ record s { visible = true }) ⊎ (t ≡ s)

-- the end `t` that a row wants of its start `s`: each equation names the parts that change, and all else stays. The
-- sets are free where `t` occurs on the right as well
abbrev pub Wants : Looks → Row → Screen → Screen → Type 0
Wants l Clear s t =
    t ≡ record s { grid = drawn (λ i j old. blank s.rendition) s.grid; row = 0; col = 0; pending = false }
Wants l (Cup row col) s t = t ≡ record s { row = row; col = col; pending = false }
Wants l Home s t = t ≡ record s { row = 0; col = 0; pending = false }
Wants l Cr s t = t ≡ record s { col = 0; pending = false }
Wants l (Hpa col) s t = t ≡ record s { col = col; pending = false }
Wants l (Vpa row) s t = t ≡ record s { row = row; pending = false }
Wants l Cub1 s t = t ≡ record s { col = s.col - 1 }
Wants l Cuf1 s t = t ≡ record s { col = s.col + 1 }
Wants l Cuu1 s t = t ≡ record s { row = s.row - 1 }
Wants l Cud1 s t = t ≡ record s { row = s.row + 1 }
Wants l (Cub n) s t = t ≡ record s { col = s.col - n }
Wants l (Cuf n) s t = t ≡ record s { col = s.col + n }
Wants l (Cuu n) s t = t ≡ record s { row = s.row - n }
Wants l (Cud n) s t = t ≡ record s { row = s.row + n }
Wants l El s t = Blanks (to_line_end s) s t
Wants l El1 s t = Blanks (from_line_start s) s t
Wants l Ed s t = Blanks (to_screen_end s) s t
Wants l (Ech n) s t = Blanks (next_cells n s) s t
Wants l (Sgr a) s t = HasJust (shown l a) s t
Wants l Sgr0 s t = Renders plain s t
Wants l (Setaf c) s t = t ≡ record s { rendition = record s.rendition { foreground = Some c } }
Wants l (Setab c) s t = t ≡ record s { rendition = record s.rendition { background = Some c } }
Wants l Op s t = t ≡ record s { rendition = record s.rendition { foreground = None; background = None } }
Wants l Smul s t = Renders (record s.rendition { underline = true }) s t
Wants l Rev s t = Renders (record s.rendition { negative = true }) s t
Wants l Blink s t = Renders (record s.rendition { blink = true }) s t
Wants l Dim s t = Renders (record s.rendition { faint = true }) s t
Wants l Bold s t = Renders (record s.rendition { bold = true }) s t
Wants l Invis s t = Renders (record s.rendition { concealed = true }) s t
Wants l Smso s t = Renders (adding l.standout s.rendition) s t
Wants l Enacs s t = t ≡ record s { charset = t.charset }
Wants l Smacs s t = t ≡ record s { charset = t.charset }
Wants l Rmacs s t = t ≡ record s { charset = t.charset }
Wants l (Csr top bottom) s t = Bounds top bottom s t
Wants l Ind s t = t ≡ record s { grid = scrolled_up s.top s.bottom 1 (blank s.rendition) s.grid }
Wants l Ri s t = t ≡ record s { grid = scrolled_down s.top s.bottom 1 (blank s.rendition) s.grid }
Wants l Civis s t = t ≡ record s { visible = false }
Wants l Cnorm s t = t ≡ record s { visible = true }
Wants l Cvvis s t = Appears s t
Wants l Smcup s t = Enters s t
Wants l Rmcup s t = Enters s t
Wants l Bel s t = t ≡ s
