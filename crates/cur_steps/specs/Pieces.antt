-- The pieces that make a screen appear: printed bytes, and the lines of rows that paint.
use Rattle.std.specs.Prelude.{ℕ, ◌≡◌, Bool, true, false, List, [], ◌∷◌, Some}
use Rattle.vt_term.specs.Look.{IsPrinted}
use Rattle.ti_rows.specs.declared.rows.Row.{Row}
use Rattle.ti_rows.specs.declared.rows.Row.TheVariants.{Clear, Cup, Home, Cr, Hpa, Vpa, Cub1, Cuf1, Cuu1, Cud1, Cub}
use Rattle.ti_rows.specs.declared.rows.Row.TheVariants.{Cuf, Cuu, Cud, El, El1, Ed, Ech, Sgr, Sgr0, Setaf, Setab, Op}
use Rattle.ti_rows.specs.declared.rows.Row.TheVariants.{Smul, Rev, Blink, Dim, Bold, Invis, Smso, Smacs, Rmacs, Csr}
use Rattle.ti_rows.specs.declared.rows.Row.TheVariants.{Ind, Ri, Enacs, Civis, Cnorm, Cvvis, Smcup, Rmcup, Bel}
use Rattle.ti_conforms.specs.Certified.{Table}

-- Moves, erasures, scrolls, attributes, colors and sets paint (terminfo(5), "Basic Capabilities" to "Line Graphics").
-- The bell, the strings that begin and end a program's screen, and those that show or hide the cursor don't.
abbrev pub paints : Row → Bool
paints Clear = true
paints (Cup row col) = true
paints Home = true
paints Cr = true
paints (Hpa col) = true
paints (Vpa row) = true
paints Cub1 = true
paints Cuf1 = true
paints Cuu1 = true
paints Cud1 = true
paints (Cub n) = true
paints (Cuf n) = true
paints (Cuu n) = true
paints (Cud n) = true
paints El = true
paints El1 = true
paints Ed = true
paints (Ech n) = true
paints (Sgr a) = true
paints Sgr0 = true
paints (Setaf c) = true
paints (Setab c) = true
paints Op = true
paints Smul = true
paints Rev = true
paints Blink = true
paints Dim = true
paints Bold = true
paints Invis = true
paints Smso = true
paints Smacs = true
paints Rmacs = true
paints (Csr top bottom) = true
paints Ind = true
paints Ri = true
paints Enacs = false
paints Civis = false
paints Cnorm = false
paints Cvvis = false
paints Smcup = false
paints Rmcup = false
paints Bel = false

-- the line of a row that paints, or a character
pub data IsPaint (t : Table) (piece : List ℕ) : Type 0 where
  Stroke : (row : Row) → paints row ≡ true → t.line_of row ≡ Some piece → IsPaint t piece
  Printed : (b : ℕ) → IsPrinted b → piece ≡ b ∷ [] → IsPaint t piece
