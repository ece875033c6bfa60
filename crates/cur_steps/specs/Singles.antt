-- (Serves the code alone.) Attributes one by one.
use Rattle.std.specs.Prelude.{◌≡◌, ◌&&◌, Bool, true, false, List, [], ◌∷◌, Option, Some, None, if◌then◌else◌}
use Rattle.vt_term.specs.Screen.{State}
use Rattle.ti_rows.specs.declared.rows.Attributes.{Attributes}
use Rattle.ti_rows.specs.declared.rows.Row.{Row}
use Rattle.ti_rows.specs.declared.rows.Row.TheVariants.{Clear, Cup, Home, Cr, Hpa, Vpa, Cub1, Cuf1, Cuu1, Cud1, Cub}
use Rattle.ti_rows.specs.declared.rows.Row.TheVariants.{Cuf, Cuu, Cud, El, El1, Ed, Ech, Sgr, Sgr0, Setaf, Setab, Op}
use Rattle.ti_rows.specs.declared.rows.Row.TheVariants.{Smul, Rev, Blink, Dim, Bold, Invis, Smso, Smacs, Rmacs, Csr}
use Rattle.ti_rows.specs.declared.rows.Row.TheVariants.{Ind, Ri, Enacs, Civis, Cnorm, Cvvis, Smcup, Rmcup, Bel}
use Rattle.ti_rows.specs.Looks.{shown}
use Rattle.ti_conforms.specs.Certified.{Table, IsReady, has}
use Rattle.cur_steps.specs.declared.singles.Single.{Single}
use Rattle.cur_steps.specs.declared.singles.Single.TheVariants as single

-- the attribute that a row's string turns on, if it turns on one alone (terminfo(5), "Highlighting, Underlining, and
-- Visible Bells")
abbrev pub single_of : Row → Option Single
single_of Smso = Some single.Standout
single_of Smul = Some single.Underline
single_of Rev = Some single.Reverse
single_of Blink = Some single.Blink
single_of Dim = Some single.Dim
single_of Bold = Some single.Bold
single_of Invis = Some single.Invisible
single_of Clear = None
single_of (Cup row col) = None
single_of Home = None
single_of Cr = None
single_of (Hpa col) = None
single_of (Vpa row) = None
single_of Cub1 = None
single_of Cuf1 = None
single_of Cuu1 = None
single_of Cud1 = None
single_of (Cub n) = None
single_of (Cuf n) = None
single_of (Cuu n) = None
single_of (Cud n) = None
single_of El = None
single_of El1 = None
single_of Ed = None
single_of (Ech n) = None
single_of (Sgr a) = None
single_of Sgr0 = None
single_of (Setaf c) = None
single_of (Setab c) = None
single_of Op = None
single_of Enacs = None
single_of Smacs = None
single_of Rmacs = None
single_of (Csr top bottom) = None
single_of Ind = None
single_of Ri = None
single_of Civis = None
single_of Cnorm = None
single_of Cvvis = None
single_of Smcup = None
single_of Rmcup = None
single_of Bel = None

-- whether an attribute is among these
abbrev pub is_among : Single → Attributes → Bool
is_among single.Standout a = a.standout
is_among single.Underline a = a.underline
is_among single.Reverse a = a.reverse
is_among single.Blink a = a.blink
is_among single.Dim a = a.dim
is_among single.Bold a = a.bold
is_among single.Invisible a = a.invisible

-- whether there is an attribute, and it is among these
abbrev pub is_one_among : Option Single → Attributes → Bool
is_one_among None a = false
is_one_among (Some s) a = is_among s a

-- whether the attribute of a row's string is among these
abbrev pub has_single : Row → Attributes → Bool
has_single row a = is_one_among (single_of row) a

-- these attributes and one
abbrev pub with_one : Single → Attributes → Attributes
with_one single.Standout a = record a { standout = true }
with_one single.Underline a = record a { underline = true }
with_one single.Reverse a = record a { reverse = true }
with_one single.Blink a = record a { blink = true }
with_one single.Dim a = record a { dim = true }
with_one single.Bold a = record a { bold = true }
with_one single.Invisible a = record a { invisible = true }

-- these attributes and another one, if there is one
abbrev pub with_any : Option Single → Attributes → Attributes
with_any None a = a
with_any (Some s) a = with_one s a

-- these attributes and the one that a row's string turns on
abbrev pub turned_on : Row → Attributes → Attributes
turned_on row a = with_any (single_of row) a

-- these attributes and the one that a row's string turns on, if it is wanted
abbrev pub with_single : Attributes → Row → Attributes → Attributes
with_single wanted row a = if has_single row wanted then turned_on row a else a

abbrev pub with_singles : Attributes → List Row → Attributes → Attributes
with_singles wanted [] a = a
with_singles wanted (row ∷ rows) a = with_singles wanted rows (with_single wanted row a)

-- the attributes that can be seen without `sgr`: the ones that have a string of their own
abbrev pub seen : Table → Attributes → Attributes
seen t a = record {
  standout = a.standout && has t Smso;
  underline = a.underline && has t Smul;
  reverse = a.reverse && has t Rev;
  blink = a.blink && has t Blink;
  dim = a.dim && has t Dim;
  bold = a.bold && has t Bold;
  invisible = a.invisible && has t Invis;
}

-- two sets of attributes look alike, provided that there is a ready state
abbrev pub LookAlike : Table → Attributes → Attributes → Type 0
LookAlike t a b = (s : State) → IsReady t s → shown t.looks a ≡ shown t.looks b
