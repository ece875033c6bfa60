-- The string that is taken in place of one at fault.
use Rattle.std.specs.Prelude.{ℕ, ◌/◌, ◌%◌, ◌==◌, nat_lt, not, Bool, true, false, if◌then◌else◌, List, Option, Some}
use Rattle.std.specs.Prelude.{None}
use Rattle.ti_caps.specs.Entry.{Content}
use Rattle.ti_rows.specs.declared.rows.Row.{Row}
use Rattle.ti_rows.specs.declared.rows.Row.TheVariants.{Clear, Cup, Home, Cr, Hpa, Vpa, Cub1, Cuf1, Cuu1, Cud1, Cub}
use Rattle.ti_rows.specs.declared.rows.Row.TheVariants.{Cuf, Cuu, Cud, El, El1, Ed, Ech, Sgr, Sgr0, Setaf, Setab, Op}
use Rattle.ti_rows.specs.declared.rows.Row.TheVariants.{Smul, Rev, Blink, Dim, Bold, Invis, Smso, Enacs, Smacs, Rmacs}
use Rattle.ti_rows.specs.declared.rows.Row.TheVariants.{Csr, Ind, Ri, Civis, Cnorm, Cvvis, Smcup, Rmcup, Bel}
use Rattle.ti_faults.specs.Standard.{matching, general, standard, shifts, so, si}
use Rattle.ti_faults.specs.declared.candidates.Choice.{Choice}
use Rattle.ti_faults.specs.declared.candidates.Way.{Way}
use Rattle.ti_faults.specs.declared.candidates.Way.TheVariants.{Single, Designating, Shifting}

-- ---- the strings that switch character sets, which are right only together

-- The two ways in which the VT100 switches sets (VT100 User Guide, chapter 3): `smacs` and `rmacs` designate G0; or
-- `enacs` designates G0 and G1, and SO and SI shift between them.
abbrev pub designating : Row → Option (List ℕ)
designating Smacs = standard Smacs
designating Rmacs = standard Rmacs
designating row = None

abbrev pub shifting : Row → Option (List ℕ)
shifting Enacs = standard Enacs
shifting Smacs = Some so
shifting Rmacs = Some si
shifting row = None

-- the string that the row's capability gets together with the others that switch sets, if they are mended as one
abbrev pub as_one : Way → Row → Option (List ℕ)
as_one Single row = None
as_one Designating row = designating row
as_one Shifting row = shifting row

-- how many choices mend only what is at fault: if the entry's own strings shift between sets, each of `smacs` and
-- `rmacs` has two candidates
abbrev pub singles : Content → ℕ
singles entry = if shifts entry then 4 else 1

-- after these come two choices that mend all three as one: in the way of the entry's own strings, then in the other way
abbrev pub way_by : Bool → Way
way_by true = Shifting
way_by false = Designating

abbrev pub way_of : Content → ℕ → Way
way_of entry n =
    if nat_lt n (singles entry) then Single
    else (if n == singles entry then way_by (shifts entry) else way_by (not (shifts entry)))

-- the choice of this number, with the second candidate for `sgr0` or its first
abbrev pub choice_of : Content → Bool → ℕ → Choice
choice_of entry second n = record {
  second_smacs = n / 2 % 2 == 1;
  second_rmacs = n % 2 == 1;
  second_sgr0 = second;
  way = way_of entry n;
}

abbrev pub takes_second : Choice → Row → Bool
takes_second choice Smacs = choice.second_smacs
takes_second choice Rmacs = choice.second_rmacs
takes_second choice Clear = false
takes_second choice (Cup row col) = false
takes_second choice Home = false
takes_second choice Cr = false
takes_second choice (Hpa col) = false
takes_second choice (Vpa row) = false
takes_second choice Cub1 = false
takes_second choice Cuf1 = false
takes_second choice Cuu1 = false
takes_second choice Cud1 = false
takes_second choice (Cub n) = false
takes_second choice (Cuf n) = false
takes_second choice (Cuu n) = false
takes_second choice (Cud n) = false
takes_second choice El = false
takes_second choice El1 = false
takes_second choice Ed = false
takes_second choice (Ech n) = false
takes_second choice (Sgr a) = false
takes_second choice Sgr0 = choice.second_sgr0
takes_second choice (Setaf c) = false
takes_second choice (Setab c) = false
takes_second choice Op = false
takes_second choice Smul = false
takes_second choice Rev = false
takes_second choice Blink = false
takes_second choice Dim = false
takes_second choice Bold = false
takes_second choice Invis = false
takes_second choice Smso = false
takes_second choice Enacs = false
takes_second choice (Csr top bottom) = false
takes_second choice Ind = false
takes_second choice Ri = false
takes_second choice Civis = false
takes_second choice Cnorm = false
takes_second choice Cvvis = false
takes_second choice Smcup = false
takes_second choice Rmcup = false
takes_second choice Bel = false

abbrev pub or_other : Option (List ℕ) → Option (List ℕ) → Option (List ℕ)
or_other None other = other
or_other (Some string) other = Some string

-- ---- the string of each capability

-- the string that fits the entry's other strings, or else that of the standards; always the latter with the second
-- choice for `smacs`, `rmacs` or `sgr0`
abbrev pub by_itself : Content → Choice → Row → Option (List ℕ)
by_itself entry choice row =
    if takes_second choice row then general entry row else or_other (matching entry row) (general entry row)

-- the string of the way in which sets are switched as one, or else that of the capability by itself
abbrev pub candidate : Content → Choice → Row → Option (List ℕ)
candidate entry choice row = or_other (as_one choice.way row) (by_itself entry choice row)

-- the string with which a capability at fault is mended: the candidate, or else that of the standards
abbrev pub stand_in : Content → Choice → Row → Option (List ℕ)
stand_in entry choice row = or_other (candidate entry choice row) (standard row)
