-- The entry's other strings as witnesses against a string with a wrong effect.
use Rattle.std.specs.Prelude.{ℕ, ◌==◌, ◌&&◌, ◌||◌, not, Bool, true, false, if◌then◌else◌, List, []}
use Rattle.std.specs.Prelude.{Option, Some, None}
use Rattle.ti_caps.specs.Entry.{Content, string_at}
use Rattle.ti_checker.specs.declared.causes.Cause.{Cause}
use Rattle.ti_checker.specs.declared.causes.Cause.TheVariants as causes
use Rattle.ti_conforms.specs.Entries.{has_string, string_of}
use Rattle.ti_grades.specs.Codes.{has_code}
use Rattle.ti_grades.specs.Sequences.{are_shifts, has_other_set}
use Rattle.ti_grades.specs.declared.codes.CodeKind.TheVariants.{Increments}
use Rattle.ti_grades.specs.declared.effects.Runs.{Runs}
use Rattle.ti_grades.specs.declared.odds.Witness.{Witness}
use Rattle.ti_grades.specs.declared.odds.Witness.TheVariants.{Silent, Against, Elsewhere}
use Rattle.ti_rows.specs.declared.rows.Row.{Row}
use Rattle.ti_rows.specs.declared.rows.Row.TheVariants as rows
use Rattle.vt_effects.specs.declared.effects.Effect.{Effect}
use Rattle.vt_effects.specs.declared.effects.Erasure.{Erasure}
use Rattle.vt_effects.specs.declared.effects.Erasure.TheVariants as erasures
use Rattle.vt_effects.specs.declared.effects.Move.{Move}
use Rattle.vt_effects.specs.declared.effects.Move.TheVariants as moves
use Rattle.vt_effects.specs.declared.effects.Region.{Region}
use Rattle.vt_effects.specs.declared.effects.Rendering.{Rendering}
use Rattle.vt_effects.specs.declared.effects.Switch.{Switch}
use Rattle.vt_effects.specs.declared.effects.Switch.TheVariants as switches

-- the bytes of a string; none where there is no string
abbrev pub bytes_of : Option (List ℕ) → List ℕ
bytes_of None = []
bytes_of (Some bytes) = bytes

-- ---- colors: what takes off the rendition is for `sgr0`

abbrev pub is_off : Switch → Bool
is_off switches.Kept = false
is_off switches.On = false
is_off switches.Off = true

-- one of the six marks of a rendition is taken off
abbrev pub takes_mark : Rendering → Bool
takes_mark r = is_off r.bold || is_off r.faint || is_off r.underline || is_off r.blink || is_off r.negative
    || is_off r.concealed

abbrev pub takes_rendition : Option Effect → Bool
takes_rendition None = false
takes_rendition (Some effect) = takes_mark effect.rendition

-- ---- the screen: what `smcup` and `rmcup` need behind the same erasure

abbrev pub is_screen : Erasure → Bool
is_screen erasures.Nothing = false
is_screen erasures.Screen = true
is_screen erasures.Tail = false
is_screen erasures.Head = false
is_screen erasures.Rest = false
is_screen (erasures.Next n) = false

-- the row or the column of a cursor is this one in the end, wherever it was
abbrev pub is_to : ℕ → Move → Bool
is_to wanted moves.Kept = false
is_to wanted (moves.To place) = place == wanted
is_to wanted (moves.Back n) = false
is_to wanted (moves.Forward n) = false

abbrev pub goes_home : Effect → Bool
goes_home effect = is_to 0 effect.row && is_to 0 effect.col

-- every cell is erased, and the cursor goes to the first row and column
abbrev pub clears : Option Effect → Bool
clears None = false
clears (Some effect) = is_screen effect.erasure && goes_home effect

-- every cell is erased, and the cursor stays elsewhere
abbrev pub erases_away : Option Effect → Bool
erases_away None = false
erases_away (Some effect) = is_screen effect.erasure && not (goes_home effect)

-- the entry has `home`, and its `smcup` or `rmcup` goes there where it erases every cell
abbrev pub homes_elsewhere : Content → Runs → Bool
homes_elsewhere entry runs = has_string entry rows.Home && (clears runs.enters || clears runs.leaves)

-- ---- places: whether they are counted from 1

abbrev pub increments : Content → Row → Bool
increments entry row = has_code Increments (bytes_of (string_of entry row))

-- the string has no `%i`, and its kin has one: `cup`, for `hpa`, `vpa` and `csr`
abbrev pub misses_increment : Content → List ℕ → Bool
misses_increment entry string = not (has_code Increments string) && increments entry (rows.Cup 0 0)

-- and these, for `cup`
abbrev pub misses_increment_of_kin : Content → List ℕ → Bool
misses_increment_of_kin entry string = not (has_code Increments string)
    && (increments entry (rows.Hpa 0) || (increments entry (rows.Vpa 0) || increments entry (rows.Csr 0 0)))

-- a run ends in this row; in this column; with these margins
abbrev pub ends_in_row : ℕ → Option Effect → Bool
ends_in_row row None = false
ends_in_row row (Some effect) = is_to row effect.row

abbrev pub ends_in_col : ℕ → Option Effect → Bool
ends_in_col col None = false
ends_in_col col (Some effect) = is_to col effect.col

abbrev pub is_region : ℕ → ℕ → Option Region → Bool
is_region top bottom None = false
is_region top bottom (Some region) = (region.top == top) && (region.bottom == bottom)

abbrev pub bounds : ℕ → ℕ → Option Effect → Bool
bounds top bottom None = false
bounds top bottom (Some effect) = is_region top bottom effect.margins

-- ---- sets: which one a shift makes active

-- the places of `is1`, `is2`, `is3` and `enacs`, which prepare a terminal, in the table of capabilities
abbrev pub is1 : ℕ
is1 = 131

abbrev pub is2 : ℕ
is2 = 132

abbrev pub is3 : ℕ
is3 = 133

abbrev pub enacs : ℕ
enacs = 238

abbrev pub designates_other : Content → ℕ → Bool
designates_other entry place = has_other_set (bytes_of (string_at entry place))

-- a string that prepares the terminal designates to G1 a set that T hasn't
abbrev pub has_own_set : Content → Bool
has_own_set entry = designates_other entry is1 || (designates_other entry is2 || (designates_other entry is3
    || designates_other entry enacs))

-- a string that only shifts makes another string's set active: one that T hasn't, or one that none designates
abbrev pub of_shifts : Content → List ℕ → Witness
of_shifts entry sent = if are_shifts sent then (if has_own_set entry then Elsewhere else Against) else Silent

-- ---- all of them

abbrev pub against : Bool → Witness
against so = if so then Against else Silent

-- By the row: `op` takes off a rendition; `clear` leaves the cursor elsewhere than `home` does; `hpa`, `vpa`, `csr` or
-- `cup` lacks the `%i` that another one has, by which it would do what is wanted; `smacs` or `rmacs` only shifts.
abbrev pub witness_of : Content → Row → List ℕ → List ℕ → Runs → Witness
witness_of entry rows.Op string sent runs = against (takes_rendition runs.own)
witness_of entry rows.Clear string sent runs = against (erases_away runs.own && homes_elsewhere entry runs)
witness_of entry (rows.Hpa col) string sent runs =
    against (misses_increment entry string && ends_in_col col runs.counted)
witness_of entry (rows.Vpa row) string sent runs =
    against (misses_increment entry string && ends_in_row row runs.counted)
witness_of entry (rows.Csr top bottom) string sent runs =
    against (misses_increment entry string && bounds top bottom runs.counted)
witness_of entry (rows.Cup row col) string sent runs = against (misses_increment_of_kin entry string
    && (ends_in_row row runs.counted && ends_in_col col runs.counted))
witness_of entry rows.Smacs string sent runs = of_shifts entry sent
witness_of entry rows.Rmacs string sent runs = of_shifts entry sent
witness_of entry rows.Home string sent runs = Silent
witness_of entry rows.Cr string sent runs = Silent
witness_of entry rows.Cub1 string sent runs = Silent
witness_of entry rows.Cuf1 string sent runs = Silent
witness_of entry rows.Cuu1 string sent runs = Silent
witness_of entry rows.Cud1 string sent runs = Silent
witness_of entry (rows.Cub n) string sent runs = Silent
witness_of entry (rows.Cuf n) string sent runs = Silent
witness_of entry (rows.Cuu n) string sent runs = Silent
witness_of entry (rows.Cud n) string sent runs = Silent
witness_of entry rows.El string sent runs = Silent
witness_of entry rows.El1 string sent runs = Silent
witness_of entry rows.Ed string sent runs = Silent
witness_of entry (rows.Ech n) string sent runs = Silent
witness_of entry (rows.Sgr attributes) string sent runs = Silent
witness_of entry rows.Sgr0 string sent runs = Silent
witness_of entry (rows.Setaf color) string sent runs = Silent
witness_of entry (rows.Setab color) string sent runs = Silent
witness_of entry rows.Smul string sent runs = Silent
witness_of entry rows.Rev string sent runs = Silent
witness_of entry rows.Blink string sent runs = Silent
witness_of entry rows.Dim string sent runs = Silent
witness_of entry rows.Bold string sent runs = Silent
witness_of entry rows.Invis string sent runs = Silent
witness_of entry rows.Smso string sent runs = Silent
witness_of entry rows.Enacs string sent runs = Silent
witness_of entry rows.Ind string sent runs = Silent
witness_of entry rows.Ri string sent runs = Silent
witness_of entry rows.Civis string sent runs = Silent
witness_of entry rows.Cnorm string sent runs = Silent
witness_of entry rows.Cvvis string sent runs = Silent
witness_of entry rows.Smcup string sent runs = Silent
witness_of entry rows.Rmcup string sent runs = Silent
witness_of entry rows.Bel string sent runs = Silent

abbrev pub is_wrong_effect : Cause → Bool
is_wrong_effect (causes.WrongEffect probe) = true
is_wrong_effect causes.FlagOut = false
is_wrong_effect causes.Absent = false
is_wrong_effect causes.AcsByte = false
is_wrong_effect (causes.Parm fault) = false
is_wrong_effect causes.StaticRead = false
is_wrong_effect causes.Unfinished = false
is_wrong_effect causes.Stuck = false
is_wrong_effect causes.NotTame = false
is_wrong_effect causes.BadLook = false
is_wrong_effect causes.NotShown = false
is_wrong_effect causes.TooLong = false
is_wrong_effect causes.NoResync = false
is_wrong_effect causes.NoMemory = false

-- the witness against a fault's string, if the fault is a wrong effect of a row
abbrev pub witness_for : Content → Cause → Option Row → List ℕ → List ℕ → Runs → Witness
witness_for entry cause None string sent runs = Silent
witness_for entry cause (Some row) string sent runs =
    if is_wrong_effect cause then witness_of entry row string sent runs else Silent

abbrev pub is_against : Witness → Bool
is_against Silent = false
is_against Against = true
is_against Elsewhere = false

abbrev pub is_elsewhere : Witness → Bool
is_elsewhere Silent = false
is_elsewhere Against = false
is_elsewhere Elsewhere = true
