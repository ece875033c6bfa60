-- Strings that send functions which the terminal T hasn't.
use Rattle.std.specs.Prelude.{◌≡◌, ◌==◌, ◌&&◌, ◌||◌, ◌<◌, ℕ, not, Bool, true, false, List, [], ◌∷◌, Option, Some, None}
use Rattle.std.specs.List.{list_any}
use Rattle.ti_checker.specs.declared.causes.Cause.{Cause}
use Rattle.ti_checker.specs.declared.causes.Cause.TheVariants as causes
use Rattle.ti_grades.specs.FaultRuns.{AreTokensOf}
use Rattle.ti_rows.specs.Lists.{IsInRange, rank}
use Rattle.ti_rows.specs.Names.{order}
use Rattle.ti_rows.specs.declared.rows.Row.{Row}
use Rattle.vt_states.specs.Ignored.{ignores}
use Rattle.vt_term.specs.Function.{function_of}

-- NUL, BEL and DEL, which no terminal shows on its screen (ECMA-48 8.3.88, 8.3.3; ECMA-35 6.2.2)
abbrev pub is_silent : List ℕ → Bool
is_silent [] = false
is_silent (b ∷ []) = (b == 0) || (b == 7) || (b == 127)
is_silent (b ∷ c ∷ rest) = false

-- the token is no function of T, or has a number that T hasn't
abbrev pub is_unknown : List ℕ → Bool
is_unknown token = ignores (function_of token) && not (is_silent token)

-- there are no whole tokens, or one of them is unknown
abbrev pub has_unknown : Option (List (List ℕ)) → Bool
has_unknown None = true
has_unknown (Some tokens) = list_any is_unknown tokens

-- what the string sends for the row has something that T hasn't
pub record SendsUnknown (string : List ℕ) (row : Row) : Type 0 where
  pub tokens : Option (List (List ℕ))
  pub sent : AreTokensOf string row tokens
  pub unknown : has_unknown tokens ≡ true

-- the string sends whole tokens for the row, and T knows each
pub record SendsKnown (string : List ℕ) (row : Row) : Type 0 where
  pub tokens : Option (List (List ℕ))
  pub sent : AreTokensOf string row tokens
  pub known : has_unknown tokens ≡ false

-- for some parameter list of the row's capability T knows all that is sent
pub record IsOnceKnown (rows cols : ℕ) (string : List ℕ) (row : Row) : Type 0 where
  pub other : Row
  pub range : IsInRange rows cols other
  pub of_cap : order other ≡ order row
  pub sends : SendsKnown string other

-- Whether each parameter list of the row's capability sends something that T hasn't. Then T can't tell whether the
-- string is right.
abbrev pub IsNeverKnown : ℕ → ℕ → List ℕ → Row → Bool → Type 0
IsNeverKnown rows cols string row true =
    (other : Row) → IsInRange rows cols other → order other ≡ order row → SendsUnknown string other
IsNeverKnown rows cols string row false = IsOnceKnown rows cols string row

abbrev pub IsNeverKnownFor : ℕ → ℕ → Option Row → Option (List ℕ) → Bool → Type 0
IsNeverKnownFor rows cols None string found = found ≡ false
IsNeverKnownFor rows cols (Some row) None found = found ≡ false
IsNeverKnownFor rows cols (Some row) (Some string) found = IsNeverKnown rows cols string row found

-- it is asked of a wrong effect alone
abbrev pub IsBeyond : ℕ → ℕ → Cause → Option Row → Option (List ℕ) → Bool → Type 0
IsBeyond rows cols (causes.WrongEffect probe) row string found = IsNeverKnownFor rows cols row string found
IsBeyond rows cols causes.FlagOut row string found = found ≡ false
IsBeyond rows cols causes.Absent row string found = found ≡ false
IsBeyond rows cols causes.AcsByte row string found = found ≡ false
IsBeyond rows cols (causes.Parm fault) row string found = found ≡ false
IsBeyond rows cols causes.StaticRead row string found = found ≡ false
IsBeyond rows cols causes.Unfinished row string found = found ≡ false
IsBeyond rows cols causes.Stuck row string found = found ≡ false
IsBeyond rows cols causes.NotTame row string found = found ≡ false
IsBeyond rows cols causes.BadLook row string found = found ≡ false
IsBeyond rows cols causes.NotShown row string found = found ≡ false
IsBeyond rows cols causes.TooLong row string found = found ≡ false
IsBeyond rows cols causes.NoResync row string found = found ≡ false
IsBeyond rows cols causes.NoMemory row string found = found ≡ false

-- (Serves the code alone.) The rows of a capability before the one of this rank send something that T hasn't.
abbrev pub UnknownBefore : ℕ → ℕ → List ℕ → ℕ → ℕ → Type 0
UnknownBefore rows cols string place k = (other : Row) → IsInRange rows cols other → order other ≡ place
    → rank rows cols other < k → SendsUnknown string other
