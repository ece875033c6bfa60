-- (Serves the code alone.) The set that is active after a string, and its rendition, as far as the string's bytes show
-- them.
use Rattle.std.specs.Prelude.{ℕ, ◌≤◌, ◌≡◌, ◌==◌, ◌⊎◌, Bool, true, false, List, [], ◌∷◌, ◌++◌, length, Option, None}
use Rattle.std.specs.List.{list_all}
use Rattle.std.specs.Option.{unwrap_or}
use Rattle.vt_term.specs.Look.{Rendition}
use Rattle.vt_term.specs.Parameters.{is_numeral}
use Rattle.vt_term.specs.Run.{Runs}
use Rattle.vt_term.specs.Screen.{State, is_graphic}
use Rattle.vt_term.specs.Text.{sequence_limit}
use Rattle.ti_conforms.specs.Certified.{Table, IsReady}
use Rattle.cur_steps.specs.Beliefs.{IsSo}
use Rattle.cur_steps.specs.declared.inks.Brush.{Brush}

-- one control sequence SGR of these numbers and no more (ECMA-48 8.3.117)
pub record IsRendition (bytes numerals : List ℕ) : Type 0 where
  pub spelled : bytes ≡ 27 ∷ 91 ∷ (numerals ++ 109 ∷ [])
  pub each : list_all is_numeral numerals ≡ true
  pub short : length bytes ≤ sequence_limit

-- another string, and one SGR of these numbers before or after it
pub data IsBeside (bytes other numerals : List ℕ) : Type 0 where
  Before : (x : List ℕ) → IsRendition x numerals → bytes ≡ x ++ other → IsBeside bytes other numerals
  Behind : (x : List ℕ) → IsRendition x numerals → bytes ≡ other ++ x → IsBeside bytes other numerals

-- The first number is 0, which makes the rendition the default one. It is also the number that is meant where none is
-- given (ECMA-48 8.3.117).
abbrev pub begins_plain : List (Option ℕ) → Bool
begins_plain [] = false
begins_plain (n ∷ ns) = unwrap_or n 0 == 0

-- from all ready states, runs over the bytes lead to one rendition
abbrev pub FixesRendition : Table → List ℕ → Type 0
FixesRendition t bytes =
    (r : Rendition) × ((s u : State) → IsReady t s → Runs s bytes u → u.screen.rendition ≡ r)

-- an SGR makes the colors the default ones, or leaves them, if they were so
abbrev pub EndsUncolored : Table → List ℕ → Brush → Type 0
EndsUncolored t bytes brush = FixesRendition t bytes ⊎ ((brush.foreground ≡ None) × (brush.background ≡ None))

-- from a ready state with the first active set, a run over the bytes leads to the second one
abbrev pub LeavesSet : Table → List ℕ → Option Bool → Option Bool → Type 0
LeavesSet t bytes before after =
    (s u : State) → IsReady t s → IsSo before (is_graphic s.screen.charset) → Runs s bytes u
    → IsSo after (is_graphic u.screen.charset)
