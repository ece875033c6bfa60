-- (Serves the code alone.) A text that is joined line by line.
use Rattle.std.specs.Prelude.{ℕ, true, ◌&&◌, List, [], ◌∷◌, ◌++◌, if◌then◌else◌}
use Rattle.std.specs.List.{flat_map}
use Rattle.ti_caps.specs.declared.fits.Opener.TheVariants.{Nothing}
use Rattle.ti_caps.specs.Fits.{opener_after}
use Rattle.ti_sources.specs.Joins.{Lines, continues, ended, joined_from}
use Rattle.ti_sources.specs.declared.joiner.Joiner.{Joiner}
use Rattle.ti_sources.specs.declared.scan.Scan.{Scan}
use Rattle.ti_source.specs.Layout.{ends_field, is_white, skip_white}
use Rattle.ti_source.specs.Marks.{line_feed}

-- ---- whether a field is open

abbrev pub start : Scan
start = record { opener = Nothing; is_blank = true }

abbrev pub scan_byte : Scan → ℕ → Scan
scan_byte s b =
    if ends_field s.opener b then start
    else record { opener = opener_after s.opener b; is_blank = s.is_blank && is_white b }

abbrev pub scan_from : Scan → List ℕ → Scan
scan_from s [] = s
scan_from s (b ∷ rest) = scan_from (scan_byte s b) rest

unfoldable pub scan_of : List ℕ → Scan
scan_of line = scan_from start line

-- ---- the text so far

-- the text before a line, the line with what was joined to it, and the blank lines behind it
pub record State : Type 0 where
  pub done : List ℕ
  pub line : List ℕ
  pub blanks : List ℕ

abbrev pub state_of : Joiner → State
state_of joiner = record { done = joiner.done.items; line = joiner.line.items; blanks = joiner.blanks.items }

-- the whole text of a line and the others
abbrev pub text_of : List ℕ → List ℕ → Lines → List ℕ
text_of done blanks lines = done ++ (ended lines.first ++ (blanks ++ flat_map ended lines.others))

-- the whole text, if these lines come behind
unfoldable pub text_from : State → List (List ℕ) → List ℕ
text_from s behind = text_of s.done s.blanks (joined_from s.line behind)

abbrev pub with_taken : State → List ℕ → State
with_taken s next =
    record { done = s.done; line = s.line ++ skip_white next; blanks = s.blanks ++ line_feed ∷ [] }

abbrev pub with_begun : State → List ℕ → State
with_begun s next = record { done = (s.done ++ ended s.line) ++ s.blanks; line = next; blanks = [] }

unfoldable pub advance : State → List ℕ → State
advance s next = if continues s.line next then with_taken s next else with_begun s next
