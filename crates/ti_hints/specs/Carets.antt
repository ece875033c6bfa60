-- The places of `%^` in a source text, which terminfo(5) reads as `%` and a control character.
use Rattle.std.specs.Prelude.{ℕ, ◌+◌, Bool, false, ◌&&◌, ◌||◌, List, [], ◌∷◌, ◌++◌, Option, Some, None, if◌then◌else◌}
use Rattle.std.specs.Prelude.{◌==◌}
use Rattle.ti_caps.specs.declared.fits.Opener.{Opener}
use Rattle.ti_caps.specs.declared.fits.Opener.TheVariants.{Nothing, Backslash, Caret}
use Rattle.ti_caps.specs.declared.types.Kind.TheVariants as kinds
use Rattle.ti_caps.specs.Fits.{opener_after}
use Rattle.ti_caps.specs.Table.{kind_of, place_in}
use Rattle.ti_hints.specs.declared.carets.PercentCaret.{PercentCaret}
use Rattle.ti_source.specs.declared.layout.Mark.{Mark}
use Rattle.ti_source.specs.declared.layout.Mark.TheVariants.{At, Hash, Equals}
use Rattle.ti_source.specs.Fields.{is_skipped}
use Rattle.ti_caps.specs.Table.{is_kind}
use Rattle.ti_source.specs.Layout.{Marked, cut_of, lines_of, marked_in, skip_white}
use Rattle.ti_source.specs.Source.{begins_white, is_passed}
use Rattle.ti_source.specs.Marks.{percent, caret}

-- a `%` that isn't part of a backslash or caret escape
abbrev pub is_percent : Opener → ℕ → Bool
is_percent Nothing b = b == percent
is_percent Backslash b = false
is_percent Caret b = false

-- a value in which a caret follows such a `%`; `follows` says whether one is right before the value
abbrev pub has_caret : Opener → Bool → List ℕ → Bool
has_caret opener follows [] = false
has_caret opener follows (b ∷ rest) =
    (follows && (b == caret)) || has_caret (opener_after opener b) (is_percent opener b) rest

unfoldable pub has_percent_caret : List ℕ → Bool
has_percent_caret value = has_caret Nothing false value

-- the capability, if it is a string and the value has `%^`
abbrev pub hinted_cap : ℕ → List ℕ → Option ℕ
hinted_cap cap value = if is_kind (kind_of cap) kinds.String && has_percent_caret value then Some cap else None

abbrev pub hinted_by : Mark → Option ℕ → List ℕ → Option ℕ
hinted_by Equals (Some cap) value = hinted_cap cap value
hinted_by Equals None value = None
hinted_by At found value = None
hinted_by Hash found value = None

abbrev pub hinted_in : Option Marked → Option ℕ
hinted_in None = None
hinted_in (Some m) = hinted_by m.mark (place_in m.name) m.value

abbrev pub hinted_field : List ℕ → Option ℕ
hinted_field field = if is_skipped field then None else hinted_in (marked_in field)

-- the hint on the text before a comma
unfoldable pub hinted : List ℕ → Option ℕ
hinted part = hinted_field (skip_white part)

abbrev pub hint_at : ℕ → Option ℕ → List PercentCaret
hint_at line None = []
hint_at line (Some cap) = record { line = line; cap = cap } ∷ []

abbrev pub part_hints : ℕ → List (List ℕ) → List PercentCaret
part_hints line [] = []
part_hints line (part ∷ parts) = hint_at line (hinted part) ++ part_hints line parts

-- the first field of an entry is its names
abbrev pub hints_after : ℕ → List (List ℕ) → List PercentCaret
hints_after line [] = []
hints_after line (names ∷ parts) = part_hints line parts

unfoldable pub line_hints : ℕ → List ℕ → List PercentCaret
line_hints number line =
    if is_passed line then []
    else (if begins_white line then part_hints number (cut_of line).ended else hints_after number (cut_of line).ended)

abbrev pub lines_hints : ℕ → List (List ℕ) → List PercentCaret
lines_hints number [] = []
lines_hints number (line ∷ lines) = line_hints number line ++ lines_hints (number + 1) lines

-- the string capabilities of a text whose values have `%^`, each with its line, in their order
unfoldable pub hints_of : List ℕ → List PercentCaret
hints_of text = lines_hints 1 (lines_of text)
