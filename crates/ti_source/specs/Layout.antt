-- Cutting a terminfo(5) source text: into lines, a line into fields, a field into a name and a value.
use Rattle.std.specs.Prelude.{ℕ, Bool, false, ◌&&◌, ◌||◌, List, [], ◌∷◌, reverse, Option, Some, None, if◌then◌else◌}
use Rattle.std.specs.Prelude.{◌==◌, option_map}
use Rattle.ti_caps.specs.declared.fits.Opener.{Opener}
use Rattle.ti_caps.specs.declared.fits.Opener.TheVariants.{Nothing}
use Rattle.ti_caps.specs.Fits.{opener_after, ends_at_comma}
use Rattle.ti_source.specs.declared.layout.Mark.{Mark}
use Rattle.ti_source.specs.declared.layout.Mark.TheVariants.{At, Hash, Equals}
use Rattle.ti_source.specs.Marks.{tab, line_feed, carriage_return, space, hash, comma, equals, at_sign}

-- a byte prepended to the first line
abbrev pub onto_line : ℕ → List (List ℕ) → List (List ℕ)
onto_line b [] = (b ∷ []) ∷ []
onto_line b (line ∷ lines) = (b ∷ line) ∷ lines

abbrev pub begins_feed : List ℕ → Bool
begins_feed [] = false
begins_feed (b ∷ rest) = b == line_feed

-- A line ends with a line feed; the last one may end with the text. A carriage return right before a line feed is
-- dropped.
abbrev pub lines_of : List ℕ → List (List ℕ)
lines_of [] = []
lines_of (b ∷ rest) =
    if b == line_feed then [] ∷ lines_of rest
    else (if (b == carriage_return) && begins_feed rest then lines_of rest else onto_line b (lines_of rest))

-- space and tab
abbrev pub is_white : ℕ → Bool
is_white b = (b == space) || (b == tab)

abbrev pub skip_white : List ℕ → List ℕ
skip_white [] = []
skip_white (b ∷ rest) = if is_white b then skip_white rest else b ∷ rest

-- the bytes without white space at the end
unfoldable pub trim_end : List ℕ → List ℕ
trim_end bytes = reverse (skip_white (reverse bytes))

-- the fields of a line that commas end, and the text after the last comma
pub record Cut : Type 0 where
  pub ended : List (List ℕ)
  pub last : List ℕ

abbrev pub put_field : List ℕ → Cut → Cut
put_field field cut = record { ended = field ∷ cut.ended; last = cut.last }

abbrev pub onto_ended : ℕ → List (List ℕ) → List ℕ → Cut
onto_ended b [] last = record { ended = []; last = b ∷ last }
onto_ended b (field ∷ fields) last = record { ended = (b ∷ field) ∷ fields; last = last }

-- a byte prepended to the first field
abbrev pub onto_cut : ℕ → Cut → Cut
onto_cut b cut = onto_ended b cut.ended cut.last

-- A comma ends its field unless a backslash takes it. Backslashes and carets take the bytes after them, in pairs from
-- the start of the field.
abbrev pub ends_field : Opener → ℕ → Bool
ends_field opener b = ends_at_comma opener && (b == comma)

abbrev pub cut_from : Opener → List ℕ → Cut
cut_from opener [] = record { ended = []; last = [] }
cut_from opener (b ∷ rest) =
    if ends_field opener b then put_field [] (cut_from Nothing rest)
    else onto_cut b (cut_from (opener_after opener b) rest)

unfoldable pub cut_of : List ℕ → Cut
cut_of line = cut_from Nothing line

-- the marks between a name and a value: name@, name#number, name=string
abbrev pub mark_of : ℕ → Option Mark
mark_of b =
    if b == at_sign then Some At else (if b == hash then Some Hash else (if b == equals then Some Equals else None))

-- the name in a field, its first mark, and the value after the mark
pub record Marked : Type 0 where
  pub name : List ℕ
  pub mark : Mark
  pub value : List ℕ

abbrev pub marked_with : List ℕ → Mark → List ℕ → Marked
marked_with name mark value = record { name = name; mark = mark; value = value }

abbrev pub onto_name : ℕ → Marked → Marked
onto_name b marked = marked_with (b ∷ marked.name) marked.mark marked.value

abbrev pub marked_at : Option Mark → ℕ → List ℕ → Option Marked → Option Marked
marked_at (Some mark) b rest behind = Some (marked_with [] mark rest)
marked_at None b rest behind = option_map (onto_name b) behind

-- the field cut at its first mark, or None if it has none, like a flag's
abbrev pub marked_in : List ℕ → Option Marked
marked_in [] = None
marked_in (b ∷ rest) = marked_at (mark_of b) b rest (marked_in rest)
