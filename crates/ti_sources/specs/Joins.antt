-- A terminfo(5) source text in which a field may continue on the next line, and the text in which it doesn't.
use Rattle.std.specs.Prelude.{ℕ, Bool, false, true, not, ◌&&◌, List, [], ◌∷◌, ◌++◌, if◌then◌else◌, ◌==◌}
use Rattle.std.specs.List.{flat_map, list_all}
use Rattle.ti_source.specs.Layout.{cut_of, is_white, lines_of, skip_white}
use Rattle.ti_source.specs.Lines.{is_further}
use Rattle.ti_source.specs.Marks.{carriage_return, line_feed}
use Rattle.ti_source.specs.Source.{is_comment}

-- the last field of a line isn't ended: behind its last comma is more than white space
unfoldable pub is_open : List ℕ → Bool
is_open line = not (is_comment line) && not (list_all is_white (cut_of line).last)

-- a field of the line continues on the next one, which begins with white space and is neither blank nor a comment
abbrev pub continues : List ℕ → List ℕ → Bool
continues line next = is_open line && is_further next

-- no field of these lines continues on the next one
abbrev pub none_continues : List (List ℕ) → Bool
none_continues [] = true
none_continues (line ∷ []) = true
none_continues (line ∷ next ∷ behind) = not (continues line next) && none_continues (next ∷ behind)

-- one line or more
pub record Lines : Type 0 where
  pub first : List ℕ
  pub others : List (List ℕ)

-- a line before others
abbrev pub before : List ℕ → Lines → Lines
before line lines = record { first = line; others = lines.first ∷ lines.others }

-- a blank line behind the first one
abbrev pub with_blank : Lines → Lines
with_blank lines = record { first = lines.first; others = [] ∷ lines.others }

-- A line and those behind it. Where a field of the line continues on the next one, the next one is taken up without its
-- leading white space, and leaves a blank line behind, so that later lines keep their numbers.
abbrev pub joined_from : List ℕ → List (List ℕ) → Lines
joined_from line [] = record { first = line; others = [] }
joined_from line (next ∷ behind) =
    if continues line next then with_blank (joined_from (line ++ skip_white next) behind)
    else before line (joined_from next behind)

abbrev pub all_of : Lines → List (List ℕ)
all_of lines = lines.first ∷ lines.others

-- the lines of a text, joined
abbrev pub joined_lines : List (List ℕ) → List (List ℕ)
joined_lines [] = []
joined_lines (line ∷ behind) = all_of (joined_from line behind)

abbrev pub ends_in_return : List ℕ → Bool
ends_in_return [] = false
ends_in_return (b ∷ []) = b == carriage_return
ends_in_return (b ∷ c ∷ rest) = ends_in_return (c ∷ rest)

-- reading drops one carriage return before a line feed, so a line that ends in one gets another
abbrev pub kept_return : List ℕ → List ℕ
kept_return line = if ends_in_return line then carriage_return ∷ [] else []

-- a line and its end
abbrev pub ended : List ℕ → List ℕ
ended line = line ++ (kept_return line ++ line_feed ∷ [])

-- the joined lines of a text, as a text
unfoldable pub joined_text : List ℕ → List ℕ
joined_text text = flat_map ended (joined_lines (lines_of text))
