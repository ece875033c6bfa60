-- A text cut into parts: a script into lines at line feeds, a line into words at spaces, a cell at its colon.
use Rattle.std.specs.Prelude.{ℕ, ◌+◌, length, ◌==◌, if◌then◌else◌, List, [], ◌∷◌, Option, None, Some}
use Rattle.std.specs.List.{slice_split}
use Rattle.std.specs.Option.{option_map}

-- the bytes before and after the first byte `c`
abbrev pub cut_at : ℕ → List ℕ → Option (List ℕ × List ℕ)
cut_at c [] = None
cut_at c (b ∷ text) = if b == c then Some ([], text) else option_map (λ p. (b ∷ p.0, p.1)) (cut_at c text)

-- the parts between the bytes `c`: one more than there are such bytes
abbrev pub parts_of : ℕ → List ℕ → List (List ℕ)
parts_of c text = slice_split (λ b. b == c) text

-- (Serves the code alone.) the parts of the remaining text, if there is any
abbrev pub parts_left : ℕ → Option (List ℕ) → List (List ℕ)
parts_left c None = []
parts_left c (Some text) = parts_of c text

-- (Serves the code alone.) the number of remaining bytes, plus one if there is a remaining text
abbrev pub left_size : Option (List ℕ) → ℕ
left_size None = 0
left_size (Some text) = length text + 1

-- lines end with a line feed, except perhaps the last; an empty part after the last line feed is a line that is skipped
abbrev pub lines_of : List ℕ → List (List ℕ)
lines_of text = parts_of 10 text

-- words are separated by one space
abbrev pub words_of : List ℕ → List (List ℕ)
words_of line = parts_of 32 line

-- a step that needs the result of an earlier one
infixl 10 ◌>>=◌
abbrev pub ◌>>=◌ : {A B : Type 0} → Option A → (A → Option B) → Option B
(Some x) >>= f = f x
None >>= f = None
