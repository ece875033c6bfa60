-- A text as lines that LF ends, and the bytes after the last LF.
use Rattle.std.specs.Prelude.{ℕ, ◌≡◌, ◌==◌, Bool, true, false, zero, suc, if◌then◌else◌, List, [], ◌∷◌, ◌++◌, Option}
use Rattle.std.specs.Prelude.{None, Some}
use Rattle.std.specs.Option.{option_map}

abbrev pub is_feed : ℕ → Bool
is_feed b = b == 10

-- the lines that end, and the bytes after them
pub record Cut : Type 0 where
  pub lines : List (List ℕ)
  pub last : List ℕ

-- one more byte before the first line
abbrev pub onto_cut : ℕ → List (List ℕ) → List ℕ → Cut
onto_cut b [] last = record { lines = []; last = b ∷ last }
onto_cut b (line ∷ lines) last = record { lines = (b ∷ line) ∷ lines; last = last }

-- one more line before the others
abbrev pub with_line : List ℕ → Cut → Cut
with_line line cut = record { lines = line ∷ cut.lines; last = cut.last }

abbrev pub cut_of : List ℕ → Cut
cut_of [] = record { lines = []; last = [] }
cut_of (b ∷ text) = if is_feed b then with_line [] (cut_of text) else onto_cut b (cut_of text).lines (cut_of text).last

-- the place of the first LF
abbrev pub line_end : List ℕ → Option ℕ
line_end [] = None
line_end (b ∷ text) = if is_feed b then Some 0 else option_map suc (line_end text)

-- the first `budget` bytes have no LF, and another byte follows them
abbrev pub is_long : ℕ → List ℕ → Bool
is_long budget [] = false
is_long zero (b ∷ text) = true
is_long (suc budget) (b ∷ text) = if is_feed b then false else is_long budget text

-- `cut_of` as a relation: no line has an LF inside, one follows each, and the last part has none.
abbrev pub IsText : List (List ℕ) → List ℕ → List ℕ → Type 0
IsText [] last text = (text ≡ last) × (line_end last ≡ None)
IsText (line ∷ lines) last text =
    (rest : List ℕ) × (text ≡ line ++ 10 ∷ rest) × (line_end line ≡ None) × IsText lines last rest
