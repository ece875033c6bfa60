-- (Serves the code alone.) Successive cells of a line, queried all at once.
use Rattle.std.specs.Prelude.{ℕ, ◌+◌, ◌<◌, ◌≤◌, ◌≡◌, Bool, false, Some, None, List, length, slice_index_or}
use Rattle.cur_steps.specs.Inks.{blank_ink, byte_as, same}
use Rattle.cur_steps.specs.declared.inks.Cells.{Cells}
use Rattle.cur_steps.specs.declared.inks.Ink.{Ink}

-- the first n of a line's cells from one on are printed in the set and the brush of a column, and have these characters
abbrev pub AreLike : (ℕ → ℕ → Ink) → Cells → ℕ → ℕ → List ℕ → Type 0
AreLike g s like n text = (k : ℕ) → k < n
    → byte_as (g s.row (s.from + k)) (g s.row like) ≡ Some (slice_index_or text k 0)

-- the first n cells are like the column's: up to the first that isn't, or to the end of the cells or of the room for
-- text
pub record IsTextLike (g : ℕ → ℕ → Ink) (s : Cells) (like n : ℕ) (text : List ℕ) : Type 0 where
  pub within : n ≤ s.count
  pub room : n ≤ length text
  pub characters : AreLike g s like n text
  pub end : n < s.count → n < length text → byte_as (g s.row (s.from + n)) (g s.row like) ≡ None

-- for each cell, whether it is printed like an ink with the character of a text
abbrev pub AreShown : (ℕ → ℕ → Ink) → Cells → Ink → List ℕ → List Bool → Type 0
AreShown g s ink text shown = (k : ℕ) → k < s.count
    → slice_index_or shown k false ≡ same (g s.row (s.from + k)) (record ink { byte = slice_index_or text k 0 })

-- for each of the first n cells, which are all blank: whether it prints like the ink with the text's character
abbrev pub AreBlank : ℕ → Ink → List ℕ → List Bool → Type 0
AreBlank n ink text shown = (k : ℕ) → k < n
    → slice_index_or shown k false ≡ same blank_ink (record ink { byte = slice_index_or text k 0 })
