-- Two lists of lines in pieces.
use Rattle.std.specs.Prelude.{◌≡◌, ◌+◌, ◌≤◌, ℕ, List, [], ◌∷◌, drop, if◌then◌else◌, length, map}
use Rattle.std.specs.Str.{bytes_eq}
use denote.Ref.{Bor}
use Rattle.ti_diffs.specs.declared.pieces.Piece.{Piece}
use Rattle.ti_diffs.specs.declared.pieces.Piece.TheVariants.{Changed, Kept}

-- the lines that are lent
abbrev pub lines_of : List (Bor (List ℕ)) → List (List ℕ)
lines_of lines = map (λ line. line.now) lines

-- how many lines two lists have in common at their beginning
abbrev pub common : List (List ℕ) → List (List ℕ) → ℕ
common [] new = 0
common (line ∷ old) [] = 0
common (line ∷ old) (other ∷ new) = if bytes_eq line other then common old new + 1 else 0

-- how many lines of the old list a piece has, and how many of the new one
abbrev pub old_lines : Piece → ℕ
old_lines (Kept count) = count
old_lines (Changed removed added) = removed

abbrev pub new_lines : Piece → ℕ
new_lines (Kept count) = count
new_lines (Changed removed added) = added

-- There are as many lines.
abbrev pub IsWithin : {A B : Type 0} → ℕ → ℕ → List A → List B → Type 0
IsWithin removed added old new = (removed ≤ length old) × (added ≤ length new)

-- The piece is at the front of two lists: all lines that they have in common there, or lines of both where these begin
-- apart.
abbrev pub IsFront : Piece → List (List ℕ) → List (List ℕ) → Type 0
IsFront (Kept count) old new = count ≡ common old new
IsFront (Changed removed added) old new = common old new ≡ 0

-- the pieces have all lines of both lists, in order
unfoldable pub IsDiff : List Piece → List (List ℕ) → List (List ℕ) → Type 0
IsDiff [] old new = (old ≡ []) × (new ≡ [])
IsDiff (piece ∷ pieces) old new =
    IsFront piece old new × IsWithin (old_lines piece) (new_lines piece) old new
    × IsDiff pieces (drop (old_lines piece) old) (drop (new_lines piece) new)

-- (Serves the code alone.) this many of the passed lines are those of the old list, the others those of the new one
abbrev pub IsPassed : {A B : Type 0} → ℕ → ℕ → List A → List B → Type 0
IsPassed removed passed old new = (removed ≤ passed) × (removed ≤ length old) × (passed ≤ removed + length new)
