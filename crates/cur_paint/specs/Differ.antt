-- The number of places in which two screens differ.
use Rattle.std.specs.Prelude.{ℕ, ◌+◌, ◌*◌, ◌<◌, ◌≤◌, ◌≡◌, Bool, false, if◌then◌else◌, zero, suc, List, length}
use Rattle.std.specs.Prelude.{slice_index_or}
use Rattle.cur_steps.specs.Inks.{blank_ink, same}
use Rattle.cur_steps.specs.declared.inks.Ink.{Ink}
use Rattle.cur_moves.specs.declared.scrolls.Scroll.{Scroll}
use Rattle.cur_moves.specs.Scrolls.{shifted}

-- the differences in one place: none or one
abbrev pub differs : (ℕ → ℕ → Ink) → (ℕ → ℕ → Ink) → ℕ → ℕ → ℕ
differs old new i j = if same (old i j) (new i j) then 0 else 1

-- the differences in the first n places of a line from a column on
abbrev pub span : (ℕ → ℕ → Ink) → (ℕ → ℕ → Ink) → ℕ → ℕ → ℕ → ℕ
span old new i from zero = 0
span old new i from (suc n) = span old new i from n + differs old new i (from + n)

-- the differences in the first n lines
abbrev pub all_differ : (ℕ → ℕ → Ink) → (ℕ → ℕ → Ink) → ℕ → ℕ → ℕ
all_differ old new cols zero = 0
all_differ old new cols (suc n) = all_differ old new cols n + span old new n 0 cols

-- a line is equal on both screens before a column, and from another one on
pub record IsSameOutside (old new : ℕ → ℕ → Ink) (i from end cols : ℕ) : Type 0 where
  pub before : (j : ℕ) → j < from → old i j ≡ new i j
  pub after : (j : ℕ) → end ≤ j → j < cols → old i j ≡ new i j

-- within these lines and columns, the screens are equal above one line, and from another one on
pub record AreSameOutside (old new : ℕ → ℕ → Ink) (from end rows cols : ℕ) : Type 0 where
  pub above : (i j : ℕ) → i < from → j < cols → old i j ≡ new i j
  pub below : (i j : ℕ) → end ≤ i → i < rows → j < cols → old i j ≡ new i j

-- (Serves the code alone.) one screen was scrolled before it is compared with the other, which is shown
pub record IsMoved (between : (ℕ → ℕ → Ink) → (ℕ → ℕ → Ink) → Type 0) (x : Scroll) (shown g new : ℕ → ℕ → Ink)
    : Type 0 where
  pub old : ℕ → ℕ → Ink
  pub known : between old new
  pub is : g ≡ shifted x old
  pub other : (i j : ℕ) → new i j ≡ shown i j

-- (Serves the code alone.) a blank screen before one that is shown
pub record IsWritten (shown old new : ℕ → ℕ → Ink) : Type 0 where
  pub blank : (i j : ℕ) → old i j ≡ blank_ink
  pub other : (i j : ℕ) → new i j ≡ shown i j

-- (Serves the code alone.) for each place of a line from a column on, whether it is the same on both screens
abbrev pub IsSameBy : (ℕ → ℕ → Ink) → (ℕ → ℕ → Ink) → ℕ → ℕ → List Bool → Type 0
IsSameBy old new i from marks = (k : ℕ) → k < length marks
    → slice_index_or marks k false ≡ same (old i (from + k)) (new i (from + k))

-- (Serves the code alone.) of the first n places of a line, which are marked as the same on both screens or not, few
-- lie between two that differ
abbrev pub HasFewGaps : List Bool → ℕ → ℕ → Type 0
HasFewGaps marks few n = (old new : ℕ → ℕ → Ink) (i from : ℕ) → IsSameBy old new i from marks
    → n ≤ span old new i from n * (few + 1)
