-- The lines below the fixed line of a message.
use Rattle.std.specs.Prelude.{◌≡◌, ◌⊎◌, ◌==◌, ◌≤◌, ℕ, false, List, [], ◌∷◌, ◌++◌, codes}
use Rattle.std.specs.List.{AllByRecursion, ends_with}

-- a character that a terminal prints and never takes for a part of a sequence
pub record IsPrintable (byte : ℕ) : Type 0 where
  pub above : 32 ≤ byte
  pub below : byte ≤ 126

-- the end of a suggestion's line
abbrev pub suggestion_end : List ℕ
suggestion_end = codes " would be right on T"

-- The words of a remark can be printed, and can't be taken for a suggestion.
pub record IsRemark (words : List ℕ) : Type 0 where
  pub printable : AllByRecursion IsPrintable words
  pub own : ends_with (λ a b. a == b) words suggestion_end ≡ false

-- a subject in quotes, and words about it
abbrev pub quoted : List ℕ → List ℕ → List ℕ
quoted subject words = 39 ∷ (subject ++ 39 ∷ words)

-- the remark comes last, or is left out
abbrev pub MayAdd : List ℕ → List (List ℕ) → List (List ℕ) → Type 0
MayAdd words before after = (after ≡ before) ⊎ (after ≡ before ++ words ∷ [])
