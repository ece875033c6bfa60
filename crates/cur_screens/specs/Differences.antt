-- Where two lists of cells differ: the least place and the greatest one.
use Rattle.std.specs.Prelude.{ℕ, ◌+◌, ◌-◌, ◌<◌, ◌≤◌, ◌≡◌, List, length, slice_index_or, Option, Some, None}
use Rattle.cur_drawing.specs.Cells.{Content, space}
use Rattle.cur_drawing.specs.declared.spans.Span.{Span}

abbrev pub AreEqualAt : List Content → List Content → ℕ → Type 0
AreEqualAt a b k = slice_index_or a k space ≡ slice_index_or b k space

-- a place of these lists in which they differ
pub record DifferAt (a b : List Content) (k : ℕ) : Type 0 where
  pub within : k < length a
  pub apart : AreEqualAt a b k → ⊥

-- equal in all places from one on and before another
abbrev pub AreEqualIn : List Content → List Content → ℕ → ℕ → Type 0
AreEqualIn a b from to = (k : ℕ) → from ≤ k → k < to → AreEqualAt a b k

abbrev pub IsFirst : List Content → List Content → Option ℕ → Type 0
IsFirst a b None = AreEqualIn a b 0 (length a)
IsFirst a b (Some k) = DifferAt a b k × AreEqualIn a b 0 k

abbrev pub IsLast : List Content → List Content → Option ℕ → Type 0
IsLast a b None = AreEqualIn a b 0 (length a)
IsLast a b (Some k) = DifferAt a b k × AreEqualIn a b (k + 1) (length a)

-- the places of these lists from the first one in which they differ to the last one
pub record HasChanges (a b : List Content) (s : Span) : Type 0 where
  pub within : s.at + s.size ≤ length a
  pub before : AreEqualIn a b 0 s.at
  pub first : DifferAt a b s.at
  pub last : DifferAt a b (s.at + s.size - 1)
  pub after : AreEqualIn a b (s.at + s.size) (length a)

abbrev pub IsChanged : List Content → List Content → Option Span → Type 0
IsChanged a b None = AreEqualIn a b 0 (length a)
IsChanged a b (Some s) = HasChanges a b s
