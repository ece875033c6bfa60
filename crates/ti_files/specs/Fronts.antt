-- (Serves the code alone.) The first bytes of a file.
use Rattle.std.specs.Prelude.{ℕ, ◌≡◌, ◌≤◌, List, ◌++◌, Option, length}
use Rattle.std.specs.Io.KnownBytes.{Consumes, IsAtEnd}

-- a piece was read, and comes behind the bytes so far
pub record ReadsMore (left left_after : Option (List ℕ)) (front front_after : List ℕ) : Type 0 where
  pub piece : List ℕ
  pub read : Consumes left left_after piece
  pub appended : front_after ≡ front ++ piece

-- these bytes were read, and are all there are if there are no more than this number
pub record IsFront (left left_after : Option (List ℕ)) (most : ℕ) (front : List ℕ) : Type 0 where
  pub read : Consumes left left_after front
  pub whole : length front ≤ most → IsAtEnd left_after
