-- A source that gives bytes until its end, and may fail.
use Rattle.std.specs.Prelude.{ℕ, ◌-◌, ◌^◌, ◌<◌, ◌≤◌, ◌≡◌, ◌⊎◌, List, [], ◌++◌}

-- the highest count of failures
abbrev pub last_count : ℕ
last_count = 2 ^ 128 - 1

-- There is a new failure. The count stays at its highest value.
abbrev pub Rose : ℕ → ℕ → Type 0
Rose old new = (old < new) ⊎ ((old ≡ last_count) × (new ≡ last_count))

-- `all` begins with `front`, and `tells` holds of the rest
pub record Follows (tells : List ℕ → Type 0) (front all : List ℕ) : Type 0 where
  pub rest : List ℕ
  pub parts : all ≡ front ++ rest
  pub there : tells rest

-- These bytes were given between the two moments: whatever bytes were left before, they begin with these, and the
-- rest is left now. If `left` relates the reader to no list, this says only that failures aren't taken back.
pub record Gave {R : Type 0} (left : R → List ℕ → Type 0) (failures : R → ℕ) (old new : R)
    (bytes : List ℕ) : Type 0 where
  pub tells : (all : List ℕ) → left old all → Follows (left new) bytes all
  pub counts : failures old ≤ failures new

-- the most bytes that one call asks a reader for
abbrev pub piece_limit : ℕ
piece_limit = 4096

-- no bytes are left
abbrev pub AtEnd : {R : Type 0} → (R → List ℕ → Type 0) → R → Type 0
AtEnd left r = (all : List ℕ) → left r all → all ≡ []
