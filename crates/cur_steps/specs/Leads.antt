-- The effect of bytes on a terminal in every state of a kind.
use Rattle.std.specs.Prelude.{ℕ, ◌≤◌, ◌≡◌, List, ◌++◌, length}
use Rattle.std.specs.List.{AllByRecursion, concat}
use Rattle.vt_term.specs.Screen.{State}
use Rattle.vt_term.specs.Ends.{Ends}

-- The bytes are pieces of this sort, one after another, and at most `limit`. They lead every state of the kind
-- `before` to one of the kind `after`. A prefix of them leads to one of the kind `between`.
pub record Leads (IsPiece : List ℕ → Type 0) (limit : ℕ) (between before : State → Type 0) (bytes : List ℕ)
    (after : State → Type 0) : Type 0 where
  pub pieces : List (List ℕ)
  pub made : bytes ≡ concat pieces
  pub each : AllByRecursion IsPiece pieces
  pub bound : length bytes ≤ limit
  pub ends : (s : State) → before s → Ends s bytes after
  pub cut : (front back : List ℕ) → bytes ≡ front ++ back → (s : State) → before s → Ends s front between

-- of two prefixes of one list, one is a prefix of the other
pub data Meets (a b c d : List ℕ) : Type 0 where
  Within : (x : List ℕ) → a ≡ c ++ x → d ≡ x ++ b → Meets a b c d
  Past : (x : List ℕ) → c ≡ a ++ x → b ≡ x ++ d → Meets a b c d
