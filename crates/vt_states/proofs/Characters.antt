-- A character ends in its text.
use Rattle.std.proofs.Common.{◌≡◌, ℕ, zero, suc, ◌<◌, ◌≤◌, ◌&&◌, Bool, true, false, List, [], ◌∷◌, length, refl, arith, if◌then◌else◌}
use Rattle.vt_states.specs.Recordings.{at, begins_two, begins_three, begins_four, continues, character_length}

second_too : (a b : Bool) → (a && b) ≡ true → b ≡ true
second_too true b h = h
second_too false b h = cc

-- a byte that continues a character is in the text
there : (bytes : List ℕ) (k : ℕ) → continues (at bytes k) ≡ true → k < length bytes
there [] k h = cc
there (x ∷ bytes) zero h = omega arith
there (x ∷ bytes) (suc k) h = let deeper : k < length bytes = there bytes k h in omega arith

either_within : (t : Bool) (n m l : ℕ) → (t ≡ true → n ≤ l) → m ≤ l → (if t then n else m) ≤ l
either_within true n m l h k = h refl
either_within false n m l h k = k

-- a character of three bytes ends in its text even if its second byte isn't looked at, since the third continues it
pub character_within : (bytes : List ℕ) → 0 < length bytes → character_length bytes ≤ length bytes
character_within bytes some =
    either_within (begins_two (at bytes 0) (at bytes 1)) 2 _ (length bytes) (λ h. let far : 1 < length bytes = there bytes 1 (second_too _ (continues (at bytes 1)) h) in omega arith)
    (either_within (begins_three (at bytes 0) (at bytes 1) && continues (at bytes 2)) 3 _ (length bytes) (λ h. let far : 2 < length bytes = there bytes 2 (second_too (begins_three (at bytes 0) (at bytes 1)) (continues (at bytes 2)) h) in omega arith)
    (either_within (begins_four (at bytes 0) (at bytes 1) && (continues (at bytes 2) && continues (at bytes 3))) 4 1 (length bytes) (λ h. let far : 3 < length bytes = there bytes 3 (second_too (continues (at bytes 2)) (continues (at bytes 3)) (second_too (begins_four (at bytes 0) (at bytes 1)) (continues (at bytes 2) && continues (at bytes 3)) h)) in omega arith)
    (omega arith)))
