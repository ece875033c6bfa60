-- A wire, which takes bytes and may fail (the output device of refresh in X/Open Curses).
use Rattle.std.specs.Prelude.{ℕ, ◌-◌, ◌^◌, ◌<◌, ◌≤◌, ◌≡◌, ◌⊎◌, List, [], ◌++◌, length, take, Result, Ok, Err, IfOk}
use Rattle.std.specs.Prelude.{OnErr}
use Rattle.std.proofs.Math.Nat.{le_refl, le_trans}

-- The laws of a wire: nothing is sent over no time, bytes sent one after the other are sent together, and failures
-- are never taken back.
pub record IsWire {W : Type 0} (went : W → W → List ℕ → Type 0) (failures : W → ℕ) : Type 0 where
  pub nothing : (w : W) → went w w []
  pub joins : (a b c : W) (x y : List ℕ) → went a b x → went b c y → went a c (x ++ y)
  pub counts : (a b : W) (x : List ℕ) → went a b x → failures a ≤ failures b

-- A wire may say nothing about its bytes. The proof is here since an impl's law can name nothing of proofs/.
pub tells_nothing : {W : Type 0} (failures : W → ℕ) → IsWire (λ a b x. failures a ≤ failures b) failures
tells_nothing failures = record {
  nothing = λ w. le_refl (failures w);
  joins = λ a b c x y p q. le_trans p q;
  counts = λ a b x p. p;
}

-- the highest count of failures
abbrev pub last_count : ℕ
last_count = 2 ^ 128 - 1

-- There is a new failure. The count stays at its highest value.
abbrev pub Rose : ℕ → ℕ → Type 0
Rose old new = (old < new) ⊎ ((old ≡ last_count) × (new ≡ last_count))

-- A first part of the piece was sent, at least one byte of it; or none was, and the wire failed.
pub record SendsSome {W E : Type 0} (went : W → W → List ℕ → Type 0) (failures : W → ℕ) (old new : W)
    (piece : List ℕ) (answer : Result ℕ E) : Type 0 where
  pub some : IfOk answer (λ n. 0 < n)
  pub within : IfOk answer (λ n. n ≤ length piece)
  pub sent : IfOk answer (λ n. went old new (take n piece))
  pub unsent : OnErr answer (went old new [])
  pub failed : OnErr answer (Rose (failures old) (failures new))

-- A prefix of the bytes was sent, then the wire failed.
pub record StopsIn {W : Type 0} (went : W → W → List ℕ → Type 0) (failures : W → ℕ) (old new : W)
    (bytes : List ℕ) : Type 0 where
  pub front : List ℕ
  pub back : List ℕ
  pub parts : bytes ≡ front ++ back
  pub some_left : 0 < length back
  pub sent : went old new front
  pub failed : Rose (failures old) (failures new)

-- All bytes were sent, or the wire failed on the way.
abbrev pub Sends : {W T E : Type 0} → (W → W → List ℕ → Type 0) → (W → ℕ) → W → W → List ℕ → Result T E → Type 0
Sends went failures old new bytes (Ok x) = went old new bytes
Sends went failures old new bytes (Err e) = StopsIn went failures old new bytes
