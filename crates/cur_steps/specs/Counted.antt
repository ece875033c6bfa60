-- (Serves the code alone.) A wire whose bytes are counted.
use Rattle.std.specs.Prelude.{ℕ, ◌+◌, ◌^◌, ◌<◌, ◌≡◌, List, ◌++◌, length, refl}
use Rattle.std.specs.Borrow.{MutBor}
use Rattle.std.proofs.Common.{◌∙◌, arith, length-append}
use Rattle.cur_steps.specs.Wire.{IsWire}

-- these bytes were sent, and were counted unless the count reached its end
pub record Counts {W : Type 0} (went : W → W → List ℕ → Type 0) (old new : MutBor W) (from to : ℕ)
    (bytes : List ℕ) : Type 0 where
  pub inner : went old.now new.now bytes
  pub counted : from + length bytes < 2 ^ 128 → to ≡ from + length bytes
  pub same : new.ghost_name ≡ old.ghost_name

pub counts_joins : {W : Type 0} (went : W → W → List ℕ → Type 0) (failures : W → ℕ) → IsWire went failures
    → (a b c : MutBor W) (k m n : ℕ) (x y : List ℕ)
    → Counts went a b k m x → Counts went b c m n y → Counts went a c k n (x ++ y)
counts_joins went failures laws a b c k m n x y h j = record {
  inner = laws.joins a.now b.now c.now x y h.inner j.inner;
  counted = λ lt. (let first : m ≡ k + length x = h.counted (omega (arith, length-append x y)) in
      let second : n ≡ m + length y = j.counted (omega (arith, length-append x y)) in omega (arith, length-append x y));
  same = j.same ∙ h.same;
}

abbrev pub CountsOf : {W C : Type 0} → (W → W → List ℕ → Type 0) → (C → MutBor W) → (C → ℕ) → C → C → List ℕ → Type 0
CountsOf went wire sent a b x = Counts went (wire a) (wire b) (sent a) (sent b) x

pub counts_lawful : {W C : Type 0} (went : W → W → List ℕ → Type 0) (failures : W → ℕ) → IsWire went failures
    → (wire : C → MutBor W) (sent : C → ℕ) → IsWire (CountsOf went wire sent) (λ c. failures (wire c).now)
counts_lawful went failures laws wire sent = record {
  nothing = λ w. record { inner = laws.nothing (wire w).now; counted = λ lt. omega arith; same = refl };
  joins =
      λ a b c x y p q. counts_joins went failures laws (wire a) (wire b) (wire c) (sent a) (sent b) (sent c) x y p q;
  counts = λ a b x p. laws.counts (wire a).now (wire b).now x p.inner;
}
