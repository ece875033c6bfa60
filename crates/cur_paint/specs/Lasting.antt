-- (Serves the code alone.) A wire that takes everything: once the wire below it has failed, nothing goes out.
use Rattle.std.specs.Prelude.{ℕ, ◌≡◌, Bool, true, false, List, [], ◌++◌, Err, refl}
use Rattle.std.specs.Borrow.{MutBor}
use Rattle.std.proofs.Common.{◌∙◌, le_refl, subst, sym}
use Rattle.cur_steps.specs.Wire.{IsWire, StopsIn}
use Rattle.cur_steps.proofs.Paints.{sends_then, stops_more}

-- these bytes were taken, by whether the wire below had failed before and has failed now: all of them went out, or a
-- prefix of them, or nothing
abbrev pub Goes : {W : Type 0} → (W → W → List ℕ → Type 0) → (W → ℕ) → MutBor W → MutBor W → Bool → Bool → List ℕ
    → Type 0
Goes went failures old new false false bytes = went old.now new.now bytes
Goes went failures old new false true bytes = StopsIn went failures old.now new.now bytes
Goes went failures old new true true bytes = new.now ≡ old.now
Goes went failures old new true false bytes = ⊥

pub record Lasts {W : Type 0} (went : W → W → List ℕ → Type 0) (failures : W → ℕ) (old new : MutBor W)
    (had has : Bool) (bytes : List ℕ) : Type 0 where
  pub goes : Goes went failures old new had has bytes
  pub same : new.ghost_name ≡ old.ghost_name

lasts_nothing : {W : Type 0} (went : W → W → List ℕ → Type 0) (failures : W → ℕ) → IsWire went failures
    → (a : MutBor W) (x : Bool) → Goes went failures a a x x []
lasts_nothing went failures laws a false = laws.nothing a.now
lasts_nothing went failures laws a true = refl

goes_then : {W : Type 0} (went : W → W → List ℕ → Type 0) (failures : W → ℕ) → IsWire went failures
    → (a b c : MutBor W) (k m n : Bool) (x y : List ℕ)
    → Goes went failures a b k m x → Goes went failures b c m n y → Goes went failures a c k n (x ++ y)
goes_then went failures laws a b c false false false x y h j = laws.joins a.now b.now c.now x y h j
goes_then went failures laws a b c false false true x y h j =
    sends_then {T = Unit {0}} {E = Unit {0}} went failures laws a.now b.now c.now x y (Err tt) h j
goes_then {W} went failures laws a b c false true true x y h j =
    let P : W → Type 0 = λ w. StopsIn went failures a.now w (x ++ y) in
    subst P (sym j) (stops_more went failures a.now b.now x y h)
goes_then went failures laws a b c false true false x y h j = absurd j
goes_then went failures laws a b c true true true x y h j = j ∙ h
goes_then went failures laws a b c true true false x y h j = absurd j
goes_then went failures laws a b c true false n x y h j = absurd h

abbrev pub LastsOf : {W C : Type 0} → (W → W → List ℕ → Type 0) → (W → ℕ) → (C → MutBor W) → (C → Bool) → C → C → List ℕ
    → Type 0
LastsOf went failures wire failed a b x = Lasts went failures (wire a) (wire b) (failed a) (failed b) x

-- this wire itself never fails
pub lasts_lawful : {W C : Type 0} (went : W → W → List ℕ → Type 0) (failures : W → ℕ) → IsWire went failures
    → (wire : C → MutBor W) (failed : C → Bool) → IsWire (LastsOf went failures wire failed) (λ c. 0)
lasts_lawful went failures laws wire failed = record {
  nothing = λ w. record { goes = lasts_nothing went failures laws (wire w) (failed w); same = refl };
  joins = λ a b c x y p q. record {
    goes = goes_then went failures laws (wire a) (wire b) (wire c) (failed a) (failed b) (failed c) x y p.goes q.goes;
    same = q.same ∙ p.same;
  };
  counts = λ a b x p. le_refl 0;
}
