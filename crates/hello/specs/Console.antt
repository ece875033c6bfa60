-- A writer as a wire.
use Rattle.std.specs.Prelude.{◌≤◌, ℕ, List, [], ◌++◌, Option, None, Some}
use Rattle.std.specs.Io.KnownBytes.{Appends}
use Rattle.std.proofs.Common.{◌∙◌, sym, ap, append_assoc}
use Rattle.std.proofs.Math.Nat.{le_refl, le_trans}
use Rattle.std.proofs.lemmas.List.{append-nil}
use Rattle.curses.specs.Painters.Wire.{IsWire}

-- the writer's bytes, if they are known, grew by these, and the count of failures didn't fall
pub record Wrote (old new : Option (List ℕ)) (failed failures : ℕ) (bytes : List ℕ) : Type 0 where
  pub grows : Appends old new bytes
  pub risen : failed ≤ failures

pub nothing : (a : Option (List ℕ)) → Appends a a []
nothing None = tt
nothing (Some xs) = sym (append-nil xs)

pub joins : (a b c : Option (List ℕ)) (x y : List ℕ) → Appends a b x → Appends b c y → Appends a c (x ++ y)
joins None b c x y h k = tt
joins (Some xs) None c x y h k = absurd h
joins (Some xs) (Some ys) None x y h k = absurd k
joins (Some xs) (Some ys) (Some zs) x y h k = k ∙ ap (λ (l : List ℕ). l ++ y) h ∙ append_assoc xs x y

-- A writer is a wire. The proof is here since an impl's law can name nothing of proofs/.
pub wrote_lawful : {W C : Type 0} (contents : W → Option (List ℕ)) (writer : C → W) (failures : C → ℕ)
    → IsWire (λ a b x. Wrote (contents (writer a)) (contents (writer b)) (failures a) (failures b) x) failures
wrote_lawful contents writer failures = record {
  nothing = λ w. record { grows = nothing (contents (writer w)); risen = le_refl (failures w) };
  joins = λ a b c x y p q. record {
    grows = joins (contents (writer a)) (contents (writer b)) (contents (writer c)) x y p.grows q.grows;
    risen = le_trans p.risen q.risen;
  };
  counts = λ a b x p. p.risen;
}
