-- (Serves the code alone.) A wire in memory that takes as many bytes as there is memory for.
use Rattle.std.specs.Prelude.{◌≡◌, ◌≤◌, ℕ, List, ◌++◌}
use Rattle.std.proofs.Common.{◌∙◌, sym, ap, append_assoc}
use Rattle.std.proofs.Math.Nat.{le_refl, le_trans}
use Rattle.std.proofs.lemmas.List.{append-nil}
use Rattle.cur_steps.specs.Wire.{IsWire}

-- these bytes were added at the end
pub record Stores (old new : List ℕ) (failed failures : ℕ) (bytes : List ℕ) : Type 0 where
  pub grows : new ≡ old ++ bytes
  pub risen : failed ≤ failures

abbrev pub StoresOf : {C : Type 0} → (C → List ℕ) → (C → ℕ) → C → C → List ℕ → Type 0
StoresOf taken failures a b x = Stores (taken a) (taken b) (failures a) (failures b) x

-- The proof is here because an impl's law can't name anything of proofs/.
pub stores_lawful : {C : Type 0} (taken : C → List ℕ) (failures : C → ℕ) → IsWire (StoresOf taken failures) failures
stores_lawful taken failures = record {
  nothing = λ w. record { grows = sym (append-nil (taken w)); risen = le_refl (failures w) };
  joins = λ a b c x y p q. record {
    grows = q.grows ∙ ap (λ (l : List ℕ). l ++ y) p.grows ∙ append_assoc (taken a) x y;
    risen = le_trans p.risen q.risen;
  };
  counts = λ a b x p. p.risen;
}
