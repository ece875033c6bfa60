-- Bytes that wait for the program to take them.
use Rattle.std.specs.Prelude.{ℕ, ◌≤◌, ◌≡◌, List, ◌++◌}
use Rattle.std.proofs.Common.{sym, ap, ◌∙◌, append_assoc}
use Rattle.std.proofs.Math.Nat.{le_refl, le_trans}
use Rattle.std.proofs.lemmas.List.{append-nil}
use Rattle.cur_steps.specs.Wire.{IsWire}

pub record Posted : Type 0 where
  pub waiting : List ℕ
  -- the number of further bytes that need no more memory
  pub room : ℕ
  pub failures : ℕ

-- these bytes wait after the others
pub record Posts (old new : Posted) (more : List ℕ) : Type 0 where
  pub waiting : new.waiting ≡ old.waiting ++ more
  pub failures : old.failures ≤ new.failures

-- An outbox is a wire. The proof is here because an impl's law can't name anything of proofs/.
pub Posts-lawful : IsWire Posts (λ (t : Posted). t.failures)
Posts-lawful = record {
  nothing = λ w. record { waiting = sym (append-nil w.waiting); failures = le_refl w.failures };
  joins = λ a b c x y p q. record {
    waiting = q.waiting ∙ ap (λ (l : List ℕ). l ++ y) p.waiting ∙ append_assoc a.waiting x y;
    failures = le_trans p.failures q.failures;
  };
  counts = λ a b x p. p.failures;
}
