-- A wire that keeps the bytes in memory.
use Rattle.std.specs.Prelude.{ℕ, ◌+◌, ◌-◌, ◌≤◌, ◌≡◌, min, Bool, true, false, List, ◌++◌, length, take, refl}
use Rattle.std.proofs.Common.{sym, ap, ◌∙◌, append_assoc}
use Rattle.std.proofs.Math.Nat.{le_refl, le_trans}
use Rattle.std.proofs.lemmas.List.{append-nil}
use Rattle.cur_steps.specs.Wire.{IsWire, last_count}

pub record Taped : Type 0 where
  -- the bytes sent so far
  pub bytes : List ℕ
  -- the most bytes that it keeps
  pub capacity : ℕ
  pub failures : ℕ

-- these bytes were added at the end
pub record Adds (old new : Taped) (more : List ℕ) : Type 0 where
  pub bytes : new.bytes ≡ old.bytes ++ more
  pub capacity : new.capacity ≡ old.capacity
  pub failures : old.failures ≤ new.failures

-- the number of further bytes that it can keep
abbrev pub room : Taped → ℕ
room t = t.capacity - length t.bytes

-- one more failure, up to the highest count
abbrev pub failed_once : Taped → Taped
failed_once t = record t { failures = min (t.failures + 1) last_count }

-- the bytes of the piece that fit are kept, or there is one more failure
abbrev pub after_send : Taped → List ℕ → Bool → Taped
after_send t piece true = record t { bytes = t.bytes ++ take (min (length piece) (room t)) piece }
after_send t piece false = failed_once t

-- A tape is a wire. The proof is here since an impl's law can name nothing of proofs/.
pub Adds-lawful : IsWire Adds (λ (t : Taped). t.failures)
Adds-lawful = record {
  nothing = λ w. record { bytes = sym (append-nil w.bytes); capacity = refl; failures = le_refl w.failures };
  joins = λ a b c x y p q. record {
    bytes = q.bytes ∙ ap (λ (l : List ℕ). l ++ y) p.bytes ∙ append_assoc a.bytes x y;
    capacity = q.capacity ∙ p.capacity;
    failures = le_trans p.failures q.failures;
  };
  counts = λ a b x p. p.failures;
}
