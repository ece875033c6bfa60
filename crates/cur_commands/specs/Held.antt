-- (Serves the code alone.) An output, and the bytes that are held back for it.
use Rattle.std.specs.Prelude.{◌≡◌, ◌<◌, ◌≤◌, ℕ, Bool, true, List, [], ◌++◌, Option, None, Some, refl}
use Rattle.std.specs.Borrow.{MutBor}
use Rattle.std.specs.Io.KnownBytes.{Appends, append_known}
use Rattle.std.proofs.Common.{◌∙◌, sym, ap, append_assoc, arith}
use Rattle.std.proofs.Math.Nat.{le_refl, le_trans}
use Rattle.std.proofs.lemmas.List.{append-nil}
use Rattle.cur_steps.specs.Wire.{IsWire}

-- if there was a failure, the output has failed
abbrev pub IsTold : {O : Type 0} → (O → Bool) → O → ℕ → Type 0
IsTold has_failed out failures = 0 < failures → has_failed out ≡ true

-- without a failure the output's bytes and those held back for it, together, grew by these bytes
pub record Holds {O : Type 0} (contents : O → Option (List ℕ)) (has_failed : O → Bool) (old new : MutBor O)
    (held kept : List ℕ) (failed failures : ℕ) (bytes : List ℕ) : Type 0 where
  pub risen : failed ≤ failures
  pub grows : failures ≡ 0 → Appends (append_known (contents old.now) held) (append_known (contents new.now) kept) bytes
  pub told : IsTold has_failed old.now failed → IsTold has_failed new.now failures
  -- from the first failure on nothing is put on the output
  pub stays : 0 < failed → new.now ≡ old.now
  pub same : new.ghost_name ≡ old.ghost_name

pub appends_nothing : (a : Option (List ℕ)) → Appends a a []
appends_nothing None = tt
appends_nothing (Some xs) = sym (append-nil xs)

pub appends_joins : (a b c : Option (List ℕ)) (x y : List ℕ) → Appends a b x → Appends b c y → Appends a c (x ++ y)
appends_joins None b c x y h k = tt
appends_joins (Some xs) None c x y h k = absurd h
appends_joins (Some xs) (Some ys) None x y h k = absurd k
appends_joins (Some xs) (Some ys) (Some zs) x y h k = k ∙ ap (λ (l : List ℕ). l ++ y) h ∙ append_assoc xs x y

pub holds_joins : {O : Type 0} (contents : O → Option (List ℕ)) (has_failed : O → Bool) (a b c : MutBor O)
    (p q r : List ℕ) (k m n : ℕ) (x y : List ℕ)
    → Holds contents has_failed a b p q k m x → Holds contents has_failed b c q r m n y
    → Holds contents has_failed a c p r k n (x ++ y)
holds_joins contents has_failed a b c p q r k m n x y h j = record {
  risen = le_trans h.risen j.risen;
  grows =
      λ none. appends_joins _ _ _ x y (h.grows (let le : m ≤ n = j.risen in omega (arith, none, le))) (j.grows none);
  told = λ t. j.told (h.told t);
  stays = λ some. j.stays (let le : k ≤ m = h.risen in omega (arith, some, le)) ∙ h.stays some;
  same = j.same ∙ h.same;
}

abbrev pub HoldsOf : {O C : Type 0} → (O → Option (List ℕ)) → (O → Bool) → (C → MutBor O) → (C → List ℕ) → (C → ℕ) → C
    → C → List ℕ → Type 0
HoldsOf contents has_failed output held failures a b x =
    Holds contents has_failed (output a) (output b) (held a) (held b) (failures a) (failures b) x

-- An output with its held-back bytes is a wire. The proof is here because an impl's law can't name anything of proofs/.
pub holds_lawful : {O C : Type 0} (contents : O → Option (List ℕ)) (has_failed : O → Bool) (output : C → MutBor O)
    (held : C → List ℕ) (failures : C → ℕ) → IsWire (HoldsOf contents has_failed output held failures) failures
holds_lawful contents has_failed output held failures = record {
  nothing = λ w. record {
    risen = le_refl (failures w);
    grows = λ none. appends_nothing _;
    told = λ t. t;
    stays = λ some. refl;
    same = refl;
  };
  joins = λ a b c x y p q. holds_joins contents has_failed (output a) (output b) (output c) (held a) (held b) (held c)
      (failures a) (failures b) (failures c) x y p q;
  counts = λ a b x p. p.risen;
}
