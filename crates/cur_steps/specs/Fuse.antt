-- A wire over memory that fails at given places.
use Rattle.std.specs.Prelude.{ℕ, ◌-◌, min, zero, suc, List, [], ◌∷◌, Option, Some, None}
use Rattle.cur_steps.specs.Wire.{IsWire}
use Rattle.cur_steps.specs.Tape.{Taped, Adds, Adds-lawful}

pub record Fused : Type 0 where
  pub tape : Taped
  -- for each coming failure, the number of bytes sent between the failure before it and itself
  pub cuts : List ℕ

-- the most bytes of a piece that the next send takes
abbrev pub until_failure : List ℕ → ℕ → ℕ
until_failure [] n = n
until_failure (cut ∷ cuts) n = min n cut

-- n bytes were sent
abbrev pub counted_down : ℕ → List ℕ → List ℕ
counted_down n [] = []
counted_down n (cut ∷ cuts) = (cut - n) ∷ cuts

-- a send failed: if the first failure was due, it has passed; else the memory was full
abbrev pub passed : List ℕ → List ℕ
passed [] = []
passed (zero ∷ cuts) = cuts
passed (suc n ∷ cuts) = suc n ∷ cuts

-- these bytes were added at the end
abbrev pub FuseAdds : Fused → Fused → List ℕ → Type 0
FuseAdds old new more = Adds old.tape new.tape more

pub FuseAdds-lawful : IsWire FuseAdds (λ (f : Fused). f.tape.failures)
FuseAdds-lawful = record {
  nothing = λ w. Adds-lawful.nothing w.tape;
  joins = λ a b c x y p q. Adds-lawful.joins a.tape b.tape c.tape x y p q;
  counts = λ a b x p. p.failures;
}

-- the number of bytes before the next failure, if there is one
abbrev pub first_of : List ℕ → Option ℕ
first_of [] = None
first_of (cut ∷ cuts) = Some cut
