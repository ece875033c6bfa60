-- The bytes that a painter sends: they lead from one kind of state to another; only a prefix of them is sent if the
-- wire fails.
use Rattle.std.specs.Prelude.{ℕ, List, Result}
use Rattle.vt_term.specs.Screen.{State}
use Rattle.cur_steps.specs.Wire.{Sends}
use Rattle.cur_steps.specs.Leads.{Leads}

pub record Paints {W T E : Type 0} (went : W → W → List ℕ → Type 0) (failures : W → ℕ) (old new : W)
    (answer : Result T E) (IsPiece : List ℕ → Type 0) (limit : ℕ)
    (between before after : State → Type 0) : Type 0 where
  pub bytes : List ℕ
  pub leads : Leads IsPiece limit between before bytes after
  pub sends : Sends went failures old new bytes answer
