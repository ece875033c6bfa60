-- A painter's step that may fail: at Ok it leads on, at Err to the kind between. It doesn't say what would have
-- followed.
use Rattle.std.specs.Prelude.{ℕ, ◌≡◌, List, ◌++◌, Result, Ok, Err}
use Rattle.vt_term.specs.Screen.{State}
use Rattle.cur_steps.specs.Paints.{Paints}

abbrev pub then_kind : {T E : Type 0} → Result T E → (State → Type 0) → (State → Type 0) → State → Type 0
then_kind (Ok x) after between = after
then_kind (Err e) after between = between

-- the one clause of every step
abbrev pub Steps : {W T E : Type 0} → (W → W → List ℕ → Type 0) → (W → ℕ) → W → W → Result T E → (List ℕ → Type 0) → ℕ
    → (State → Type 0) → (State → Type 0) → (State → Type 0) → Type 0
Steps went failures old new answer P n between before after =
    Paints went failures old new answer P n between before (then_kind answer after between)

-- these bytes are the text, or a prefix of it if the step failed
abbrev pub Spelled : {T E : Type 0} → Result T E → List ℕ → List ℕ → Type 0
Spelled (Ok x) text bytes = bytes ≡ text
Spelled (Err e) text bytes = (more : List ℕ) × (text ≡ bytes ++ more)

-- a step that sends just this text if nothing fails, and else a prefix of it
pub record Spells {W T E : Type 0} (went : W → W → List ℕ → Type 0) (failures : W → ℕ) (old new : W)
    (answer : Result T E) (text : List ℕ) (IsPiece : List ℕ → Type 0) (limit : ℕ)
    (between before after : State → Type 0) : Type 0 where
  pub step : Steps went failures old new answer IsPiece limit between before after
  pub all : Spelled answer text step.bytes
