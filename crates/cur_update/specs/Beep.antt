-- The promise of ringing the bell (X/Open Curses Issue 7, beep).
use Rattle.std.specs.Prelude.{ℕ, ◌≡◌, true, false, List, ◌++◌, Result, Some, Ok, Err}
use Rattle.vt_term.specs.Screen.{State}
use Rattle.vt_term.specs.Ends.{Ends}
use Rattle.cur_steps.specs.Wire.{StopsIn}
use Rattle.ti_rows.specs.declared.rows.Row.TheVariants.{Bel}
use Rattle.ti_conforms.specs.Certified.{Table, has}
use Rattle.ti_conforms.specs.Certified as certified
use Rattle.cur_drawing.specs.declared.refusals.Refusal.{Refusal}
use Rattle.cur_drawing.specs.declared.refusals.Refusal.TheVariants.{NoCap, IsLost}
use Rattle.cur_steps.specs.declared.inks.Ink.{Ink}
use Rattle.cur_paint.specs.Update.{Fits}
use Rattle.cur_paint.specs.declared.updates.Knowledge.{Knowledge}
use Rattle.cur_paint.specs.declared.updates.Status.TheVariants.{Lost}
use Rattle.cur_update.specs.declared.bells.Unsent.{Unsent}
use Rattle.cur_update.specs.declared.bells.Unsent.TheVariants.{Refused, Wire}

-- exactly the bell's string went out, in a session that wasn't lost, and every state that fits before fits after
pub record Rang {W : Type 0} (went : W → W → List ℕ → Type 0) (old new : W) (t : Table)
    (before after : Knowledge) : Type 0 where
  pub line : List ℕ
  pub is : t.line_of Bel ≡ Some line
  pub sent : went old new line
  pub same : after ≡ before
  pub held : before.status ≡ Lost → ⊥
  pub fits : (g : ℕ → ℕ → Ink) (s : State) → Fits t g before.status before.cursor s
      → Ends s line (Fits t g before.status before.cursor)
  -- each prefix of the string leads to a state that fits a lost session
  pub cut : (front back : List ℕ) → line ≡ front ++ back → (g : ℕ → ℕ → Ink) (s : State)
      → Fits t g before.status before.cursor s → Ends s front (certified.IsLost t)

-- a proper prefix of the string went out, and the session is lost
pub record RangShort {W : Type 0} (went : W → W → List ℕ → Type 0) (failures : W → ℕ) (old new : W) (t : Table)
    (before after : Knowledge) : Type 0 where
  pub line : List ℕ
  pub is : t.line_of Bel ≡ Some line
  pub stops : StopsIn went failures old new line
  pub open stops use *
  pub held : before.status ≡ Lost → ⊥
  pub fits : (g : ℕ → ℕ → Ink) (s : State) → Fits t g before.status before.cursor s → Ends s front (certified.IsLost t)
  -- each prefix of this prefix also leads to a state that fits a lost session
  pub cut : (x y : List ℕ) → front ≡ x ++ y → (g : ℕ → ℕ → Ink) (s : State) → Fits t g before.status before.cursor s
      → Ends s x (certified.IsLost t)
  pub lost : after.status ≡ Lost

-- nothing happened
pub record IsSame {W : Type 0} (old new : W) (before after : Knowledge) : Type 0 where
  pub wire : new ≡ old
  pub session : after ≡ before

-- the entry has no `bel`, or else the session is lost; a refused call did nothing
abbrev pub Declines : {W : Type 0} → W → W → Refusal → Table → Knowledge → Knowledge → Type 0
Declines old new NoCap t before after = (has t Bel ≡ false) × IsSame old new before after
Declines old new IsLost t before after = (has t Bel ≡ true) × (before.status ≡ Lost) × IsSame old new before after
Declines old new _ t before after = ⊥

abbrev pub Rings : {W T : Type 0} → (W → W → List ℕ → Type 0) → (W → ℕ) → W → W → Result T Unsent → Table → Knowledge
    → Knowledge → Type 0
Rings went failures old new (Ok x) t before after = Rang went old new t before after
Rings went failures old new (Err (Refused r)) t before after = Declines old new r t before after
Rings went failures old new (Err (Wire e)) t before after = RangShort went failures old new t before after
