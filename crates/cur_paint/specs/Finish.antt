-- The bytes sent at the end of a program's screen, and their promise (X/Open Curses, endwin).
use Rattle.std.specs.Prelude.{ℕ, ◌-◌, ◌<◌, ◌≡◌, List, [], ◌++◌, length, Result, Ok, Err}
use Rattle.vt_term.specs.Screen.{State}
use Rattle.vt_term.specs.Ends.{Ends}
use Rattle.cur_steps.specs.Wire.{Rose}
use Rattle.ti_rows.specs.declared.rows.Row.TheVariants.{Cup, Sgr0, Rmacs, Cnorm, Rmcup}
use Rattle.ti_conforms.specs.Certified.{Table, IsLost, text_of}
use Rattle.cur_steps.specs.declared.inks.Ink.{Ink}
use Rattle.cur_paint.specs.Update.{Fits, IsFresh}
use Rattle.cur_paint.specs.declared.updates.Knowledge.{Knowledge}
use Rattle.cur_paint.specs.declared.updates.Status.{Status}
use Rattle.cur_paint.specs.declared.updates.Status.TheVariants.{Fresh, Known, Lost}

abbrev pub from_cnorm_text : Table → List ℕ
from_cnorm_text t = text_of t Cnorm ++ text_of t Rmcup

abbrev pub from_cup_text : Table → List ℕ
from_cup_text t = text_of t (Cup (t.rows - 1) 0) ++ from_cnorm_text t

abbrev pub from_rmacs_text : Table → List ℕ
from_rmacs_text t = text_of t Rmacs ++ from_cup_text t

-- plain attributes, the plain set, the last line's first column, a visible cursor, and the screen from before
abbrev pub end_text : Table → List ℕ
end_text t = text_of t Sgr0 ++ from_rmacs_text t

-- a lost session resynchronizes first, and a fresh one has nothing to end
abbrev pub finish_text : Table → Status → List ℕ
finish_text t Fresh = []
finish_text t Known = end_text t
finish_text t Lost = t.resync ++ end_text t

pub record Finished {W : Type 0} (went : W → W → List ℕ → Type 0) (old new : W) (t : Table)
    (before after : Knowledge) : Type 0 where
  pub sent : went old new (finish_text t before.status)
  pub fits : (g : ℕ → ℕ → Ink) (s : State) → Fits t g before.status before.cursor s
      → Ends s (finish_text t before.status) (IsFresh t)
  -- a prefix of it leads to a state that fits a lost session
  pub cut : (front back : List ℕ) → finish_text t before.status ≡ front ++ back → (g : ℕ → ℕ → Ink) (s : State)
      → Fits t g before.status before.cursor s → Ends s front (IsLost t)
  pub fresh : after.status ≡ Fresh

-- a proper prefix of it went out, and the session is lost
pub record FinishedShort {W : Type 0} (went : W → W → List ℕ → Type 0) (failures : W → ℕ) (old new : W) (t : Table)
    (before after : Knowledge) : Type 0 where
  pub front : List ℕ
  pub back : List ℕ
  pub parts : finish_text t before.status ≡ front ++ back
  pub sent : went old new front
  pub failed : Rose (failures old) (failures new)
  pub fits : (g : ℕ → ℕ → Ink) (s : State) → Fits t g before.status before.cursor s → Ends s front (IsLost t)
  -- each prefix of this prefix leads to such a state as well
  pub cut : (x y : List ℕ) → front ≡ x ++ y → (g : ℕ → ℕ → Ink) (s : State) → Fits t g before.status before.cursor s
      → Ends s x (IsLost t)
  pub lost : after.status ≡ Lost
  pub some_left : 0 < length back

abbrev pub Finishes : {W T E : Type 0} → (W → W → List ℕ → Type 0) → (W → ℕ) → W → W → Result T E → Table → Knowledge
    → Knowledge → Type 0
Finishes went failures old new (Ok x) t before after = Finished went old new t before after
Finishes went failures old new (Err e) t before after = FinishedShort went failures old new t before after
