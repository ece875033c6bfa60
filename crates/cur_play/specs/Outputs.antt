-- The bytes that a call puts on the wire.
use Rattle.std.specs.Prelude.{ℕ, ◌≡◌, List, [], Option}
use Rattle.cur_screens.specs.VirtualScreen.{Screen}
use Rattle.ti_conforms.specs.Certified.{Table}
use Rattle.cur_paint.specs.Update.{Refreshed, CutShort}
use Rattle.cur_update.specs.Beep.{Rang, RangShort}
use Rattle.cur_paint.specs.Finish.{Finished, FinishedShort, finish_text}
use Rattle.cur_update.specs.Inks.{ink_at}
use Rattle.cur_update.specs.Painters.{Painted, wanted_of}
use Rattle.cur_scripts.specs.declared.calls.Call.{Call}
use Rattle.cur_play.specs.Scenes.{Stage, scene_of}
use Rattle.cur_play.specs.Steps.{drawn}
use Rattle.cur_play.specs.declared.answers.Answer.{Answer}
use Rattle.cur_play.specs.declared.answers.Answer.TheVariants.{Done, WireFailed}
use Rattle.cur_play.specs.declared.sends.Emission.{Emission}
use Rattle.cur_play.specs.declared.sends.Emission.TheVariants.{Update, Bell, End}

-- nothing: the wire, the knowledge of the terminal and the screen shown last are unchanged
pub record IsQuiet {W C : Type 0} (old new : W) (bytes : List ℕ) (before after : Painted C) : Type 0 where
  pub none : bytes ≡ []
  pub wire : new ≡ old
  pub session : after.session ≡ before.session
  pub shown : after.shown ≡ before.shown

-- the bytes show this virtual screen, which is then the one shown last
pub record Showed {W C : Type 0} (went : W → W → List ℕ → Type 0) (old new : W) (t : Table) (partners : ℕ → Option ℕ)
    (v : Screen) (bytes : List ℕ) (before after : Painted C) : Type 0 where
  pub refreshed : Refreshed went old new t (ink_at t partners before.shown) (ink_at t partners v)
      (wanted_of v before.mode) before.session after.session
  pub all : bytes ≡ refreshed.bytes
  pub shown : after.shown ≡ v

-- a proper prefix of such a refresh
pub record ShowedShort {W C : Type 0} (went : W → W → List ℕ → Type 0) (failures : W → ℕ) (old new : W) (t : Table)
    (partners : ℕ → Option ℕ) (v : Screen) (bytes : List ℕ) (before after : Painted C) : Type 0 where
  pub cut : CutShort went failures old new t (ink_at t partners before.shown) (ink_at t partners v)
      (wanted_of v before.mode) before.session after.session
  pub all : bytes ≡ cut.front
  pub shown : after.shown ≡ before.shown

-- the bell, and the end of the program's screen: beside the bytes that go out, only the knowledge of the terminal
-- changes
pub record Told {C : Type 0} (Sends : Type 0) (sent : Sends → List ℕ) (bytes : List ℕ)
    (before after : Painted C) : Type 0 where
  pub sends : Sends
  pub all : bytes ≡ sent sends
  pub shown : after.shown ≡ before.shown

-- by the kind of output and the answer; v is the virtual screen when the sending begins
abbrev pub Puts : {W C : Type 0} → (W → W → List ℕ → Type 0) → (W → ℕ) → W → W → Table → (ℕ → Option ℕ) → Screen
    → Emission → Answer → List ℕ → Painted C → Painted C → Type 0
Puts went failures old new t partners v Update Done bytes before after =
    Showed went old new t partners v bytes before after
Puts went failures old new t partners v Update WireFailed bytes before after =
    ShowedShort went failures old new t partners v bytes before after
Puts went failures old new t partners v Bell Done bytes before after =
    Told (Rang went old new t before.session after.session) (λ x. x.line) bytes before after
Puts went failures old new t partners v Bell WireFailed bytes before after =
    Told (RangShort went failures old new t before.session after.session) (λ x. x.front) bytes before after
Puts went failures old new t partners v End Done bytes before after =
    Told (Finished went old new t before.session after.session)
    (λ x. finish_text t before.session.status) bytes before after
Puts went failures old new t partners v End WireFailed bytes before after =
    Told (FinishedShort went failures old new t before.session after.session) (λ x. x.front) bytes before after
Puts went failures old new t partners v o answer bytes before after = IsQuiet old new bytes before after

-- the painter when the sending begins
abbrev pub poised : {C : Type 0} → Table → Stage C → Call → Painted C
poised t p call = record p.painter { mode = (drawn t (scene_of p) call).0.mode }
