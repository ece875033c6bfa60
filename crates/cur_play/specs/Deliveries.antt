-- The effect of a call's bytes on the terminal, in whichever of its states it is, and their number.
use Rattle.std.specs.Prelude.{ℕ, ◌<◌, ◌≤◌, ◌^◌, ◌≡◌, true, false, List, ◌++◌, length, Option, Some}
use Rattle.vt_term.specs.Screen.{State}
use Rattle.cur_screens.specs.VirtualScreen.{Screen}
use Rattle.vt_term.specs.Ends.{Ends}
use Rattle.ti_conforms.specs.Certified.{Table, IsLost}
use Rattle.cur_steps.specs.declared.beliefs.Mode.{Mode}
use Rattle.cur_paint.specs.Limits.{IsCursor}
use Rattle.cur_paint.specs.Update.{Fits, Shows}
use Rattle.cur_paint.specs.declared.updates.Status.TheVariants.{Known}
use Rattle.cur_update.specs.Differ.{in_lines}
use Rattle.cur_update.specs.Inks.{ink_at}
use Rattle.cur_update.specs.Painters.{Painted, place_of, wanted_of}
use Rattle.cur_play.specs.Log.{is_shown, last_after, mode_after, most}
use Rattle.cur_play.specs.Outputs.{Puts}
use Rattle.cur_play.specs.declared.answers.Answer.{Answer}
use Rattle.cur_play.specs.declared.sends.Emission.{Emission}
use Rattle.cur_play.specs.declared.sends.Emission.TheVariants.{Nothing, Update}

-- the states that the terminal may be in
abbrev pub FitsIn : {C : Type 0} → Table → (ℕ → Option ℕ) → Painted C → State → Type 0
FitsIn t partners p s = Fits t (ink_at t partners p.shown) p.session.status p.session.cursor s

-- if the terminal is known, this screen was shown last
abbrev pub IsLast : {C : Type 0} → Table → (ℕ → Option ℕ) → Painted C → Screen → Type 0
IsLast t partners p last = p.session.status ≡ Known → ink_at t partners p.shown ≡ ink_at t partners last

-- if the terminal is known, the cursor was shown last in this mode
abbrev pub IsSettled : {C : Type 0} → Painted C → Mode → Type 0
IsSettled p last_mode = p.session.status ≡ Known → p.session.cursor.mode ≡ Some last_mode

-- the terminal is known, may be in this state and then shows this screen with the cursor and its mode, and isn't to be
-- cleared
pub record IsShown {C : Type 0} (t : Table) (partners : ℕ → Option ℕ) (v : Screen) (p : Painted C) (last : Screen)
    (s : State) : Type 0 where
  pub known : p.session.status ≡ Known
  pub same : in_lines last v t.cols t.rows ≡ 0
  pub fits : FitsIn t partners p s
  pub cursor : IsCursor (place_of v.cursor) s.screen.row s.screen.col
  pub mode : p.session.cursor.mode ≡ Some p.mode
  pub clear : v.clearok ≡ false

-- v is the virtual screen when the sending begins, and the painter before has the cursor's mode at that time
pub record Carries {W C : Type 0} (went : W → W → List ℕ → Type 0) (failures : W → ℕ) (old new : W) (t : Table)
    (partners : ℕ → Option ℕ) (v : Screen) (o : Emission) (answer : Answer) (before after : Painted C) : Type 0 where
  pub bytes : List ℕ
  pub sent : went old new bytes
  -- the bytes are those that the call sends, by its answer
  pub puts : Puts went failures old new t partners v o answer bytes before after
  -- every state that fits before, run over the bytes, fits after
  pub fits : (s : State) → FitsIn t partners before s → Ends s bytes (FitsIn t partners after)
  -- run over a prefix of the bytes, it fits a lost session
  pub cut : (front back : List ℕ) → bytes ≡ front ++ back → (s : State) → FitsIn t partners before s
      → Ends s front (IsLost t)
  -- after a refresh that was done, it shows the virtual screen
  pub shows : is_shown o answer ≡ true → (s : State) → FitsIn t partners before s
      → Ends s bytes (Shows t (ink_at t partners v) (wanted_of v before.mode))
  pub last : (last : Screen) → IsLast t partners before last → IsLast t partners after (last_after o answer last v)
  pub settled : (last_mode : Mode) → IsSettled before last_mode
      → IsSettled after (mode_after o answer last_mode before.mode)
  -- a refresh keeps its bound, done or cut short, and sends nothing if all is shown in a state that fits
  pub bound : o ≡ Update → (last : Screen) → last.rows ≡ t.rows → last.cols ≡ t.cols → IsLast t partners before last
      → length bytes ≤ most t before.session.status v.clearok last v
  pub idle : o ≡ Update → (last : Screen) → last.rows ≡ t.rows → last.cols ≡ t.cols → IsLast t partners before last
      → (s : State) → IsShown t partners v before last s → length bytes ≡ 0
  pub quiet : o ≡ Nothing → length bytes ≡ 0
  -- no call sends more than can be counted
  pub few : length bytes < 2 ^ 60
