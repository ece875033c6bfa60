-- The states that a terminal reaches by the bytes that a program takes, stated by runs of a terminal alone.
use Rattle.std.specs.Prelude.{ℕ, ℤ, ◌≡◌, true, List, [], ◌++◌, take}
use Rattle.vt_term.specs.Ends.{Ends}
use Rattle.vt_term.specs.Screen.{State}
use Rattle.ti_cert.specs.Table.{certified}
use Rattle.ti_cert.specs.Verified.{partner_in}
use Rattle.ti_conforms.specs.Certified.{IsChecked, IsLost}
use Rattle.cur_scripts.specs.declared.calls.Call.{Call}
use Rattle.cur_paint.specs.Update.{IsFresh, Shows}
use Rattle.cur_update.specs.Inks.{ink_at}
use Rattle.cur_update.specs.Painters.{wanted_of}
use Rattle.cur_play.specs.Deliveries.{FitsIn}
use Rattle.cur_play.specs.Log.{is_shown}
use Rattle.cur_play.specs.Outputs.{poised}
use Rattle.cur_play.specs.Scenes.{first, scene_of}
use Rattle.cur_play.specs.Steps.{drawn, output_of}
use Rattle.cur_play.specs.declared.answers.Answer.{Answer}
use Rattle.cur_play.specs.declared.sends.Emission.TheVariants.{Nothing}
use Rattle.curses_c.specs.Held.{CopiesLines, Hands, Loses, Makes, Recolors, noting}
use Rattle.curses_c.specs.declared.held.Held.{Held}

-- a session after some of the calls that may be made on it, colors of pairs, copies of lines, and takings of waiting
-- bytes, with all bytes taken; a change of the noted line changes none of these
pub data Reaches (may : Call → Type 0) (h : Held) : List ℕ → Held → Type 0 where
  Begun : (taken : List ℕ) (k : Held) → taken ≡ [] → k ≡ h → Reaches may h taken k
  Called : (taken : List ℕ) (mid k : Held) (call : Call) (answer : Answer) → Reaches may h taken mid
      → Makes mid call answer k → may call → Reaches may h taken k
  Took : (before taken : List ℕ) (mid k : Held) (room : List ℕ) (count : ℕ) → Reaches may h before mid
      → Hands mid room count k → taken ≡ before ++ take count mid.outbox.waiting → Reaches may h taken k
  Noted : (taken : List ℕ) (mid k : Held) (line : ℕ) → Reaches may h taken mid → k ≡ noting line mid
      → Reaches may h taken k
  Recolored : (taken : List ℕ) (mid k : Held) (p f b : ℤ) (answer : Answer) → Reaches may h taken mid
      → Recolors p f b mid answer k → Reaches may h taken k
  CopiedLines : (taken : List ℕ) (mid k : Held) (n : ℕ) (top bottom : ℤ) (answer : Answer) → Reaches may h taken mid
      → CopiesLines n top bottom mid answer k → Reaches may h taken k

-- any calls may be made
abbrev pub Played : Held → List ℕ → Held → Type 0
Played h taken k = Reaches (λ call. Unit {0}) h taken k

-- only calls that send nothing
abbrev pub Rests : Held → List ℕ → Held → Type 0
Rests h taken k = Reaches (λ call. output_of call ≡ Nothing) h taken k

-- the states that the terminal may be in if nothing waits
abbrev pub FitsHeld : Held → State → Type 0
FitsHeld h s = FitsIn (certified h.session.painter.checked) (partner_in h.session.painter.checked) h.session.painter s

-- the terminal shows the virtual screen as it is when the call sends
abbrev pub ShowsAfter : Held → Call → State → Type 0
ShowsAfter h call s =
    let t = certified h.session.painter.checked in
    let v = (drawn t (scene_of h.session) call).0.screen in
    Shows t (ink_at t (partner_in h.session.painter.checked) v) (wanted_of v (poised t h.session call).mode) s

-- a session without waiting bytes, and a state that the terminal may be in
pub record Begins (h : Held) (s : State) : Type 0 where
  pub nothing : h.outbox.waiting ≡ []
  pub checked : IsChecked (certified h.session.painter.checked)
  pub fits : FitsHeld h s

-- All bytes taken and all that wait lead the terminal to a state that fits.
abbrev pub CallsReach : Type 0
CallsReach =
    (h k : Held) (taken : List ℕ) (s : State) → Played h taken k → Begins h s
    → Ends s (taken ++ k.outbox.waiting) (FitsHeld k)

-- After a refresh that was done, once nothing waits, a terminal that got all bytes taken shows the screen.
abbrev pub RefreshesShow : Type 0
RefreshesShow =
    (h mid k last : Held) (taken more : List ℕ) (call : Call) (answer : Answer) (s : State) → Played h taken mid
    → Makes mid call answer k → is_shown (output_of call) answer ≡ true
    → Rests k more last → last.outbox.waiting ≡ [] → Begins h s → Ends s (taken ++ more) (ShowsAfter mid call)

-- If the terminal got only a prefix of the sent bytes, everything begins anew from its state once the session is lost.
abbrev pub LossesFit : Type 0
LossesFit =
    (h mid k : Held) (taken front back : List ℕ) (s : State) → Played h taken mid
    → taken ++ mid.outbox.waiting ≡ front ++ back → Loses mid k → Begins h s
    → Ends s front (Begins k)

-- A lost session, also one that was opened anew, begins with each state that cut output may have left.
abbrev pub LossesBegin : Type 0
LossesBegin =
    (h k : Held) (s : State) → Loses h k → IsChecked (certified h.session.painter.checked)
    → IsLost (certified h.session.painter.checked) s → Begins k s

-- An opened session begins with each fresh terminal.
abbrev pub OpeningsBegin : Type 0
OpeningsBegin =
    (h : Held) (s : State) → scene_of h.session ≡ first (certified h.session.painter.checked) → h.outbox.waiting ≡ []
    → IsChecked (certified h.session.painter.checked)
    → IsFresh (certified h.session.painter.checked) s → Begins h s
