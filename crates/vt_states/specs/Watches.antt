-- Autowrap and insertion after each function (VT100 user guide, DECAWM; ECMA-48 8.3.125 and 8.3.106, SM and RM, with
-- 7.2.10, IRM), and the part of a state that can be read off a text.
use Rattle.std.specs.Prelude.{◌≡◌, ◌==◌, ℕ, Bool, true, false, List, [], ◌∷◌, if◌then◌else◌, Option}
use Rattle.std.specs.Option.{unwrap_or}
use Rattle.vt_term.specs.Function.{Function, ModeKind, Standard, Private, Modes, function_of}
use Rattle.vt_term.specs.Screen.{Screen, State, reset}
use Rattle.vt_term.specs.Run.{Runs}
use Rattle.vt_states.specs.declared.watches.Switches.{Switches}
use Rattle.vt_states.specs.declared.watches.Watch.{Watch}

-- the switches of a screen
abbrev pub switches_of : Screen → Switches
switches_of s = record { autowrap = s.autowrap; inserting = s.inserting }

-- the switches of the reset state
abbrev pub first_switches : Switches
first_switches = record { autowrap = true; inserting = false }

-- the switches after one mode is set or reset
abbrev pub switched : ModeKind → Bool → ℕ → Switches → Switches
switched Private on n w = if n == 7 then record w { autowrap = on } else w
switched Standard on n w = if n == 4 then record w { inserting = on } else w

abbrev pub all_switched : ModeKind → Bool → List (Option ℕ) → Switches → Switches
all_switched kind on [] w = w
all_switched kind on (n ∷ ns) w = all_switched kind on ns (switched kind on (unwrap_or n 0) w)

abbrev pub switches_after : Function → Switches → Switches
switches_after (Modes kind on ns) w = all_switched kind on ns w
switches_after _ w = w

-- the switches after tokens, one after another
abbrev pub switches_through : List (List ℕ) → Switches → Switches
switches_through [] w = w
switches_through (token ∷ tokens) w = switches_through tokens (switches_after (function_of token) w)

-- the watch agrees with the state
pub record Tells (watch : Watch) (after : State) : Type 0 where
  pub switches : switches_of after.screen ≡ watch.switches
  pub rest : after.rest ≡ watch.rest.now

-- the watch agrees with the run of the text from each reset state
abbrev pub IsWatch : List ℕ → Watch → Type 0
IsWatch text watch = (rows cols : ℕ) (after : State) → Runs (reset rows cols) text after → Tells watch after
