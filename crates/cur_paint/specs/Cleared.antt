-- The belief about a terminal whose whole screen was erased.
use Rattle.std.specs.Prelude.{false, Option, Some}
use Rattle.vt_term.specs.Screen.{State}
use Rattle.ti_conforms.specs.Certified.{Table, IsLost}
use Rattle.cur_steps.specs.Inks.{plain_brush}
use Rattle.cur_steps.specs.Beliefs.{IsSeen}
use Rattle.cur_steps.specs.declared.beliefs.Mode.{Mode}
use Rattle.cur_steps.specs.declared.beliefs.Belief.{Belief}

-- after the resynchronization, which leaves the cursor as visible as it was
abbrev pub at_start : Option Mode → Belief
at_start mode = record { place = record { row = 0; col = 0 }; brush = plain_brush; graphic = Some false; mode = mode }

-- nothing is known but the believed mode of the cursor
pub record IsLeft (t : Table) (mode : Option Mode) (s : State) : Type 0 where
  pub lost : IsLost t s
  pub seen : IsSeen mode s.screen.visible

-- after `clear`: the belief before it, but for the cursor's place
abbrev pub at_corner : Belief → Belief
at_corner b = record b { place = record { row = 0; col = 0 } }
