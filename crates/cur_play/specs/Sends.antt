-- (Serves the code alone.) The virtual screen and the status after a sending, done or cut short.
use Rattle.std.specs.Prelude.{◌≡◌}
use Rattle.ti_rows.specs.declared.rows.Row.TheVariants.{Bel}
use Rattle.cur_screens.specs.VirtualScreen.{Screen, refreshed}
use Rattle.ti_conforms.specs.Certified.{Table, has}
use Rattle.cur_paint.specs.declared.updates.Status.{Status}
use Rattle.cur_paint.specs.declared.updates.Status.TheVariants.{Fresh, Known, Lost}
use Rattle.cur_play.specs.Steps.{rung}
use Rattle.cur_play.specs.declared.answers.Answer.{Answer}
use Rattle.cur_play.specs.declared.answers.Answer.TheVariants.{Done, Refused, WireFailed}
use Rattle.cur_play.specs.declared.sends.Emission.{Emission}
use Rattle.cur_play.specs.declared.sends.Emission.TheVariants.{Nothing, Update, Bell, End}

-- the virtual screen and the status after it
pub record Leaves (v : Screen) (left : Status) (w : Screen) (after : Status) : Type 0 where
  pub screen : w ≡ v
  pub status : after ≡ left

-- as `Leaves`, after a bell with this answer
pub record LeavesRung (t : Table) (v : Screen) (before : Status) (a : Answer) (status : Status) (w : Screen)
    (after : Status) : Type 0 where
  pub answers : rung (has t Bel) before ≡ a
  pub leaves : Leaves v status w after

abbrev pub Delivers : Table → Emission → Screen → Status → Answer → Screen → Status → Type 0
Delivers t Nothing v status Done w after = Leaves v status w after
Delivers t Update v status Done w after = Leaves (refreshed v) Known w after
Delivers t Update v status WireFailed w after = Leaves v Lost w after
Delivers t Bell v status Done w after = LeavesRung t v status Done status w after
Delivers t Bell v status (Refused r) w after = LeavesRung t v status (Refused r) status w after
Delivers t Bell v status WireFailed w after = LeavesRung t v status Done Lost w after
Delivers t End v status Done w after = Leaves v Fresh w after
Delivers t End v status WireFailed w after = Leaves v Lost w after
Delivers t o v status answer w after = ⊥
