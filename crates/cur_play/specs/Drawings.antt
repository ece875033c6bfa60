-- (Serves the code alone.) The effect of a call before anything is sent, which keeps the sizes.
use Rattle.std.specs.Prelude.{◌≡◌, true}
use Rattle.cur_drawing.specs.declared.refusals.Refusal.TheVariants.{NoMemory}
use Rattle.cur_windows.specs.Desks.{State}
use Rattle.cur_screens.specs.VirtualScreen.{Screen}
use Rattle.ti_conforms.specs.Certified.{Table}
use Rattle.cur_scripts.specs.declared.calls.Call.{Call}
use Rattle.cur_play.specs.Scenes.{Scene}
use Rattle.cur_play.specs.Windows.{takes_memory}
use Rattle.cur_play.specs.Steps.{drawn}
use Rattle.cur_play.specs.declared.answers.Answer.{Answer}
use Rattle.cur_play.specs.declared.answers.Answer.TheVariants.{Done, Refused}

-- as defined, or there was no memory
pub data Draws (t : Table) (before : Scene) (call : Call) (answer : Answer) (after : Scene) : Type 0 where
  Drawn : (after, answer) ≡ drawn t before call → Draws t before call answer after
  NoSpace : takes_memory call ≡ true → (drawn t before call).1 ≡ Done → answer ≡ Refused NoMemory → after ≡ before
      → Draws t before call answer after

pub record SameSizes (d : State) (v : Screen) (e : State) (w : Screen) : Type 0 where
  pub desk_rows : e.rows ≡ d.rows
  pub desk_cols : e.cols ≡ d.cols
  pub rows : w.rows ≡ v.rows
  pub cols : w.cols ≡ v.cols
