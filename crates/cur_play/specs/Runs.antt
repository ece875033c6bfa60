-- (Serves the code alone.) A run on a wire behind a reference.
use Rattle.std.specs.Prelude.{◌≡◌, List}
use Rattle.std.specs.Borrow.{MutBor}
use Rattle.cur_scripts.specs.declared.calls.Call.{Call}
use Rattle.cur_play.specs.Log.{HasRun, Ran, Subject}
use Rattle.cur_play.specs.declared.runs.LogEntry.{LogEntry}

pub record RanOn {W : Type 0} (about : Subject W) (old new : MutBor W) (calls : List Call)
    (log : List LogEntry) : Type 0 where
  pub ran : Ran about old.now new.now calls log
  pub same : new.ghost_name ≡ old.ghost_name

-- a run whose log isn't kept, on a wire behind a reference
pub record HasRunOn {W : Type 0} (about : Subject W) (old new : MutBor W) (calls : List Call) : Type 0 where
  pub ran : HasRun about old.now new.now calls
  pub same : new.ghost_name ≡ old.ghost_name
