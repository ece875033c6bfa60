-- How a run over an output ends.
use Rattle.std.specs.Prelude.{◌≡◌, ℕ, Bool, true, List, Option}
use Rattle.std.specs.Io.KnownBytes.{Appends}
use Rattle.std.specs.List.{AllByRecursion}
use Rattle.ti_files.specs.declared.failure.Failure.{Failure}
use Rattle.ti_files.specs.declared.failure.Failure.TheVariants.{Output, NoMemory}
use Rattle.ti_conforms.specs.Certified.{Table}
use Rattle.cur_scripts.specs.declared.calls.Call.{Call}
use Rattle.cur_play.specs.Log.{Ran, Subject, subject_of}
use Rattle.cur_play.specs.declared.answers.Answer.TheVariants.{WireFailed}
use Rattle.cur_play.specs.declared.runs.LogEntry.{LogEntry}

-- the subject of a run over an output that didn't fail, whose bytes are known
abbrev pub unfailing : Table → (ℕ → Option ℕ) → Subject (Option (List ℕ))
unfailing t partners = subject_of Appends (λ output. 0) t partners

-- no call was cut short
abbrev pub IsThrough : LogEntry → Type 0
IsThrough e = e.answer ≡ WireFailed → ⊥

abbrev pub AreThrough : List LogEntry → Type 0
AreThrough log = AllByRecursion IsThrough log

-- a run of these calls, over an output that didn't fail, in which no call was cut short
pub record RanThrough (t : Table) (partners : ℕ → Option ℕ) (old new : Option (List ℕ))
    (calls : List Call) : Type 0 where
  pub log : List LogEntry
  pub ran : Ran (unfailing t partners) old new calls log
  pub through : AreThrough log

-- there was no memory, and nothing was written; or the output has failed
abbrev pub IsUnplayed : {O : Type 0} → (O → Bool) → O → O → Failure → Type 0
IsUnplayed has_failed old new NoMemory = new ≡ old
IsUnplayed has_failed old new Output = has_failed new ≡ true
IsUnplayed has_failed old new _ = ⊥
