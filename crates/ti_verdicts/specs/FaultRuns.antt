-- The run that shows a fault, in words.
use Rattle.std.specs.Prelude.{◌≡◌, ◌++◌, ℕ, List, Option, Some, None, codes, option_map}
use Rattle.ti_caps.specs.Entry.{Content, string_at}
use Rattle.ti_checker.specs.declared.causes.Cause.{Cause}
use Rattle.ti_checker.specs.declared.causes.Cause.TheVariants as causes
use Rattle.ti_checker.specs.declared.causes.No.{No}
use Rattle.ti_grades.specs.FaultRuns.{IsRowFor, IsSentFor}
use Rattle.ti_rows.specs.declared.rows.Row.{Row}
use Rattle.ti_verdicts.specs.Starts.{settings_of}
use Rattle.ti_verdicts.specs.declared.fault_runs.FaultRun.{FaultRun}
use Rattle.ti_verdicts.specs.declared.fault_runs.RunPart.{RunPart}
use Rattle.ti_verdicts.specs.declared.fault_runs.RunPart.TheVariants.{Nothing, WantedAlone, LookAfterReset, ChangesFrom}
use Rattle.ti_words.specs.Runs.{IsRunText}
use Rattle.ti_words.specs.Starts.{rendition_text, start_text}
use Rattle.ti_words.specs.Wanted.{wanted_text}
use Rattle.vt_term.specs.Look.{Rendition}
use Rattle.vt_term.specs.Run.{Runs}
use Rattle.vt_term.specs.Screen.{State, reset}

-- the part of a run that shows the cause
abbrev pub part_of : Cause → RunPart
part_of causes.FlagOut = Nothing
part_of causes.Absent = Nothing
part_of causes.AcsByte = Nothing
part_of (causes.Parm fault) = Nothing
part_of causes.StaticRead = Nothing
part_of causes.Unfinished = Nothing
part_of causes.Stuck = Nothing
part_of causes.NotTame = Nothing
part_of causes.BadLook = LookAfterReset
part_of (causes.WrongEffect probe) = ChangesFrom probe
part_of causes.NotShown = WantedAlone
part_of causes.TooLong = Nothing
part_of causes.NoResync = Nothing
part_of causes.NoMemory = Nothing

-- the state from which it goes wrong on a terminal of this height
abbrev pub start_of : ℕ → RunPart → Option (List ℕ)
start_of height Nothing = None
start_of height WantedAlone = None
start_of height LookAfterReset = None
start_of height (ChangesFrom probe) = Some (start_text height (settings_of probe) probe.fill)

-- the effect that is wanted of the row
abbrev pub wanted_of : RunPart → Option Row → Option (List ℕ)
wanted_of Nothing row = None
wanted_of WantedAlone row = option_map wanted_text row
wanted_of LookAfterReset row = option_map wanted_text row
wanted_of (ChangesFrom probe) row = option_map wanted_text row

abbrev pub made_text : Rendition → List ℕ
made_text r = codes "sent after a reset, it makes the rendition" ++ rendition_text r

-- the words name the rendition that a run of these bytes after a reset ends with
pub record SaysLook (height width : ℕ) (bytes words : List ℕ) : Type 0 where
  pub end : State
  pub runs : Runs (reset height width) bytes end
  pub says : words ≡ made_text end.screen.rendition

-- there are such words, exactly if the bytes run
abbrev pub IsLookText : ℕ → ℕ → List ℕ → Option (List ℕ) → Type 0
IsLookText height width bytes (Some words) = SaysLook height width bytes words
IsLookText height width bytes None = (end : State) → Runs (reset height width) bytes end → ⊥

-- the effect of these bytes: the rendition after a reset, or the changes from a state; none if they don't run
abbrev pub IsSeenBy : RunPart → ℕ → ℕ → List ℕ → Option (List ℕ) → Type 0
IsSeenBy Nothing height width bytes seen = seen ≡ None
IsSeenBy WantedAlone height width bytes seen = seen ≡ None
IsSeenBy LookAfterReset height width bytes seen = IsLookText height width bytes seen
IsSeenBy (ChangesFrom probe) height width bytes seen =
    IsRunText height width (settings_of probe) probe.fill bytes seen

-- none either if nothing is sent
abbrev pub IsSeen : RunPart → ℕ → ℕ → Option (List ℕ) → Option (List ℕ) → Type 0
IsSeen part height width None seen = seen ≡ None
IsSeen part height width (Some bytes) seen = IsSeenBy part height width bytes seen

-- the run that shows the refusal of the entry
pub record IsRunOf (entry : Content) (height width : ℕ) (refusal : No) (run : FaultRun) : Type 0 where
  pub row : Option Row
  pub of : IsRowFor refusal row
  pub sent_is : IsSentFor row (string_at entry refusal.cap) (option_map (λ bytes. bytes.items) run.sent)
  pub start_is : option_map (λ words. words.items) run.start ≡ start_of height (part_of refusal.cause)
  pub wanted_is : option_map (λ words. words.items) run.wanted ≡ wanted_of (part_of refusal.cause) row
  pub seen_is : IsSeen (part_of refusal.cause) height width (option_map (λ bytes. bytes.items) run.sent)
      (option_map (λ words. words.items) run.seen)
