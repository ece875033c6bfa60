-- Runs from a given state of the terminal.
use Rattle.std.proofs.Common.{◌≡◌, ◌*◌, ◌∙◌, ℕ, List, Option, Some, None, replicate, sym, ap, subst}
use Rattle.vt_term.proofs.Runs.{runs_once, runs_or_sticks}
use Rattle.vt_term.specs.Run.{Runs, Sticks}
use Rattle.vt_term.specs.Screen.{Settings, State, reset, with_settings}
use Rattle.ti_words.specs.Runs.{IsRunText, IsTextFrom, RunsFrom, StartsWith}

-- there is one state that begins so
pub one_start : (height width : ℕ) (settings : Settings) (fill : ℕ) (s t : State) → StartsWith height width settings fill s → StartsWith height width settings fill t → t ≡ s
one_start height width settings fill s t a b =
    let one : b.printed ≡ a.printed = runs_once (reset height width) a.printed b.printed (replicate (height * width) fill) a.prints b.prints in
    b.set ∙ (ap (λ (printed : State). record printed { screen = with_settings settings printed.screen }) one ∙ sym a.set)

-- the words for a run from it are those for a run from every such state
pub told_from_start : (height width : ℕ) (settings : Settings) (fill : ℕ) (bytes : List ℕ) (start : State) (found : Option (List ℕ)) → StartsWith height width settings fill start → IsTextFrom start settings fill bytes found
    → IsRunText height width settings fill bytes found
told_from_start height width settings fill bytes start (Some words) is says = record {
  end = says.end;
  run = record { start = start; starts = is; runs = says.runs };
  says = says.says;
}
told_from_start height width settings fill bytes start None is never = λ end run.
    never end (subst (λ (s : State). Runs s bytes end) (one_start height width settings fill start run.start is run.starts) run.runs)

-- a character that gets stuck is in no such state
pub stuck_never_starts : (height width : ℕ) (settings : Settings) (fill : ℕ) (after : State) (at : ℕ) → Sticks (reset height width) (replicate (height * width) fill) at after
    → (start : State) → StartsWith height width settings fill start → ⊥
stuck_never_starts height width settings fill after at stuck start is =
    runs_or_sticks (reset height width) is.printed after (replicate (height * width) fill) at is.prints stuck

-- without such a state nothing runs from it
pub nowhere_never_runs : (height width : ℕ) (settings : Settings) (fill : ℕ) (bytes : List ℕ) → ((start : State) → StartsWith height width settings fill start → ⊥)
    → (end : State) → RunsFrom height width settings fill bytes end → ⊥
nowhere_never_runs height width settings fill bytes none end run = none run.start run.starts
