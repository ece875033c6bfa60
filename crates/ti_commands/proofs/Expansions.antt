-- The lines that `expand` shows of a string, and why it shows none.
use Rattle.std.proofs.Common.{◌≡◌, ◌≢◌, ◌<◌, List, [], ℕ, Result, Ok, Err, IfErr, IfOk, OnOk, true, false, subst, sym, ap, ◌∙◌, codes}
use Rattle.ti_parm.specs.Meaning.{sent}
use Rattle.ti_parm.specs.Value.{Value, values_of}
use Rattle.ti_parm.specs.declared.param.Param.{Param}
use Rattle.ti_conforms.specs.CupReach.{IsWhole, ReachesBefore, ServesAsCup, TellsWhy}
use Rattle.ti_conforms.specs.declared.cup_reach.MissKind.{MissKind}
use Rattle.ti_conforms.specs.declared.cup_reach.MissKind.TheVariants as miss_kinds
use Rattle.ti_source.specs.Escapes.{FailsBy, unescaped}
use Rattle.ti_source.specs.declared.escapes.EscapeFault.{EscapeFault}
use Rattle.ti_source.specs.declared.escapes.EscapeFault.TheVariants as escape_faults
use Rattle.vt_term.proofs.Runs.{runs_or_sticks, text_runs}
use Rattle.vt_term.specs.Run.{Runs, Sticks}
use Rattle.vt_term.specs.Screen.{State, reset}
use Rattle.vt_term.specs.Size.{IsSize}
use Rattle.vt_term.specs.declared.terminals.Stuck.{Stuck}
use Rattle.ti_files.specs.Words.{GiveParams, texts_of}
use Rattle.ti_commands.specs.Expansions.{Asked, FailsToExpand, IsExpanded, JudgesCup, Shows, ShowsCursor, IsParmFailure, cursor_line, escape_failure, no_line, serves, misses}
use Rattle.ti_requests.specs.declared.request.ExpandWords.{ExpandWords}
use Rattle.ti_files.specs.declared.failure.Failure.{Failure}
use Rattle.ti_files.specs.declared.failure.Failure.TheVariants.{Refused, RefusedUnwritten, Usage, File, Output, NoMemory}
use Rattle.ti_files.specs.declared.failure.CommandRefusal.TheVariants as refusals
use Rattle.ti_files.specs.declared.failure.Reply.{Reply}
use denote.Ref.{Bor}

-- a whole text is run to its end
whole_runs : (before : State) (bytes : List ℕ) (fed : Result (Unit {0}) Stuck) (after : State) → before.rest ≡ [] → IsWhole bytes → OnOk fed (Runs before bytes after) → IfErr fed (λ e. Sticks before bytes e.at after) → Runs before bytes after
whole_runs before bytes (Ok _) after rest whole ok stuck = ok
whole_runs before bytes (Err e) after rest whole ok stuck = absurd (runs_or_sticks before _ after bytes e.at (text_runs before bytes whole.0 rest whole.1) stuck)

pub escape_fails : (words : ExpandWords) (asked : Asked words) (e : EscapeFault) → IsSize asked.rows asked.cols → FailsBy e (unescaped words.string.now) → FailsToExpand words (escape_failure e)
escape_fails words asked escape_faults.BadEscape size h = (asked, size, h)
escape_fails words asked escape_faults.TooLong size h = (asked, size, h)
escape_fails words asked escape_faults.NoMemory size h = tt

pub sending_fails : (words : ExpandWords) (asked : Asked words) (string : List ℕ) (e : Failure) → IsSize asked.rows asked.cols → unescaped words.string.now ≡ Ok string → IsParmFailure string asked.values e → FailsToExpand words e
sending_fails words asked string (Refused refusals.Size) size q h = absurd h
sending_fails words asked string (Refused (refusals.Escape fault)) size q h = absurd h
sending_fails words asked string (Refused (refusals.Parm fault)) size q h = (asked, size, (string, q, h))
sending_fails words asked string (Refused (refusals.Token fault)) size q h = absurd h
sending_fails words asked string (Refused (refusals.Stuck fault)) size q h = absurd h
sending_fails words asked string (Refused (refusals.Source fault)) size q h = absurd h
sending_fails words asked string (Refused (refusals.Resolve fault)) size q h = absurd h
sending_fails words asked string (Refused (refusals.Pack fault)) size q h = absurd h
sending_fails words asked string (Refused (refusals.Verdict line)) size q h = absurd h
sending_fails words asked string (RefusedUnwritten refusal) size q h = absurd h
sending_fails words asked string (Usage text) size q h = absurd h
sending_fails words asked string (File path) size q h = absurd h
sending_fails words asked string Output size q h = absurd h
sending_fails words asked string NoMemory size q h = tt

-- the lines, once they are made
pub line_served : {T E : Type 0} (view : T → List ℕ) (string : List ℕ) (rows cols : ℕ) (r : Result T E) → ServesAsCup string rows cols → IfOk r (λ t. view t ≡ codes "cup yes\n") → IfOk r (λ t. JudgesCup string rows cols (view t))
line_served view string rows cols (Ok t) h e = subst (λ (l : List ℕ). JudgesCup string rows cols l) (sym e) (serves h)
line_served view string rows cols (Err x) h e = tt

pub line_missed : {T E : Type 0} (view : T → List ℕ) (string : List ℕ) (rows cols row col : ℕ) (kind : MissKind) (r : Result T E) → row < rows → col < cols → kind ≢ miss_kinds.NoMemory → ReachesBefore string rows cols row col → TellsWhy string rows cols row col kind → IfOk r (λ t. view t ≡ no_line row col) → IfOk r (λ t. JudgesCup string rows cols (view t))
line_missed view string rows cols row col kind (Ok t) a b n f h e = subst (λ (l : List ℕ). JudgesCup string rows cols l) (sym e) (misses row col kind a b n f h)
line_missed view string rows cols row col kind (Err x) a b n f h e = tt

pub cursor_shown : {T E : Type 0} (view : T → List ℕ) (rows cols : ℕ) (bytes : List ℕ) (before after : State) (fed : Result (Unit {0}) Stuck) (row col : ℕ) (r : Result T E) → before ≡ reset rows cols → IsWhole bytes → OnOk fed (Runs before bytes after) → IfErr fed (λ e. Sticks before bytes e.at after) → row ≡ after.screen.row → col ≡ after.screen.col → IfOk r (λ t. view t ≡ cursor_line row col) → IfOk r (λ t. ShowsCursor rows cols bytes (view t))
cursor_shown view rows cols bytes before after fed row col (Ok t) b whole ok stuck p q e =
    record { after = after; runs = subst (λ (s : State). Runs s bytes after) b (whole_runs before bytes fed after (ap (λ (s : State). s.rest) b) whole ok stuck); spelled = e ∙ ap (λ (n : ℕ). cursor_line n col) p ∙ ap (λ (n : ℕ). cursor_line after.screen.row n) q }
cursor_shown view rows cols bytes before after fed row col (Err x) b whole ok stuck p q e = tt

-- the parameters of two equal lists are the same
pub given_as : (slice items : List (Bor (List ℕ))) (values : List Value) → slice ≡ items → GiveParams (texts_of slice) values → GiveParams (texts_of items) values
given_as slice items values e g = subst (λ (l : List (Bor (List ℕ))). GiveParams (texts_of l) values) e g

-- the results of the steps of `expand_string`
pub size_told : (words : ExpandWords) (asked : Asked words) (e : Failure) → (IsSize asked.rows asked.cols → false ≡ true) → e ≡ Refused refusals.Size → FailsToExpand words e
size_told words asked e h q = subst (λ (f : Failure). FailsToExpand words f) (sym q) (asked, λ s. (let k : false ≡ true = h s in cc))

pub escape_told : (words : ExpandWords) (asked : Asked words) (text : List ℕ) (fault : EscapeFault) (e : Failure) → IsSize asked.rows asked.cols → text ≡ words.string.now → FailsBy fault (unescaped text) → e ≡ escape_failure fault → FailsToExpand words e
escape_told words asked text fault e size t h q =
    subst (λ (f : Failure). FailsToExpand words f) (sym q) (escape_fails words asked fault size (subst (λ (l : List ℕ). FailsBy fault (unescaped l)) t h))

pub sending_told : (words : ExpandWords) (asked : Asked words) (text string slice : List ℕ) (given : List Param) (e : Failure) → IsSize asked.rows asked.cols → text ≡ words.string.now → unescaped text ≡ Ok string → slice ≡ string → values_of given ≡ asked.values → IsParmFailure slice (values_of given) e → FailsToExpand words e
sending_told words asked text string slice given e size t u s g h =
    sending_fails words asked string e size (ap unescaped (sym t) ∙ u)
    (subst (λ (l : List ℕ). IsParmFailure l asked.values e) s (subst (λ (l : List Value). IsParmFailure slice l e) g h))

pub expanded : (words : ExpandWords) (asked : Asked words) (text string slice other : List ℕ) (given : List Param) (bytes shown : List ℕ) (rows cols : ℕ) (reply : Reply) → IsSize asked.rows asked.cols → text ≡ words.string.now → unescaped text ≡ Ok string → slice ≡ string → values_of given ≡ asked.values → sent slice (values_of given) ≡ Ok bytes → other ≡ string → shown ≡ bytes → rows ≡ asked.rows → cols ≡ asked.cols → Shows words.judges_cup rows cols other shown reply → IsExpanded words reply
expanded words asked text string slice other given bytes shown rows cols reply size t u s g q o b r k h = record {
  asked = asked;
  size = size;
  string = string;
  unescapes = ap unescaped (sym t) ∙ u;
  bytes = bytes;
  sends = ap (λ (l : List ℕ). sent l asked.values) (sym s) ∙ ap (λ (l : List Value). sent slice l) (sym g) ∙ q;
  shows = subst (λ (n : ℕ). Shows words.judges_cup n asked.cols string bytes reply) r
      (subst (λ (n : ℕ). Shows words.judges_cup rows n string bytes reply) k
      (subst (λ (l : List ℕ). Shows words.judges_cup rows cols l bytes reply) o
      (subst (λ (l : List ℕ). Shows words.judges_cup rows cols other l reply) b h)));
}
