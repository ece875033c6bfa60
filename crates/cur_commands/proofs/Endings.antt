-- How `play` and `show` end.
use Rattle.std.proofs.Common.{◌≡◌, ℕ, List, Ok, refl, subst, sym, ap, ◌∙◌}
use Rattle.std.proofs.Common.{[], ◌++◌}
use Rattle.std.specs.Prelude.{Option, Some, Result, Err, IfErr, IsOk}
use Rattle.vt_term.specs.Run.{Runs, Sticks}
use Rattle.vt_term.specs.Screen.{State, reset}
use Rattle.vt_term.specs.declared.terminals.Stuck.{Stuck}
use Rattle.vt_term.proofs.Runs.{runs_or_sticks}
use Rattle.ti_commands.specs.Feeds.{ShowsAfter}
use Rattle.ti_conforms.specs.Certified.{Table}
use Rattle.cur_play.specs.Log.{Ran}
use Rattle.cur_play.specs.declared.runs.LogEntry.{LogEntry}
use Rattle.cur_commands.specs.Shows.{IsTaken, RanWhole, ShowsRun, refusals_text}
use Rattle.cur_commands.specs.Through.{AreThrough, unfailing}
use Rattle.ti_cert.specs.Table.{CheckedTable}
use Rattle.ti_files.specs.Contents.{Held}
use Rattle.ti_files.specs.declared.failure.Failure.{Failure}
use Rattle.cur_scripts.specs.declared.calls.Call.{Call}
use Rattle.cur_scripts.specs.Texts.{script_of}
use Rattle.cur_commands.specs.Commands.{FailsAtScript, Given}
use Rattle.cur_commands.specs.Preparations.{Prepared}
use Rattle.cur_commands.specs.Scripts.{IsScriptFailure}
use Rattle.ti_requests.specs.declared.request.ScriptWords.{ScriptWords}

pub script_refused : (held : Held) (words : ScriptWords) (height width : ℕ) (checked : CheckedTable) (text slice : List ℕ) (e : Failure) → Prepared held words height width checked text → slice ≡ text → IsScriptFailure slice e → FailsAtScript held words e
script_refused held words height width checked text slice e prepared same h = record {
  height = height;
  width = width;
  checked = checked;
  text = text;
  prepared = prepared;
  refused = subst (λ (l : List ℕ). IsScriptFailure l e) same h;
}

-- what the words give, once all of it is read
abbrev pub given_by : (held : Held) (words : ScriptWords) (height width : ℕ) (checked : CheckedTable) (text slice : List ℕ) (calls lent : List Call) → Prepared held words height width checked text → slice ≡ text → script_of slice ≡ Ok calls → lent ≡ calls
    → Given held words
given_by held words height width checked text slice calls lent prepared same reads lends = record {
  height = height;
  width = width;
  checked = checked;
  text = text;
  prepared = prepared;
  calls = lent;
  reads =
      let P : List ℕ → Type 0 = λ l. script_of l ≡ Ok calls in
      let Q : List Call → Type 0 = λ l. script_of text ≡ Ok l in
      subst Q (sym lends) (subst P same reads);
}

pub ran_whole : (t : Table) (partners : ℕ → Option ℕ) (calls : List Call) (before bytes : List ℕ) (log : List LogEntry) → Ran (unfailing t partners) (Some before) (Some bytes) calls log → before ≡ [] → AreThrough log → RanWhole t partners calls bytes
ran_whole t partners calls before bytes log ran none through =
    let P : List ℕ → Type 0 = λ b. Ran (unfailing t partners) (Some b) (Some bytes) calls log in
    record { log = log; ran = subst P none ran; through = through }

pub shows_run : (t : Table) (partners : ℕ → Option ℕ) (rows cols : ℕ) (calls : List Call) (before bytes slice text lines screen : List ℕ) (log lent : List LogEntry) → Ran (unfailing t partners) (Some before) (Some bytes) calls log → before ≡ [] → AreThrough log
    → slice ≡ bytes → ShowsAfter rows cols slice screen → lines ≡ refusals_text 0 lent → lent ≡ log → text ≡ lines ++ screen → ShowsRun t partners rows cols calls text
unfolding ran_whole
shows_run t partners rows cols calls before bytes slice text lines screen log lent ran none through same shows told lends joined =
    let P : List ℕ → Type 0 = λ b. ShowsAfter rows cols b screen in
    let here : ShowsAfter rows cols bytes screen = subst P same shows in
    record {
      bytes = bytes;
      whole = ran_whole t partners calls before bytes log ran none through;
      after = here.after;
      runs = here.runs;
      spelled = joined ∙ ap (λ (l : List ℕ). l ++ screen) (told ∙ ap (λ (l : List LogEntry). refusals_text 0 l) lends) ∙ ap (λ (l : List ℕ). refusals_text 0 log ++ l) here.spelled;
    }

-- the same terminal, its size by another name
pub shown_at : (t : Table) (partners : ℕ → Option ℕ) (rows cols height width : ℕ) (calls : List Call) (text : List ℕ) → rows ≡ height → cols ≡ width → ShowsRun t partners rows cols calls text → ShowsRun t partners height width calls text
shown_at t partners rows cols height width calls text high wide h =
    let P : ℕ → Type 0 = λ n. ShowsRun t partners n cols calls text in
    let Q : ℕ → Type 0 = λ n. ShowsRun t partners height n calls text in
    subst Q wide (subst P high h)

-- a text that the terminal takes doesn't get stuck
pub taken_ok : (s u : State) (bytes : List ℕ) (fed : Result (Unit {0}) Stuck) (rows cols : ℕ) → s ≡ reset rows cols → IsTaken rows cols bytes → IfErr fed (λ e. Sticks s bytes e.at u) → IsOk fed
taken_ok s u bytes (Ok x) rows cols e h k = refl
taken_ok s u bytes (Err x) rows cols e h k = let P : State → Type 0 = λ y. Runs y bytes h.after in absurd (runs_or_sticks s h.after u bytes x.at (subst P (sym e) h.runs) k)
