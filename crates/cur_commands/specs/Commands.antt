-- The replies of `play` and `show`, by the contents of their files. `table` and `partners` are the facts that a painter
-- may use about the strings of a verified entry.
use Rattle.std.specs.Prelude.{◌≡◌, ◌⊎◌, ℕ, Bool, List, Option, Ok}
use Rattle.ti_cert.specs.Table.{CheckedTable}
use Rattle.ti_files.specs.Contents.{Held}
use Rattle.ti_commands.specs.Replies.{IsText}
use Rattle.ti_files.specs.declared.failure.Failure.{Failure}
use Rattle.ti_files.specs.declared.failure.Failure.TheVariants.{NoMemory}
use Rattle.ti_files.specs.declared.failure.Reply.{Reply}
use Rattle.ti_conforms.specs.Certified.{Table}
use Rattle.cur_scripts.specs.declared.calls.Call.{Call}
use Rattle.cur_scripts.specs.Texts.{script_of}
use Rattle.cur_commands.specs.Preparations.{FailsToPrepare, Prepared}
use Rattle.cur_commands.specs.Scripts.{IsScriptFailure}
use Rattle.cur_commands.specs.Shows.{ShowsRun}
use Rattle.cur_commands.specs.Through.{IsUnplayed, RanThrough}
use Rattle.ti_requests.specs.declared.request.ScriptWords.{ScriptWords}

-- what the words give: a size, an entry that conforms at it and has these strings, and calls
pub record Given (held : Held) (words : ScriptWords) : Type 0 where
  pub height : ℕ
  pub width : ℕ
  pub checked : CheckedTable
  pub text : List ℕ
  pub prepared : Prepared held words height width checked text
  pub calls : List Call
  pub reads : script_of text ≡ Ok calls

-- The output received the bytes of a run of the script's calls, and no call was cut short.
pub record IsPlayed (table : CheckedTable → Table) (partners : CheckedTable → ℕ → Option ℕ) (held : Held)
    (words : ScriptWords) (old new : Option (List ℕ)) : Type 0 where
  pub given : Given held words
  pub ran : RanThrough (table given.checked) (partners given.checked) old new given.calls

-- the reply is about a run of the script's calls and the screen that it leaves
pub record IsShown (table : CheckedTable → Table) (partners : CheckedTable → ℕ → Option ℕ) (held : Held)
    (words : ScriptWords) (reply : Reply) : Type 0 where
  pub given : Given held words
  pub text : List ℕ
  pub shows : ShowsRun (table given.checked) (partners given.checked) given.height given.width given.calls text
  pub says : IsText text reply

-- the file's text is no script, and everything before it is right
pub record FailsAtScript (held : Held) (words : ScriptWords) (failure : Failure) : Type 0 where
  pub height : ℕ
  pub width : ℕ
  pub checked : CheckedTable
  pub text : List ℕ
  pub prepared : Prepared held words height width checked text
  pub refused : IsScriptFailure text failure

-- everything is right, but the run fails: there is no memory, or the output has failed
pub record FailsInRun {O : Type 0} (held : Held) (words : ScriptWords) (has_failed : O → Bool) (old new : O)
    (failure : Failure) : Type 0 where
  pub given : Given held words
  pub unplayed : IsUnplayed has_failed old new failure

-- everything is right, but there is no memory for the run or its reply
pub record FailsForMemory (held : Held) (words : ScriptWords) (failure : Failure) : Type 0 where
  pub given : Given held words
  pub lacks : failure ≡ NoMemory

-- the words come first, then the files in their order, then the run
abbrev pub FailsToPlay : {O : Type 0} → Held → ScriptWords → (O → Bool) → O → O → Failure → Type 0
FailsToPlay held words has_failed old new failure =
    FailsToPrepare held words failure ⊎ FailsAtScript held words failure
    ⊎ FailsInRun held words has_failed old new failure

-- no failure is about the terminal: it never gets stuck in the bytes it is sent
abbrev pub FailsToShow : Held → ScriptWords → Failure → Type 0
FailsToShow held words failure =
    FailsToPrepare held words failure ⊎ FailsAtScript held words failure ⊎ FailsForMemory held words failure
