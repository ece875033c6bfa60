-- The needs of a run of a script: a size, an entry that was verified for it, and the script's text.
use Rattle.std.specs.Prelude.{◌≤◌, ◌⊎◌, ℕ, List, length}
use Rattle.ti_caps.specs.Entry.{Content}
use Rattle.ti_cert.specs.Table.{CheckedTable}
use Rattle.ti_conforms.specs.Conforms.{Conforms}
use Rattle.ti_files.specs.Failures.{IsFileFailure}
use Rattle.ti_files.specs.Contents.{AreBytesOf, Held}
use Rattle.ti_commands.specs.Replies.{GivesEntry}
use Rattle.ti_files.specs.Sizes.{SizeGiven}
use Rattle.ti_files.specs.declared.failure.Failure.{Failure}
use Rattle.cur_commands.specs.Verifications.{FailsToVerify, GivesConforming, HandsOut}
use Rattle.ti_requests.specs.declared.request.VerifyWords.{VerifyWords}
use Rattle.ti_requests.specs.declared.request.ScriptWords.{ScriptWords}

-- the words of `verify` among them
abbrev pub verify_words_of : ScriptWords → VerifyWords
verify_words_of words =
    record { entry = words.entry; rows = words.rows; cols = words.cols; certificate = words.certificate }

-- the words give this size, an entry that conforms at it and has these strings, and the text of a script
pub record Prepared (held : Held) (words : ScriptWords) (height width : ℕ) (checked : CheckedTable)
    (text : List ℕ) : Type 0 where
  pub given : SizeGiven words.rows.now words.cols.now height width
  pub entry : Content
  pub gives : GivesEntry held words.entry.now entry
  pub conforms : Conforms entry height width
  pub hands_out : HandsOut (held.at words.certificate.now) entry height width checked
  pub whole : AreBytesOf (held.at words.script.now) text
  pub short : length text ≤ 1048576

-- the script's file can't be read, and everything before it is right
pub record FailsAtFile (held : Held) (words : ScriptWords) (failure : Failure) : Type 0 where
  pub conforming : GivesConforming held (verify_words_of words)
  pub file : IsFileFailure words.script.now failure

abbrev pub FailsToPrepare : Held → ScriptWords → Failure → Type 0
FailsToPrepare held words failure = FailsToVerify held (verify_words_of words) failure ⊎ FailsAtFile held words failure
