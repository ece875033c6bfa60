-- The answer of `verify`, by the contents of its files.
use Rattle.std.specs.Prelude.{◌≡◌, ◌⊎◌, ℕ, List, Option, IfSome, codes}
use Rattle.ti_caps.specs.Entry.{Content, string_at}
use Rattle.ti_conforms.specs.Entries.{EntryAgrees, acsc}
use Rattle.ti_cert.specs.Table.{CheckedTable, table_of}
use Rattle.ti_cert.specs.Disagreements.{IsAgreeRefused}
use Rattle.ti_cert.specs.Texts.{IsCertRefused, IsTableOf}
use Rattle.ti_cert.specs.declared.faults.VerifyFault.{VerifyFault}
use Rattle.ti_conforms.specs.Conforms.{Conforms}
use Rattle.ti_files.specs.Failures.{IsFileFailure}
use Rattle.ti_files.specs.Contents.{Held}
use Rattle.ti_commands.specs.Replies.{GivesEntry, IsText}
use Rattle.ti_files.specs.Sizes.{LacksSize, SizeGiven}
use Rattle.ti_files.specs.declared.failure.Failure.{Failure}
use Rattle.ti_files.specs.declared.failure.Reply.{Reply}
use Rattle.cur_commands.specs.Faults.{TellsFault}
use Rattle.ti_verdicts.specs.Checks.{FailsAtEntry}
use Rattle.ti_requests.specs.declared.request.VerifyWords.{VerifyWords}

-- The strings that are handed out are for this size, and exactly those that the entry sends; the bytes of the
-- certificate, if they are known, are a certificate of these strings.
pub record HandsOut (known : Option (List ℕ)) (entry : Content) (height width : ℕ)
    (checked : CheckedTable) : Type 0 where
  pub rows : checked.known.strings.rows ≡ height
  pub cols : checked.known.strings.cols ≡ width
  pub sends : EntryAgrees height width entry (table_of checked).line_of
  pub partners : checked.acsc ≡ string_at entry acsc
  pub accepted : IfSome known (λ text. IsTableOf height width text checked)

-- the words give an entry that conforms at the size that they give, and a certificate of its strings
pub record GivesConforming (held : Held) (words : VerifyWords) : Type 0 where
  pub height : ℕ
  pub width : ℕ
  pub given : SizeGiven words.rows.now words.cols.now height width
  pub entry : Content
  pub gives : GivesEntry held words.entry.now entry
  pub conforms : Conforms entry height width
  pub checked : CheckedTable
  pub hands_out : HandsOut (held.at words.certificate.now) entry height width checked

-- the reply is yes
pub record IsVerified (held : Held) (words : VerifyWords) (reply : Reply) : Type 0 where
  pub proved : GivesConforming held words
  pub says : IsText (codes "yes\n") reply

-- the fault is the first one of the text, or says how its certificate differs from the entry
pub record IsFaultOf (height width : ℕ) (entry : Content) (text : List ℕ) (fault : VerifyFault) : Type 0 where
  pub first : IsCertRefused height width text ⊥ fault
  pub differs : IsAgreeRefused height width text entry fault

-- the certificate at a path can't be read, or has a fault, which is that of its bytes if they are known
abbrev pub LacksCertificate : Option (List ℕ) → ℕ → ℕ → Content → List ℕ → Failure → Type 0
LacksCertificate known height width entry path failure =
    IsFileFailure path failure ⊎ ((fault : VerifyFault) × IfSome known (λ text. IsFaultOf height width entry text fault)
    × TellsFault path fault failure)

-- the words of the size come first, then the entry, then the certificate
pub record FailsAtCertificate (held : Held) (words : VerifyWords) (failure : Failure) : Type 0 where
  pub height : ℕ
  pub width : ℕ
  pub given : SizeGiven words.rows.now words.cols.now height width
  pub entry : Content
  pub gives : GivesEntry held words.entry.now entry
  pub lacks : LacksCertificate (held.at words.certificate.now) height width entry words.certificate.now failure

abbrev pub FailsToVerify : Held → VerifyWords → Failure → Type 0
FailsToVerify held words failure =
    LacksSize words.rows.now words.cols.now failure
    ⊎ FailsAtEntry held words.rows.now words.cols.now words.entry.now failure ⊎ FailsAtCertificate held words failure
