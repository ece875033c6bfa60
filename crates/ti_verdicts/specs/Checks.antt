-- The answer of `check`, by the contents of its files and the promises of a certifier.
use Rattle.std.specs.Prelude.{◌≡◌, ◌≢◌, ◌⊎◌, ℕ, List, [], Option, Some, None}
use Rattle.std.specs.String.{string_bytes}
use Rattle.ti_caps.specs.Entry.{Content}
use Rattle.ti_checker.specs.Certificate.{IsCertificateOf}
use Rattle.ti_checker.specs.Notes.{EntryNotes, IsFirstUnsent}
use Rattle.ti_verdicts.specs.NoteTexts.{notes_text}
use Rattle.ti_checker.specs.declared.causes.Cause.TheVariants as causes
use Rattle.ti_checker.specs.declared.causes.No.{No}
use Rattle.ti_checker.specs.declared.note_list.CheckNote.{CheckNote}
use Rattle.ti_conforms.specs.Conforms.{Conforms}
use Rattle.ti_files.specs.Contents.{Held, Stored}
use Rattle.ti_commands.specs.Findings.{LacksEntry}
use Rattle.ti_commands.specs.Replies.{GivesEntry}
use Rattle.ti_files.specs.Sizes.{HasSize, LacksSize, SizeGiven}
use Rattle.ti_files.specs.declared.failure.Failure.{Failure}
use Rattle.ti_files.specs.declared.failure.Failure.TheVariants.{File, NoMemory}
use Rattle.ti_files.specs.declared.failure.Reply.{Reply}
use Rattle.ti_verdicts.specs.Refusals.{TellsNo}
use Rattle.ti_requests.specs.declared.request.CheckWords.{CheckWords}
use denote.Ref.{Bor}

-- the words of the size come first, then the entry
pub record FailsAtEntry (held : Held) (rows cols word : List ℕ) (failure : Failure) : Type 0 where
  pub sized : HasSize rows cols
  pub lacks : LacksEntry held word failure

-- the text of the checker is the certificate of the entry, which conforms
pub record IsCertified (entry : Content) (rows cols : ℕ) (text : List ℕ) : Type 0 where
  pub conforms : Conforms entry rows cols
  pub certificate : IsCertificateOf entry rows cols text

-- the end of storing a text at a path: if it fails, all files are as before
abbrev pub StoresText : List ℕ → List ℕ → Held → Held → Option Failure → Type 0
StoresText text path before after None = Stored before after path text
StoresText text path before after (Some (File told)) = (string_bytes told ≡ path) × (after ≡ before)
StoresText text path before after (Some NoMemory) = after ≡ before
StoresText text path before after (Some _) = ⊥

-- the reply has no text, and this is how it ends
pub record IsSilent (reply : Reply) (Ends : Option Failure → Type 0) : Type 0 where
  pub no_text : reply.text.items ≡ []
  pub ends : Ends reply.failure

-- the reply has this text, and doesn't fail
pub record HasText (text : List ℕ) (reply : Reply) : Type 0 where
  pub says : reply.text.items ≡ text
  pub done : reply.failure ≡ None

-- a text goes to the path, or else to standard output
abbrev pub Delivers : List ℕ → Option (Bor (List ℕ)) → Held → Held → Reply → Type 0
Delivers text None before after reply = HasText text reply × (after ≡ before)
Delivers text (Some path) before after reply = IsSilent reply (λ failure. StoresText text path.now before after failure)

-- a certificate is delivered
pub record DeliversSome (Certifies : List ℕ → Type 0) (out : Option (Bor (List ℕ))) (before after : Held)
    (reply : Reply) : Type 0 where
  pub text : List ℕ
  pub certified : Certifies text
  pub delivers : Delivers text out before after reply

-- the failure is that of a refusal that is true of an entry
pub record TellsSome (Refuses : No → Type 0) (failure : Failure) : Type 0 where
  pub refusal : No
  pub refuses : Refuses refusal
  pub tells : TellsNo refusal failure

abbrev pub EndsInNo : (No → Type 0) → Option Failure → Type 0
EndsInNo Refuses (Some failure) = TellsSome Refuses failure
EndsInNo Refuses None = ⊥

-- the reply fails with a refusal, and all files are as before
abbrev pub Denies : (No → Type 0) → Held → Held → Reply → Type 0
Denies Refuses before after reply = IsSilent reply (EndsInNo Refuses) × (after ≡ before)

-- the lines of the notes on an entry
pub record HasNotes (entry : Content) (lines : List ℕ) : Type 0 where
  pub notes : List CheckNote
  pub noted : EntryNotes entry notes
  pub told : lines ≡ notes_text notes

-- one of its strings sends no whole tokens, and there are no lines
pub record LacksNotes (entry : Content) (lines : List ℕ) : Type 0 where
  pub refusal : No
  pub unsent : IsFirstUnsent entry refusal
  pub claims : refusal.cause ≢ causes.NoMemory
  pub none : lines ≡ []

abbrev pub TellsNotes : Content → List ℕ → Type 0
TellsNotes entry lines = HasNotes entry lines ⊎ LacksNotes entry lines

-- The entry that the word gives, at the size that the words give: the reply has its notes, even if it is refused, and
-- its certificate is delivered, or the reply fails with a refusal.
pub record IsChecked (certifies : Content → ℕ → ℕ → List ℕ → Type 0) (refuses : Content → ℕ → ℕ → No → Type 0)
    (before after : Held) (words : CheckWords) (reply : Reply) : Type 0 where
  pub height : ℕ
  pub width : ℕ
  pub given : SizeGiven words.rows.now words.cols.now height width
  pub entry : Content
  pub gives : GivesEntry before words.entry.now entry
  pub notes : TellsNotes entry reply.notes.items
  pub ends : DeliversSome (certifies entry height width) words.out before after reply
      ⊎ Denies (refuses entry height width) before after reply

-- The failure for words that give no size or no entry: the words of the size come first; memory can run out at any
-- time.
abbrev pub FailsForEntry : Held → List ℕ → List ℕ → List ℕ → Failure → Type 0
FailsForEntry held rows cols word failure =
    LacksSize rows cols failure ⊎ FailsAtEntry held rows cols word failure ⊎ (failure ≡ NoMemory)

abbrev pub FailsToCheck : Held → CheckWords → Failure → Type 0
FailsToCheck held words failure = FailsForEntry held words.rows.now words.cols.now words.entry.now failure
