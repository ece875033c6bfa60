-- The reply of `survey --fix`.
use Rattle.std.specs.Prelude.{ℕ, ◌≡◌, ◌≢◌, ◌≤◌, ◌⊎◌, ◌&&◌, Bool, true, false, List, [], ◌∷◌, ◌++◌, Option, Some, None}
use Rattle.std.specs.Prelude.{Ok}
use Rattle.std.specs.Prelude.{codes, length}
use Rattle.ti_commands.specs.Findings.{IsSourceFailure}
use Rattle.ti_commands.specs.Further.{ArePutTogether, FailsFurther, Together}
use Rattle.ti_files.specs.Contents.{AreBytesOf, HasBytes, Held, longest_file}
use Rattle.ti_files.specs.Failures.{IsFileFailure}
use Rattle.ti_files.specs.Sizes.{HasSize, LacksSize, SizeGiven}
use Rattle.ti_files.specs.declared.failure.Failure.{Failure}
use Rattle.ti_files.specs.declared.failure.Failure.TheVariants.{NoMemory}
use Rattle.ti_files.specs.declared.failure.Reply.{Reply}
use Rattle.ti_fixes.specs.Files.{Sheet, all_raws}
use Rattle.ti_steps.specs.Mended.{AreMended}
use Rattle.ti_steps.specs.declared.gathering.Wanted.TheVariants.{First}
use Rattle.ti_steps.specs.declared.kept.Kept.{Kept}
use Rattle.ti_repairs.specs.Advices.{Advises}
use Rattle.ti_repairs.specs.Delivery.{Delivers}
use Rattle.ti_repairs.specs.Notes.{AreStillWrong, kept_lines}
use Rattle.ti_repairs.specs.Texts.{AreSheetsOf}
use Rattle.ti_repairs.specs.Weights.{AreTerms, Finds}
use Rattle.ti_repairs.specs.declared.weights.Terms.{Terms}
use Rattle.ti_repairs.specs.declared.words.FixWords.{FixWords}
use Rattle.ti_source.specs.Source.{source_of}
use Rattle.ti_source.specs.declared.types.RawEntry.{RawEntry}
use Rattle.ti_verdicts.specs.Refusals.{IsVerdict}

-- Files in which the suggestions for the first `count` entries are taken or kept. The notes say which are kept, and
-- then what is still wrong with these entries.
pub record IsRepaired (olds : List Sheet) (terms : Terms) (count : ℕ) (news : List Sheet) (notes still : List ℕ)
    : Type 0 where
  pub kept : List Kept
  pub is_ended : Bool
  pub mended : AreMended (Finds terms) (Advises terms) olds (First count) news kept
  pub lines : AreStillWrong (all_raws news) terms.size.rows terms.size.cols count still
  pub noted : notes ≡ kept_lines true (all_raws news) kept is_ended ++ still

-- the file at a path is this source text with this number of entries; all are its own and those of `--with`
pub record IsReadAt (held : Held) (path text : List ℕ) (count : ℕ) (all : Together) : Type 0 where
  pub whole : AreBytesOf (held.at path) text
  pub short : length text ≤ longest_file
  pub own : List RawEntry
  pub reads : source_of text ≡ Ok own
  pub counted : count ≡ length own
  pub together : ArePutTogether held own all

abbrev pub FailsIf : Bool → Option Failure → Type 0
FailsIf true (Some failure) = IsVerdict (codes "Faulty") failure
FailsIf true None = ⊥
FailsIf false ended = ended ≡ None

-- something is still wrong
abbrev pub has_lines : List ℕ → Bool
has_lines [] = false
has_lines (first ∷ others) = true

-- files of which a reply would end so: a strict one fails if something is still wrong
pub record IsReady (olds : List Sheet) (terms : Terms) (count : ℕ) (is_strict : Bool) (news : List Sheet)
    (notes : List ℕ)
    (ended : Option Failure) : Type 0 where
  pub still : List ℕ
  pub repaired : IsRepaired olds terms count news notes still
  pub ends : FailsIf (is_strict && has_lines still) ended

-- The source at the path, and the files of `--with`, with all suggestions for the source's entries taken or left out.
pub record IsFixed (before after : Held) (words : FixWords) (reply : Reply) : Type 0 where
  pub height : ℕ
  pub width : ℕ
  pub given : SizeGiven words.rows.now words.cols.now height width
  pub terms : Terms
  pub terms_are : AreTerms height width words.is_standard terms
  pub text : List ℕ
  pub count : ℕ
  pub all : Together
  pub stands : IsReadAt before words.path.now text count all
  pub olds : List Sheet
  pub files_are : AreSheetsOf words.path.now text all olds
  pub news : List Sheet
  pub ended : Option Failure
  pub ready : IsReady olds terms count words.is_strict news reply.notes.items ended
  pub delivers : Delivers all.files news ended words.out before after reply

-- the file at a path can't be read, or its text has a fault
abbrev pub LacksSource : Held → List ℕ → Failure → Type 0
LacksSource held path failure =
    IsFileFailure path failure ⊎ HasBytes (held.at path) longest_file (λ bytes. IsSourceFailure bytes failure)

-- the source or a file of `--with` can't be read, or has a fault
abbrev pub LacksFiles : Held → List ℕ → Failure → Type 0
LacksFiles held path failure =
    LacksSource held path failure ⊎ FailsFurther held held.with_paths failure ⊎ (failure ≡ NoMemory)

-- there are files of `--with`, and several files can't be printed as one
pub record HasSeveral (held : Held) (words : FixWords) (failure : Failure) : Type 0 where
  pub sized : HasSize words.rows.now words.cols.now
  pub several : held.with_paths ≢ []
  pub printed : words.out ≡ None
  pub tells : IsVerdict (codes "SeveralFiles") failure

-- the words give no size, or the path no source text; memory can run out at any time
abbrev pub FailsToFix : Held → FixWords → Failure → Type 0
FailsToFix held words failure =
    LacksSize words.rows.now words.cols.now failure ⊎ LacksFiles held words.path.now failure
    ⊎ HasSeveral held words failure
