-- The reply of `check --fix`.
use Rattle.std.specs.Prelude.{ℕ, ◌≡◌, ◌≢◌, ◌⊎◌, List, [], ◌∷◌, ◌++◌, Bool, false, Option, Some, None}
use Rattle.std.specs.Prelude.{Result, Ok, Err, Vec, codes}
use Rattle.std.specs.Global.{Global}
use Rattle.std.specs.List.{AllByRecursion}
use Rattle.ti_caps.specs.Entry.{Content}
use Rattle.ti_checker.specs.declared.causes.No.{No}
use Rattle.ti_commands.specs.Findings.{IsOfText}
use Rattle.ti_commands.specs.Sources.{IsSourced, together_of}
use Rattle.ti_commands.specs.declared.sources.SourceText.{SourceText}
use Rattle.ti_files.specs.Contents.{Held}
use Rattle.ti_files.specs.Sizes.{HasSize, SizeGiven}
use Rattle.ti_files.specs.declared.failure.CommandRefusal.{CommandRefusal}
use Rattle.ti_files.specs.declared.failure.Failure.{Failure}
use Rattle.ti_files.specs.declared.failure.Failure.TheVariants as failures
use Rattle.ti_files.specs.declared.failure.Reply.{Reply}
use Rattle.ti_fixes.specs.Files.{Sheet, all_raws}
use Rattle.ti_steps.specs.Mended.{AreMended}
use Rattle.ti_steps.specs.declared.gathering.Wanted.TheVariants.{Only}
use Rattle.ti_steps.specs.declared.kept.Kept.{Kept}
use Rattle.ti_repairs.specs.Advices.{Advises}
use Rattle.ti_repairs.specs.Delivery.{Delivers}
use Rattle.ti_repairs.specs.Notes.{IsStillWrong, kept_lines, wrong_lines}
use Rattle.ti_repairs.specs.Texts.{AreSheetsOf}
use Rattle.ti_repairs.specs.Weights.{AreTerms, Finds}
use Rattle.ti_repairs.specs.declared.weights.Terms.{Terms}
use Rattle.ti_requests.specs.declared.request.CheckWords.{CheckWords}
use Rattle.ti_resolve.specs.Uses.{place_named}
use Rattle.ti_source.specs.Raw.{IsRaw}
use Rattle.ti_verdicts.specs.Checks.{FailsForEntry}
use Rattle.ti_verdicts.specs.Refusals.{IsVerdict, TellsNo}

-- Files in which the suggestions for the entry at a place are taken or kept. The notes say which are kept, and what is
-- still wrong with the entry.
pub record IsRepairedEntry (olds : List Sheet) (terms : Terms) (root : ℕ) (news : List Sheet) (notes : List ℕ)
    (wrong : Result (Vec No Global) CommandRefusal) : Type 0 where
  pub kept : List Kept
  pub is_ended : Bool
  pub mended : AreMended (Finds terms) (Advises terms) olds (Only root) news kept
  pub still : IsStillWrong (all_raws news) terms.size.rows terms.size.cols root wrong
  pub noted : notes ≡ kept_lines false (all_raws news) kept is_ended ++ wrong_lines [] wrong

-- the files of a source, and its entry of that name
pub record IsRepairedSource (source : SourceText) (terms : Terms) (news : List Sheet) (notes : List ℕ)
    (wrong : Result (Vec No Global) CommandRefusal) : Type 0 where
  pub olds : List Sheet
  pub files_are : AreSheetsOf source.path.now source.text.items (together_of source) olds
  pub root : ℕ
  pub named : place_named source.raws.items source.name.now ≡ Some root
  pub repaired : IsRepairedEntry olds terms root news notes wrong

-- the reply fails as the first of the faults does; it doesn't fail if there is none
abbrev pub EndsAsFaults : List No → Option Failure → Type 0
EndsAsFaults [] ended = ended ≡ None
EndsAsFaults (first ∷ others) (Some failure) = TellsNo first failure
EndsAsFaults (first ∷ others) None = ⊥

-- the reply fails as the first fault does, or with the reason why the entry can't be resolved
abbrev pub EndsAsWrong : Result (Vec No Global) CommandRefusal → Option Failure → Type 0
EndsAsWrong (Ok nos) ended = EndsAsFaults nos.items ended
EndsAsWrong (Err refusal) ended = ended ≡ Some (failures.Refused refusal)

-- The source that the word names, and the files of `--with`, with the suggestions for the entry's faults taken. The new
-- texts are read and judged again, and what is still wrong decides how the reply ends.
pub record IsFixed (before after : Held) (words : CheckWords) (standard : Bool) (reply : Reply) : Type 0 where
  pub height : ℕ
  pub width : ℕ
  pub given : SizeGiven words.rows.now words.cols.now height width
  pub terms : Terms
  pub terms_are : AreTerms height width standard terms
  pub entry : Content
  pub source : SourceText
  pub gives : IsSourced before words.entry.now entry (Some source)
  pub news : List Sheet
  pub wrong : Result (Vec No Global) CommandRefusal
  pub repaired : IsRepairedSource source terms news reply.notes.items wrong
  pub ended : Option Failure
  pub ends : EndsAsWrong wrong ended
  pub delivers : Delivers source.further.items news ended words.out before after reply

-- the word gives the entry of a compiled file, which has no source text
pub record LacksSource (held : Held) (words : CheckWords) (failure : Failure) : Type 0 where
  pub sized : HasSize words.rows.now words.cols.now
  pub entry : Content
  pub gives : IsSourced held words.entry.now entry None
  pub tells : IsVerdict (codes "NoSource") failure

-- there are files of `--with`, and several files can't be printed as one
pub record HasSeveral (held : Held) (words : CheckWords) (failure : Failure) : Type 0 where
  pub sized : HasSize words.rows.now words.cols.now
  pub several : held.with_paths ≢ []
  pub printed : words.out ≡ None
  pub entry : Content
  pub source : SourceText
  pub gives : IsSourced held words.entry.now entry (Some source)
  pub tells : IsVerdict (codes "SeveralFiles") failure

abbrev pub FailsToFix : Held → CheckWords → Failure → Type 0
FailsToFix held words failure =
    FailsForEntry held words.rows.now words.cols.now words.entry.now failure ⊎ LacksSource held words failure
    ⊎ HasSeveral held words failure

-- ---- for private clauses

-- files of which the reply would end so
pub record IsReady (source : SourceText) (terms : Terms) (news : List Sheet) (notes : List ℕ) (ended : Option Failure)
    : Type 0 where
  pub wrong : Result (Vec No Global) CommandRefusal
  pub repaired : IsRepairedSource source terms news notes wrong
  pub ends : EndsAsWrong wrong ended

-- the entry of this name in the entries of a source and of further files, which are read as these
pub record StandsTogether (source : SourceText) (entry : Content) : Type 0 where
  pub held : Held
  pub stands : IsOfText held source.path.now source.name.now source.text.items (together_of source) (Ok entry)
  pub fit : AllByRecursion IsRaw source.raws.items
