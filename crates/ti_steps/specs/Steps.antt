-- Remedies that are taken together, and what they do to every entry. `Finds` says what is found about an entry's
-- contents.
use Rattle.std.specs.Prelude.{ℕ, ◌≡◌, ◌<◌, ◌⊎◌, Bool, true, List, Option, Some, None, Err, length, map}
use Rattle.std.specs.List.{AllByRecursion}
use Rattle.ti_caps.specs.Entry.{Content, value_at}
use Rattle.ti_fixes.specs.Files.{GivesFiles, Sheet, all_raws, sheets}
use Rattle.ti_steps.specs.Findings.{is_earned, is_explained, is_no_worse, is_whole}
use Rattle.ti_steps.specs.declared.advice.Finding.{Finding}
use Rattle.ti_steps.specs.declared.advice.Remedy.{Remedy}
use Rattle.ti_fixes.specs.declared.changes.Change.{Change}
use Rattle.ti_steps.specs.declared.steps.Step.{Step}
use Rattle.ti_steps.specs.declared.steps.Step.TheVariants.{Done, Unfair, Unplaced, Ended}
use Rattle.ti_resolve.specs.Resolved.{IsResolvedAt}
use Rattle.ti_resolve.specs.Walk.{walk_at}
use Rattle.ti_resolve.specs.declared.faults.ResolveFault.{ResolveFault}
use Rattle.ti_source.specs.declared.types.RawEntry.{RawEntry}

-- both entries have the same value of each capability
abbrev pub HasSameValues : Content → Content → Type 0
HasSameValues one other = (cap : ℕ) → cap < 497 → value_at one cap ≡ value_at other cap

-- the value of the capability is the same, or it is one for which an entry with these findings may change
abbrev pub DiffersFairly : List Finding → Bool → List Remedy → Content → Content → ℕ → Type 0
DiffersFairly old whole taken before after cap =
    (value_at before cap ≡ value_at after cap) ⊎ (is_explained old whole cap taken ≡ true)

-- Each value that changes is that of a fault that the entry had, and it has no fault that it hadn't. So an entry with
-- no fault stays as it is.
pub record IsFair (Finds : Content → List Finding → Type 0) (taken : List Remedy) (before after : Content)
    : Type 0 where
  pub old : List Finding
  pub new : List Finding
  pub found : Finds before old
  pub found_after : Finds after new
  pub no_worse : is_no_worse old new ≡ true
  pub values : (cap : ℕ) → cap < 497 → DiffersFairly old (is_whole new) taken before after cap

-- no value changes, or all of this is fair
abbrev pub IsFairChange : (Content → List Finding → Type 0) → List Remedy → Content → Content → Type 0
IsFairChange Finds taken before after = HasSameValues before after ⊎ IsFair Finds taken before after

-- an entry with all that it uses, or none, as it can't be resolved
abbrev pub ResolvesTo : List RawEntry → ℕ → Option Content → Type 0
ResolvesTo raws place None = (fault : ResolveFault) × (walk_at raws place ≡ Err fault)
ResolvesTo raws place (Some entry) = IsResolvedAt raws place entry

abbrev pub AreFair : (Content → List Finding → Type 0) → List Remedy → Option Content → Option Content → Type 0
AreFair Finds taken None None = Unit {0}
AreFair Finds taken (Some before) (Some after) = IsFairChange Finds taken before after
AreFair Finds taken _ _ = ⊥

-- the step is fair to the entry at a place, or that can't be resolved
pub record IsFairAt (Finds : Content → List Finding → Type 0) (taken : List Remedy) (olds news : List RawEntry)
    (place : ℕ) : Type 0 where
  pub before : Option Content
  pub after : Option Content
  pub gives : ResolvesTo olds place before
  pub gives_after : ResolvesTo news place after
  pub fair : AreFair Finds taken before after

-- the remedy mends an entry, so that no fault is left or its own one was certain
pub record Improves (Finds : Content → List Finding → Type 0) (one : Remedy) (before after : Content)
    : Type 0 where
  pub old : List Finding
  pub new : List Finding
  pub found : Finds before old
  pub found_after : Finds after new
  pub earned : is_earned old new one ≡ true

-- the remedy is of use to the entry that wants it
pub record IsEarned (Finds : Content → List Finding → Type 0) (olds news : List RawEntry) (one : Remedy)
    : Type 0 where
  pub before : Content
  pub after : Content
  pub gives : IsResolvedAt olds one.root before
  pub gives_after : IsResolvedAt news one.root after
  pub improves : Improves Finds one before after

-- the changes of these remedies
abbrev pub changes_of : List Remedy → List Change
changes_of taken = map (λ (one : Remedy). one.change) taken

abbrev pub AllFair : (Content → List Finding → Type 0) → List Remedy → List RawEntry → List RawEntry → Type 0
AllFair Finds taken olds news = (place : ℕ) → place < length olds → IsFairAt Finds taken olds news place

-- that is fair to every entry, and each of the remedies is of use
pub record IsRight (Finds : Content → List Finding → Type 0) (taken : List Remedy) (olds news : List RawEntry)
    : Type 0 where
  pub fair : AllFair Finds taken olds news
  pub earned : AllByRecursion (IsEarned Finds olds news) taken

-- the files in which these remedies are taken together, rightly
pub record IsStep (Finds : Content → List Finding → Type 0) (olds : List Sheet) (taken : List Remedy)
    (news : List Sheet) : Type 0 where
  pub gives : GivesFiles (changes_of taken) olds news
  pub right : IsRight Finds taken (all_raws olds) (all_raws news)

-- files after some steps, one after another
pub data AreSteps (Finds : Content → List Finding → Type 0) (olds : List Sheet) : List Sheet → Type 0 where
  NoStep : AreSteps Finds olds olds
  Next : (mids news : List Sheet) (taken : List Remedy) → AreSteps Finds olds mids → IsStep Finds mids taken news
      → AreSteps Finds olds news

-- ---- for private clauses

-- the files after a step, with their entries put together, or nothing
abbrev pub Took : (Content → List Finding → Type 0) → List Sheet → List Remedy → Step → Type 0
Took Finds olds taken (Done texts) =
    IsStep Finds olds taken (sheets texts.files.items) × (texts.raws.items ≡ all_raws (sheets texts.files.items))
Took Finds olds taken Unfair = Unit {0}
Took Finds olds taken (Unplaced place) = Unit {0}
Took Finds olds taken Ended = Unit {0}

-- the files after a step of some remedies, or nothing
abbrev pub Takes : (Content → List Finding → Type 0) → List Sheet → Step → Type 0
Takes Finds olds step = (taken : List Remedy) × Took Finds olds taken step
