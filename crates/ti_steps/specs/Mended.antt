-- Files in which what is advised for their entries is taken, in steps.
use Rattle.std.specs.Prelude.{ℕ, ◌≡◌, ◌<◌, ◌≤◌, List, [], map}
use Rattle.std.specs.List.{AllByRecursion}
use Rattle.ti_caps.specs.Entry.{Content}
use Rattle.ti_fixes.specs.Files.{Sheet, all_raws}
use Rattle.ti_steps.specs.Reasons.{IsKept}
use Rattle.ti_steps.specs.Remedies.{AreAdvised, IsAdvisedAt}
use Rattle.ti_steps.specs.Steps.{AreSteps}
use Rattle.ti_steps.specs.declared.advice.Advice.{Advice}
use Rattle.ti_steps.specs.declared.advice.Finding.{Finding}
use Rattle.ti_steps.specs.declared.advice.Remedy.{Remedy}
use Rattle.ti_steps.specs.declared.gathering.Wanted.{Wanted}
use Rattle.ti_steps.specs.declared.gathering.Wanted.TheVariants.{First, Only}
use Rattle.ti_steps.specs.declared.kept.Kept.{Kept}
use Rattle.ti_resolve.specs.Resolved.{IsResolvedAt}
use Rattle.ti_source.specs.declared.types.RawEntry.{RawEntry}

-- what is advised for the entries that are to be mended
abbrev pub AreWanted : (Content → List Advice → Type 0) → List RawEntry → Wanted → List Remedy → Type 0
AreWanted Advises raws (First count) remedies = AreAdvised Advises raws count remedies
AreWanted Advises raws (Only root) remedies = IsAdvisedAt Advises raws root remedies

-- there are these entries
abbrev pub Fits : ℕ → Wanted → Type 0
Fits count (First first) = first ≤ count
Fits count (Only root) = root < count

-- nothing is found about any entry
abbrev pub IsFaultless : (Content → List Finding → Type 0) → List RawEntry → Type 0
IsFaultless Finds raws =
    (place : ℕ) (entry : Content) (findings : List Finding) → IsResolvedAt raws place entry → Finds entry findings
    → findings ≡ []

-- The files after some steps, and what is still advised there, each with the true reason why it isn't taken. Files of
-- which no entry has a fault are as they were.
pub record AreMended (Finds : Content → List Finding → Type 0) (Advises : Content → List Advice → Type 0)
    (olds : List Sheet) (wanted : Wanted) (news : List Sheet) (kept : List Kept) : Type 0 where
  pub steps : AreSteps Finds olds news
  pub advised : AreWanted Advises (all_raws news) wanted (map (λ (one : Kept). one.remedy) kept)
  pub reasons : AllByRecursion (IsKept Finds (all_raws news)) kept
  pub right : IsFaultless Finds (all_raws olds) → news ≡ olds
