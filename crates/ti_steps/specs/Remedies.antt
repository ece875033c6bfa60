-- Strings that are advised for the entries of a source text, and the fields that are to be given them. `Advises` says
-- which are advised for an entry's contents.
use Rattle.std.specs.Prelude.{ℕ, IsTrue, ◌≡◌, List, [], ◌∷◌, Option, Some, None, Err}
use Rattle.ti_caps.specs.Entry.{Content}
use Rattle.ti_caps.specs.Fits.{string_fits}
use Rattle.ti_steps.specs.Parts.{AreParts}
use Rattle.ti_steps.specs.declared.advice.Advice.{Advice}
use Rattle.ti_steps.specs.declared.advice.Remedy.{Remedy}
use Rattle.ti_resolve.specs.Origins.{IsOriginAt}
use Rattle.ti_resolve.specs.Resolved.{IsResolvedAt}
use Rattle.ti_resolve.specs.Walk.{walk_at}
use Rattle.ti_resolve.specs.declared.faults.ResolveFault.{ResolveFault}
use Rattle.ti_resolve.specs.declared.origins.Origin.{Origin}
use Rattle.ti_source.specs.declared.types.RawEntry.{RawEntry}

-- the string can be an entry's
abbrev pub Fits : Remedy → Type 0
Fits remedy = IsTrue (string_fits remedy.change.string)

-- the place of the entry whose field gives a value; that of the entry itself if it has none
abbrev pub place_or : ℕ → Option Origin → ℕ
place_or root None = root
place_or root (Some origin) = origin.entry

-- The string is to be given where the entry at `root` has its value, or in that entry itself if it has none.
pub record IsPlaced (raws : List RawEntry) (root : ℕ) (advice : Advice) (remedy : Remedy) : Type 0 where
  pub owner : remedy.root ≡ root
  pub cap : remedy.change.cap ≡ advice.cap
  pub string : remedy.change.string ≡ advice.string
  pub fault : remedy.fault ≡ advice.fault
  pub origin : Option Origin
  pub first : IsOriginAt raws root advice.cap origin
  pub place : remedy.change.place ≡ place_or root origin

-- each of these strings is to be given
abbrev pub ArePlaced : List RawEntry → ℕ → List Advice → List Remedy → Type 0
ArePlaced raws root [] [] = Unit {0}
ArePlaced raws root (advice ∷ advices) (remedy ∷ remedies) =
    IsPlaced raws root advice remedy × ArePlaced raws root advices remedies
ArePlaced raws root _ _ = ⊥

-- what is advised for the entry at a place: nothing if it can't be resolved
pub data IsAdvisedAt (Advises : Content → List Advice → Type 0) (raws : List RawEntry) (root : ℕ)
    (remedies : List Remedy) : Type 0 where
  Unresolved : (fault : ResolveFault) → walk_at raws root ≡ Err fault → remedies ≡ []
      → IsAdvisedAt Advises raws root remedies
  Resolved : (entry : Content) → IsResolvedAt raws root entry → (advices : List Advice) → Advises entry advices
      → ArePlaced raws root advices remedies → IsAdvisedAt Advises raws root remedies

-- what is advised for each of the first `count` entries, in their order
abbrev pub AreAdvised : (Content → List Advice → Type 0) → List RawEntry → ℕ → List Remedy → Type 0
AreAdvised Advises raws count remedies = AreParts (IsAdvisedAt Advises raws) count remedies
