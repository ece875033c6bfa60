-- Why a remedy isn't taken: what it would do by itself to the files that are there.
use Rattle.std.specs.Prelude.{ℕ, ◌≡◌, ◌≢◌, ◌&&◌, ◌==◌, true, false, List, Option, Some, not}
use Rattle.std.specs.List.{list_any}
use Rattle.ti_caps.specs.Entry.{Content, string_at, with_value}
use Rattle.ti_caps.specs.declared.value.Value.TheVariants.{String}
use Rattle.ti_steps.specs.Findings.{allows, has_fault, is_earned, is_none, is_whole}
use Rattle.ti_steps.specs.Remedies.{place_or}
use Rattle.ti_steps.specs.declared.advice.Finding.{Finding}
use Rattle.ti_steps.specs.declared.advice.Remedy.{Remedy}
use Rattle.ti_steps.specs.declared.kept.Kept.{Kept}
use Rattle.ti_steps.specs.declared.kept.Reason.{Reason}
use Rattle.ti_steps.specs.declared.kept.Reason.TheVariants.{Unplaced, Changes, Faults, Loses, Refused}
use Rattle.ti_resolve.specs.Origins.{IsOriginAt}
use Rattle.ti_resolve.specs.Resolved.{IsResolvedAt}
use Rattle.ti_resolve.specs.declared.origins.Origin.{Origin}
use Rattle.ti_source.specs.declared.types.RawEntry.{RawEntry}

-- the entry with the string of the remedy
abbrev pub with_string : Remedy → Content → Content
with_string one entry = with_value entry one.change.cap (Some (String one.change.string))

-- the entry at a place has its value from the field of the remedy, or wants it there
pub record IsThere (raws : List RawEntry) (one : Remedy) (place : ℕ) : Type 0 where
  pub origin : Option Origin
  pub first : IsOriginAt raws place one.change.cap origin
  pub is : one.change.place ≡ place_or place origin

-- The entry at a place is such a one, and `old` is found about it; `new` is found with the remedy's string.
pub record IsTouched (Finds : Content → List Finding → Type 0) (raws : List RawEntry) (one : Remedy) (place : ℕ)
    (entry : Content) (old new : List Finding) : Type 0 where
  pub gives : IsResolvedAt raws place entry
  pub there : IsThere raws one place
  pub found : Finds entry old
  pub found_after : Finds (with_string one entry) new

-- it would change a string of the entry, for which that entry may not change
pub record Alters (one : Remedy) (entry : Content) (old new : List Finding) : Type 0 where
  pub differs : string_at entry one.change.cap ≢ Some one.change.string
  pub unexplained : allows old (is_whole new) one ≡ false

-- the entry would have a fault about this capability that it hasn't
abbrev pub Harms : ℕ → List Finding → List Finding → Type 0
Harms cap old new = list_any (λ (own : Finding). own.cap == cap && not (has_fault old own)) new ≡ true

-- the entry has no fault, and would have one
pub record LosesYes (old new : List Finding) : Type 0 where
  pub right : is_none old ≡ true
  pub faulty : is_none new ≡ false

-- it would be of no use to the entry
abbrev pub IsUseless : Remedy → List Finding → List Finding → Type 0
IsUseless one old new = is_earned old new one ≡ false

-- what the reason says of an entry that the remedy touches
abbrev pub Says : Remedy → Content → List Finding → List Finding → Reason → Type 0
Says one entry old new Unplaced = Unit {0}
Says one entry old new (Changes place) = Alters one entry old new
Says one entry old new (Faults place cap) = Harms cap old new
Says one entry old new (Loses place) = LosesYes old new
Says one entry old new Refused = IsUseless one old new

-- that is so of the entry at a place
pub record IsSoAt (Finds : Content → List Finding → Type 0) (raws : List RawEntry) (one : Remedy) (reason : Reason)
    (place : ℕ) : Type 0 where
  pub entry : Content
  pub old : List Finding
  pub new : List Finding
  pub touched : IsTouched Finds raws one place entry old new
  pub says : Says one entry old new reason

-- The reason is true of the entry that it names. Nothing is promised about a remedy without a place.
abbrev pub IsReason : (Content → List Finding → Type 0) → List RawEntry → Remedy → Reason → Type 0
IsReason Finds raws one Unplaced = Unit {0}
IsReason Finds raws one (Changes place) = IsSoAt Finds raws one (Changes place) place
IsReason Finds raws one (Faults place cap) = IsSoAt Finds raws one (Faults place cap) place
IsReason Finds raws one (Loses place) = IsSoAt Finds raws one (Loses place) place
IsReason Finds raws one Refused = IsSoAt Finds raws one Refused one.root

abbrev pub IsKept : (Content → List Finding → Type 0) → List RawEntry → Kept → Type 0
IsKept Finds raws kept = IsReason Finds raws kept.remedy kept.reason

-- (Serves the code alone.) the reason names the entry at this place, if any
abbrev pub IsAbout : ℕ → Reason → Type 0
IsAbout place Unplaced = Unit {0}
IsAbout place (Changes other) = other ≡ place
IsAbout place (Faults other cap) = other ≡ place
IsAbout place (Loses other) = other ≡ place
IsAbout place Refused = ⊥
