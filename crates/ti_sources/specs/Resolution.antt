-- An entry of a source text with all that it uses (terminfo(5), "Similar Terminals"), if the entries were read one by
-- one and some can't be read.
use Rattle.std.specs.Prelude.{ℕ, ◌≡◌, List, Option, Some, None, Ok, map, slice_get, slice_index_or}
use Rattle.ti_caps.specs.Entry.{Content}
use Rattle.ti_sources.specs.declared.resolution.ApartFault.{ApartFault}
use Rattle.ti_sources.specs.declared.resolution.ApartFault.TheVariants.{Unread, Unresolved}
use Rattle.ti_resolve.specs.Origins.{first_of}
use Rattle.ti_resolve.specs.Resolved.{IsResolvedAt}
use Rattle.ti_resolve.specs.Walk.{FailsBy, walk_at}
use Rattle.ti_source.specs.declared.types.RawEntry.{RawEntry}
use Rattle.ti_source.specs.declared.types.SourceFault.{SourceFault}

-- the fault of the entry at a place, if it can't be read
abbrev pub fault_in : List (Option SourceFault) → ℕ → Option SourceFault
fault_in faults place = slice_index_or faults place None

-- the fault of the first entry among these places that can't be read
abbrev pub first_fault : List (Option SourceFault) → List ℕ → Option SourceFault
first_fault faults places = first_of (fault_in faults) places

-- the entry at a place has this fault, or it can be walked from, and this is the first fault of the entries that it
-- uses
pub data IsUnread (raws : List RawEntry) (faults : List (Option SourceFault)) (place : ℕ) (fault : SourceFault)
    : Type 0 where
  Itself : slice_get faults place ≡ Some (Some fault) → IsUnread raws faults place fault
  Used : (places : List ℕ) → slice_get faults place ≡ Some None → walk_at raws place ≡ Ok places
      → first_fault faults places ≡ Some fault → IsUnread raws faults place fault

-- the entry is resolved with all that it uses, and each of them can be read
pub record IsResolvedApart (raws : List RawEntry) (faults : List (Option SourceFault)) (place : ℕ) (entry : Content)
    : Type 0 where
  pub read : slice_get faults place ≡ Some None
  pub places : List ℕ
  pub walks : walk_at raws place ≡ Ok places
  pub faultless : first_fault faults places ≡ None
  pub resolved : IsResolvedAt raws place entry

-- the reason for a refusal; out of memory says nothing
abbrev pub FailsApart : List RawEntry → List (Option SourceFault) → ℕ → ApartFault → Type 0
FailsApart raws faults place (Unread fault) = IsUnread raws faults place fault
FailsApart raws faults place (Unresolved fault) = FailsBy fault (walk_at raws place)

-- the faults if each entry can be read
abbrev pub no_faults : List RawEntry → List (Option SourceFault)
no_faults raws = map (λ raw. None) raws

-- if each entry can be read, an entry is as in the whole text, and the only faults are those of the walk
pub record AreResolved (raws : List RawEntry) (place : ℕ) : Type 0 where
  pub entry : (entry : Content) → IsResolvedApart raws (no_faults raws) place entry → IsResolvedAt raws place entry
  pub read : (fault : SourceFault) → IsUnread raws (no_faults raws) place fault → ⊥

abbrev pub FaultlessAreResolved : Type 0
FaultlessAreResolved = (raws : List RawEntry) (place : ℕ) → AreResolved raws place
