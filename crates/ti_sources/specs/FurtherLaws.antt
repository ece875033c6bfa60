-- Laws of entries of several files put together.
use Rattle.std.specs.Prelude.{ℕ, ◌≡◌, List, [], ◌∷◌, ◌++◌, Option, Some, None, length, map, slice_get, slice_index_or}
use Rattle.ti_caps.specs.Entry.{Content, IsEntry}
use Rattle.ti_sources.specs.Compiled.{raw_of}
use Rattle.ti_sources.specs.Files.{together}
use Rattle.ti_sources.specs.Spots.{spot_of}
use Rattle.ti_sources.specs.declared.spots.Spot.{Spot}
use Rattle.ti_resolve.specs.Resolved.{IsResolvedAt}
use Rattle.ti_resolve.specs.Uses.{place_named}
use Rattle.ti_source.specs.declared.types.RawEntry.{RawEntry}

-- a name that one of the own entries has leads to the first of these, whatever the further ones are
abbrev pub OwnComeFirst : Type 0
OwnComeFirst =
    (own further : List RawEntry) (name : List ℕ) (place : ℕ) → place_named own name ≡ Some place
    → place_named (own ++ further) name ≡ Some place

-- without further files nothing changes
abbrev pub AloneStays : Type 0
AloneStays = (own : List RawEntry) → together (own ∷ []) ≡ own

-- the entry of a compiled file is resolved as it is
abbrev pub CompiledIsItself : Type 0
CompiledIsItself =
    (raws : List RawEntry) (place : ℕ) (entry : Content) → IsEntry entry → slice_get raws place ≡ Some (raw_of entry)
    → IsResolvedAt raws place entry

-- the entry at a spot
abbrev pub entry_at : List (List RawEntry) → Option Spot → Option RawEntry
entry_at lists None = None
entry_at lists (Some spot) = slice_get (slice_index_or lists spot.file []) spot.place

-- each entry put together is that of its file
abbrev pub SpotsAreRight : Type 0
SpotsAreRight =
    (lists : List (List RawEntry)) (place : ℕ)
    → slice_get (together lists) place ≡ entry_at lists (spot_of (map length lists) place)
