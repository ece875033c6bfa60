-- The place of a value in a source text.
use Rattle.std.specs.Prelude.{◌≡◌, ◌⊎◌, ◌<◌, ◌==◌, ⊤, ℕ, List, Option, Some, None, if◌then◌else◌}
use Rattle.std.specs.Prelude.{[], IsOk, length, map, option_map}
use Rattle.std.specs.String.{string_bytes}
use Rattle.ti_files.specs.declared.failure.CommandRefusal.{CommandRefusal}
use Rattle.ti_files.specs.declared.failure.CommandRefusal.TheVariants as refusals
use Rattle.ti_sources.specs.declared.joined_places.Region.{Region}
use Rattle.ti_reports.specs.Names.{HasName}
use Rattle.ti_reports.specs.declared.written.Written.{Written}
use Rattle.ti_reports.specs.declared.places.ValuePlace.{ValuePlace}
use Rattle.ti_resolve.specs.FaultyUses.{IsFaultyUse}
use Rattle.ti_resolve.specs.Origins.{IsOriginAt}
use Rattle.ti_resolve.specs.Uses.{names_at}
use Rattle.ti_resolve.specs.Walk.{walk_at}
use Rattle.ti_resolve.specs.declared.origins.Origin.{Origin}
use Rattle.ti_source.specs.declared.types.RawEntry.{RawEntry}
use Rattle.ti_verdicts.specs.Locations.{IsFaultyRegion, PlaceInSource, first_name}
use Rattle.ti_sources.specs.Originals.{begun_line, region_among}
use Rattle.ti_sources.specs.LinedFiles.{FileText, Line, PutFiles, line_among}

-- the first name of the entry that has the field at this origin
abbrev pub HasHolder : List RawEntry → Option Origin → Option Written → Type 0
HasHolder raws (Some origin) name = HasName (first_name (names_at raws origin.entry)) name
HasHolder raws None name = name ≡ None

-- the number of a line, if its file has lines
abbrev pub number_of : Line → Option ℕ
number_of line = if line.number == 0 then None else Some line.number

-- the path of the file, and the line in it, if there is a field
abbrev pub HasLine : Option Line → ValuePlace → Type 0
HasLine None place = (place.line ≡ None) × (place.file ≡ None)
HasLine (Some line) place =
    (place.line ≡ number_of line) × (option_map (λ f. string_bytes f) place.file ≡ Some line.path)

-- the file and a line of it, for the field at this origin, and the entry that has it
pub record IsFieldPlace (line : Option Line) (raws : List RawEntry) (origin : Option Origin) (place : ValuePlace)
    : Type 0 where
  pub line_is : HasLine line place
  pub holder : HasHolder raws origin place.entry

-- the region of the field at this origin, which is about the capability
abbrev pub region_if : List FileText → PutFiles → ℕ → Option Origin → Option Region
region_if originals files cap None = None
region_if originals files cap (Some origin) = region_among originals files cap origin

-- the line on which it begins
abbrev pub line_if : List FileText → PutFiles → ℕ → Option Origin → Option Line
line_if originals files cap None = None
line_if originals files cap (Some origin) =
    Some (begun_line (line_among files origin) (region_among originals files cap origin))

-- the place of the field at this origin, which is about the capability, with its region
pub record IsPlaceOf (originals : List FileText) (files : PutFiles) (raws : List RawEntry) (cap : ℕ)
    (origin : Option Origin) (place : ValuePlace) : Type 0 where
  pub field : IsFieldPlace (line_if originals files cap origin) raws origin place
  pub region : place.region ≡ region_if originals files cap origin

-- the region of the part of the value that is at fault, of an entry at its place
pub record IsFaultyOf (originals : List FileText) (stands : PlaceInSource) (cap : ℕ) (region : Region) : Type 0 where
  pub origin : Origin
  pub first : IsOriginAt stands.raws stands.place cap (Some origin)
  pub is : IsFaultyRegion originals stands.files cap origin region

-- in no source there is none
abbrev pub IsFaultyAt : List FileText → Option PlaceInSource → ℕ → Region → Type 0
IsFaultyAt originals None cap region = ⊥
IsFaultyAt originals (Some stands) cap region = IsFaultyOf originals stands cap region

-- for private clauses: a field on this line with this region, and the entry that has it
pub record IsHeldAt (line : Line) (region : Option Region) (raws : List RawEntry) (origin : Origin) (place : ValuePlace)
    : Type 0 where
  pub line_is : HasLine (Some (begun_line line region)) place
  pub region_is : place.region ≡ region
  pub holder : HasHolder raws (Some origin) place.entry

-- The place of the first field about the capability, among the entry's own and those that it uses, if there is a value,
-- whatever other entries have its names.
pub record IsPlaceAt (originals : List FileText) (stands : PlaceInSource) (cap : ℕ) (place : ValuePlace) : Type 0 where
  pub origin : Option Origin
  pub first : IsOriginAt stands.raws stands.place cap origin
  pub says : IsPlaceOf originals stands.files stands.raws cap origin place

abbrev pub IsNowhere : ValuePlace → Type 0
IsNowhere place = (place.line ≡ None) × (place.region ≡ None) × (place.file ≡ None) × (place.entry ≡ None)

-- the entry of a compiled file is in no source
abbrev pub IsValuePlace : List FileText → Option PlaceInSource → ℕ → ValuePlace → Type 0
IsValuePlace originals None cap place = IsNowhere place
IsValuePlace originals (Some stands) cap place = IsPlaceAt originals stands cap place

-- ---- a refusal

-- a line of the file at this path, whichever entry has it; nowhere if the file isn't known
abbrev pub IsOnLine : Option (List ℕ) → ℕ → ValuePlace → Type 0
IsOnLine None line place = IsNowhere place
IsOnLine (Some path) line place =
    HasLine (Some (record { path = path; number = line })) place × (place.region ≡ None) × (place.entry ≡ None)

-- the field of the use at which the entry's walk fails, of the entry or of one that is reached from it by uses
pub record IsUseAt (stands : PlaceInSource) (place : ValuePlace) : Type 0 where
  pub origin : Origin
  pub faulty : IsFaultyUse stands.raws stands.place origin
  pub says : IsFieldPlace (Some (line_among stands.files origin)) stands.raws (Some origin) place
  pub no_region : place.region ≡ None

-- such a use; nowhere only for an entry that can be resolved, and for one whose place isn't known
abbrev pub IsUsePlace : Option PlaceInSource → ValuePlace → Type 0
IsUsePlace None place = IsNowhere place
IsUsePlace (Some stands) place =
    (IsNowhere place × IsOk (walk_at stands.raws stands.place)) ⊎ IsUseAt stands place

-- The place at which a refusal finds its reason: a fault of a source text has its line in the file at this path, and a
-- use that can't be followed is a field; the others say nothing of a line.
abbrev pub IsRefusalPlace : Option PlaceInSource → Option (List ℕ) → CommandRefusal → ValuePlace → Type 0
IsRefusalPlace stands path refusals.Size place = IsNowhere place
IsRefusalPlace stands path (refusals.Escape fault) place = IsNowhere place
IsRefusalPlace stands path (refusals.Parm fault) place = IsNowhere place
IsRefusalPlace stands path (refusals.Token fault) place = IsNowhere place
IsRefusalPlace stands path (refusals.Stuck fault) place = IsNowhere place
IsRefusalPlace stands path (refusals.Source fault) place = IsOnLine path fault.line place
IsRefusalPlace stands path (refusals.Resolve fault) place = IsUsePlace stands place
IsRefusalPlace stands path (refusals.Pack fault) place = IsNowhere place
IsRefusalPlace stands path (refusals.Verdict words) place = IsNowhere place

-- the path of the file with the fault that hides an entry: that of the place at which the refusal stands, or else that
-- of the survey's file
abbrev pub fault_file : List ℕ → Option PlaceInSource → List ℕ
fault_file path None = path
fault_file path (Some stands) = (line_among stands.files (record { entry = stands.place; field = 0 })).path
