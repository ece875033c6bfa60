-- The lines of a survey: the statements about each entry of a file, in order.
use Rattle.std.specs.Prelude.{◌≡◌, ◌≢◌, ◌⊎◌, ◌==◌, ◌&&◌, ◌||◌, ℕ, Bool, true, false, List, [], ◌∷◌, Option, Some, None}
use Rattle.std.specs.Prelude.{Result, Ok, Err, length, option_map, slice_get}
use Rattle.std.specs.List.{AllByRecursion, range_with_len}
use Rattle.ti_caps.specs.Entry.{Content}
use Rattle.ti_compiled.specs.Contents.{read_of}
use Rattle.ti_compiled.specs.declared.types.PackFault.{PackFault}
use Rattle.ti_sources.specs.Resolution.{IsResolvedApart, IsUnread, fault_in}
use Rattle.ti_resolve.specs.Origins.{first_of}
use Rattle.ti_resolve.specs.Walk.{walk_at}
use Rattle.ti_resolve.specs.declared.faults.ResolveFault.TheVariants as resolve_faults
use Rattle.ti_source.specs.Apart.{IsApart, apart_of}
use Rattle.ti_source.specs.Fitting.{FieldsFit, NamesFit}
use Rattle.ti_source.specs.Source.{FailsBy}
use Rattle.ti_source.specs.declared.types.FaultKind.TheVariants as fault_kinds
use Rattle.ti_source.specs.declared.types.RawEntry.{RawEntry}
use Rattle.ti_source.specs.declared.types.SourceFault.{SourceFault}
use Rattle.ti_commands.specs.Findings.{FitsTo}
use Rattle.ti_files.specs.declared.failure.CommandRefusal.{CommandRefusal}
use Rattle.ti_files.specs.declared.failure.CommandRefusal.TheVariants.{Pack, Resolve, Source}
use Rattle.ti_sources.specs.declared.files.FurtherFile.{FurtherFile}
use Rattle.ti_surveys.specs.Together.{AllApart, ArePutApart, OneApart, all_in}
use Rattle.ti_surveys.specs.declared.together.ApartTogether.{ApartTogether}
use Rattle.ti_surveys.specs.Told.{IsToldOfEach, Told}
use Rattle.ti_verdicts.specs.Locations.{PlaceInSource, first_name}
use Rattle.ti_sources.specs.LinedFiles.{PutFiles, texts_of_files}

-- the statements allowed about an entry, by the path of its file, its place in a source, its name and its contents
abbrev pub Saying : Type 1
Saying = List ℕ → Option PlaceInSource → List ℕ → Content → Told → Type 0

-- the statements allowed about an entry that can't be obtained, by the path of its file, its place in a source or that
-- of the entry that hides it, its name and the refusal that says why; or about a file that has no entries, without
-- place and name
abbrev pub Refusing : Type 1
Refusing = List ℕ → Option PlaceInSource → Option (List ℕ) → CommandRefusal → Told → Type 0

-- the statements allowed about a file that can't be read, by its path
abbrev pub Leaving : Type 1
Leaving = List ℕ → Told → Type 0

-- ---- the lines of an entry

-- the statement under its name about an entry that is there, or about one that can't be read
abbrev pub IsTold : Saying → Refusing → Result Content CommandRefusal → List ℕ → Option PlaceInSource → List ℕ → Told
    → Type 0
IsTold Says Refuses (Ok entry) path stands name told = Says path stands name entry told
IsTold Says Refuses (Err refusal) path stands name told = Refuses path stands (Some name) refusal told

-- the entry at a place of a text whose entries are read one by one, or the reason why there is none: it or one that it
-- uses can't be read, or it can't be resolved
abbrev pub ResolvesApart : List RawEntry → List (Option SourceFault) → ℕ → Result Content CommandRefusal → Type 0
ResolvesApart raws faults place (Ok entry) = IsResolvedApart raws faults place entry
ResolvesApart raws faults place (Err (Source fault)) = IsUnread raws faults place fault
ResolvesApart raws faults place (Err (Resolve fault)) =
    (walk_at raws place ≡ Err fault) × (fault ≢ resolve_faults.NoMemory)
ResolvesApart raws faults place (Err _) = ⊥

-- the entry at a place, if it can't be read
abbrev pub unread_in : List (Option SourceFault) → ℕ → Option ℕ
unread_in faults place = option_map (λ fault. place) (fault_in faults place)

-- the first entry among these places that can't be read
abbrev pub first_unread : List (Option SourceFault) → List ℕ → Option ℕ
first_unread faults places = first_of (unread_in faults) places

-- the entry that hides the one at a place: the first one that can't be read, of this one and those that it uses
pub record IsHiding (raws : List RawEntry) (faults : List (Option SourceFault)) (place hiding : ℕ) : Type 0 where
  pub places : List ℕ
  pub walks : walk_at raws place ≡ Ok places
  pub first : first_unread faults places ≡ Some hiding

-- the place at which a statement stands: that of the entry, or of the one that hides it
abbrev pub StandsAt : List RawEntry → List (Option SourceFault) → ℕ → Result Content CommandRefusal → ℕ → Type 0
StandsAt raws faults place (Ok entry) at = at ≡ place
StandsAt raws faults place (Err (Source fault)) at = IsHiding raws faults place at
StandsAt raws faults place (Err _) at = at ≡ place

-- the lines of an entry of a source text by its place among the entries of these files, whatever other entries have its
-- names
pub record IsSourcePart (Says : Saying) (Refuses : Refusing) (path : List ℕ) (files : PutFiles) (raws : List RawEntry)
    (faults : List (Option SourceFault)) (place : ℕ) (said : Told) : Type 0 where
  pub raw : RawEntry
  pub there : slice_get raws place ≡ Some raw
  pub entry : Result Content CommandRefusal
  pub resolves : ResolvesApart raws faults place entry
  pub at : ℕ
  pub stands : StandsAt raws faults place entry at
  pub told : IsTold Says Refuses entry path (Some (record { files = files; raws = raws; place = at }))
      (first_name raw.names) said

-- the lines of the entry of a compiled file
pub record IsFilePart (Says : Saying) (Refuses : Refusing) (path : List ℕ) (packed : Content) (said : Told)
    : Type 0 where
  pub entry : Result Content CommandRefusal
  pub fits : FitsTo packed entry
  pub told : IsTold Says Refuses entry path None (first_name packed.names) said

-- ---- a file

-- whether the file begins as a compiled one does
abbrev pub is_compiled : List ℕ → Bool
is_compiled (first ∷ second ∷ rest) = ((first == 0x1a) && (second == 0x01)) || ((first == 0x1e) && (second == 0x02))
is_compiled _ = false

-- the statement about a compiled file that has an entry
pub record HasEntry (Says : Saying) (Refuses : Refusing) (path bytes : List ℕ) (said : Told) : Type 0 where
  pub packed : Content
  pub reads : read_of bytes ≡ Ok packed
  pub told : IsFilePart Says Refuses path packed said

-- the statement about a compiled file that has a fault
pub record IsFaultyFile (Refuses : Refusing) (path bytes : List ℕ) (said : Told) : Type 0 where
  pub fault : PackFault
  pub faulty : read_of bytes ≡ Err fault
  pub told : Refuses path None None (Pack fault) said

-- the files of entries that were put together: a source, and the others
abbrev pub files_beside : List ℕ → List ℕ → List FurtherFile → List ℕ → PutFiles
files_beside path text others counts = record { texts = texts_of_files path text others; counts = counts }

-- the statements about the entries of a source text, each read by itself; they may use those of the other files
pub record HasEntries (Says : Saying) (Refuses : Refusing) (others : List FurtherFile) (path bytes : List ℕ)
    (said : Told) : Type 0 where
  pub own : OneApart
  pub reads : IsApart bytes own.raws own.faults
  pub all : AllApart
  pub together : ArePutApart own others all
  pub each : IsToldOfEach
      (IsSourcePart Says Refuses path (files_beside path bytes others all.counts) all.raws all.faults)
      (range_with_len 0 (length own.raws)) said

-- the statement about a source text that is too long, or has a fault before its first entry
pub record LacksEntries (Refuses : Refusing) (path bytes : List ℕ) (said : Told) : Type 0 where
  pub fault : SourceFault
  pub faulty : FailsBy fault.kind fault (apart_of bytes)
  pub claims : fault.kind ≢ fault_kinds.NoMemory
  pub told : Refuses path None None (Source fault) said

abbrev pub AreLinesBy : Bool → Saying → Refusing → List FurtherFile → List ℕ → List ℕ → Told → Type 0
AreLinesBy true Says Refuses others path bytes said =
    HasEntry Says Refuses path bytes said ⊎ IsFaultyFile Refuses path bytes said
AreLinesBy false Says Refuses others path bytes said =
    HasEntries Says Refuses others path bytes said ⊎ LacksEntries Refuses path bytes said

-- the lines of a file, whose entries may use those of the other files: its first bytes show whether it is compiled
abbrev pub AreLines : Saying → Refusing → List FurtherFile → List ℕ → List ℕ → Told → Type 0
AreLines Says Refuses others path bytes said = AreLinesBy (is_compiled bytes) Says Refuses others path bytes said

-- (Serves the code alone.) how many entries the first file has
abbrev pub first_count : List ℕ → ℕ
first_count [] = 0
first_count (count ∷ counts) = count

-- (Serves the code alone.) the entries of a text and of other files, which can be resolved
pub record IsAllRead (text : List ℕ) (others : List FurtherFile) (all : AllApart) : Type 0 where
  pub own : OneApart
  pub reads : IsApart text own.raws own.faults
  pub together : ArePutApart own others all
  pub fit : AllByRecursion FieldsFit all.raws
  pub named : NamesFit all.raws all.faults
  pub beside : length all.faults ≡ length all.raws

-- (Serves the code alone.) or the fault that hides all entries of the text
abbrev pub AreAllRead : List ℕ → List FurtherFile → Result ApartTogether SourceFault → Type 0
AreAllRead text others (Ok all) = IsAllRead text others (all_in all)
AreAllRead text others (Err fault) = FailsBy fault.kind fault (apart_of text) × (fault.kind ≢ fault_kinds.NoMemory)
