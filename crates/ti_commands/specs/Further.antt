-- The entries of the files of `--with`, behind those of a source.
use Rattle.std.specs.Prelude.{◌≡◌, ◌⊎◌, ◌≤◌, ℕ, List, [], ◌∷◌, ◌++◌, String, length, map, string_bytes, take}
use Rattle.std.specs.declared.alloc.Global.{Global}
use Rattle.ti_sources.specs.Files.{AreRawsOf, LacksRaws, together}
use Rattle.ti_sources.specs.declared.files.FurtherFault.{FurtherFault}
use Rattle.ti_sources.specs.declared.files.FurtherFault.TheVariants as further_faults
use Rattle.ti_sources.specs.declared.files.FurtherFile.{FurtherFile}
use Rattle.ti_source.specs.declared.types.RawEntry.{RawEntry}
use Rattle.ti_files.specs.Contents.{AreBytesOf, HasBytes, Held, longest_file}
use Rattle.ti_files.specs.Failures.{IsFileFailure}
use Rattle.ti_files.specs.declared.failure.Failure.{Failure}
use Rattle.ti_files.specs.declared.failure.Failure.TheVariants.{Refused, NoMemory}
use Rattle.ti_files.specs.declared.failure.CommandRefusal.TheVariants.{Source, Pack}
use Rattle.ti_commands.specs.declared.further.PutTogether.{PutTogether}

-- the file at a path, and its entries
pub record IsFurther (held : Held) (path : List ℕ) (file : FurtherFile) (raws : List RawEntry) : Type 0 where
  pub named : string_bytes file.path ≡ path
  pub whole : AreBytesOf (held.at path) file.bytes.items
  pub short : length file.bytes.items ≤ longest_file
  pub reads : AreRawsOf file.bytes.items raws

-- the files at these paths, and the entries of each, in order
unfoldable pub AreFurther : Held → List (List ℕ) → List FurtherFile → List (List RawEntry) → Type 0
AreFurther held [] files lists = (files ≡ []) × (lists ≡ [])
AreFurther held (path ∷ paths) files lists =
    (file : FurtherFile) × (others : List FurtherFile) × (raws : List RawEntry) × (later : List (List RawEntry))
    × (files ≡ file ∷ others) × (lists ≡ raws ∷ later) × IsFurther held path file raws
    × AreFurther held paths others later

-- all entries put together, the files behind the first one, and how many entries each file has, the first one too
pub record Together : Type 0 where
  pub raws : List RawEntry
  pub files : List FurtherFile
  pub counts : List ℕ

-- these entries come first, and then those of the files of `--with`
pub record ArePutTogether (held : Held) (own : List RawEntry) (all : Together) : Type 0 where
  pub lists : List (List RawEntry)
  pub each : AreFurther held held.with_paths all.files lists
  pub raws_are : all.raws ≡ together (own ∷ lists)
  pub counts_are : all.counts ≡ map length (own ∷ lists)

-- the bytes of a further file give no entries
abbrev pub IsBadlyFurther : List ℕ → Failure → Type 0
IsBadlyFurther bytes (Refused (Source fault)) = LacksRaws bytes (further_faults.Source fault)
IsBadlyFurther bytes (Refused (Pack fault)) = LacksRaws bytes (further_faults.Pack fault)
IsBadlyFurther bytes NoMemory = Unit {0}
IsBadlyFurther bytes _ = ⊥

-- (Serves the code alone.) the failure for the fault of a further file
abbrev pub TellsFurther : FurtherFault → Failure → Type 0
TellsFurther (further_faults.Source fault) failure = failure ≡ Refused (Source fault)
TellsFurther (further_faults.Pack fault) failure = failure ≡ Refused (Pack fault)
TellsFurther further_faults.NoMemory failure = failure ≡ NoMemory

-- the file at a path can't be read, or gives no entries
abbrev pub FailsAtFurther : Held → List ℕ → Failure → Type 0
FailsAtFurther held path failure =
    IsFileFailure path failure ⊎ HasBytes (held.at path) longest_file (λ bytes. IsBadlyFurther bytes failure)

-- the first file at these paths that gives no entries, for this reason
unfoldable pub FailsFurther : Held → List (List ℕ) → Failure → Type 0
FailsFurther held [] failure = ⊥
FailsFurther held (path ∷ paths) failure =
    FailsAtFurther held path failure
    ⊎ (HasBytes (held.at path) longest_file (λ bytes. (raws : List RawEntry) × AreRawsOf bytes raws)
    × FailsFurther held paths failure)

-- ---- files that are read, and taken apart later

-- the file at a path
pub record IsHeld (held : Held) (path : List ℕ) (file : FurtherFile) : Type 0 where
  pub named : string_bytes file.path ≡ path
  pub whole : AreBytesOf (held.at path) file.bytes.items
  pub short : length file.bytes.items ≤ longest_file

-- the files at these paths, in order
unfoldable pub AreHeld : Held → List (List ℕ) → List FurtherFile → Type 0
AreHeld held [] files = files ≡ []
AreHeld held (path ∷ paths) files =
    (file : FurtherFile) × (others : List FurtherFile) × (files ≡ file ∷ others) × IsHeld held path file
    × AreHeld held paths others

-- one of the files at these paths can't be read
unfoldable pub FailsReading : List (List ℕ) → Failure → Type 0
FailsReading [] failure = ⊥
FailsReading (path ∷ paths) failure = IsFileFailure path failure ⊎ FailsReading paths failure

-- ---- for private clauses: while entries are put together

-- the paths as bytes
abbrev pub path_texts : List (String Global) → List (List ℕ)
path_texts paths = map (λ path. string_bytes path) paths

-- what was put together, without its memory
abbrev pub together_in : PutTogether → Together
together_in put = record { raws = put.raws.items; files = put.files.items; counts = put.counts.items }

-- the file at one more path was added, with its entries
pub record AddsFurther (held : Held) (path : List ℕ) (before after : Together) : Type 0 where
  pub file : FurtherFile
  pub raws : List RawEntry
  pub is : IsFurther held path file raws
  pub raws_are : after.raws ≡ before.raws ++ raws
  pub files_are : after.files ≡ before.files ++ file ∷ []
  pub counts_are : after.counts ≡ before.counts ++ length raws ∷ []

-- entries put together so far, with those of the files at these paths
pub record AreReached (held : Held) (own : List RawEntry) (paths : List (List ℕ)) (all : Together) : Type 0 where
  pub lists : List (List RawEntry)
  pub each : AreFurther held paths all.files lists
  pub raws_are : all.raws ≡ together (own ∷ lists)
  pub counts_are : all.counts ≡ map length (own ∷ lists)

-- ---- the entries of the first file

-- the entries of the first file among those put together, by how many entries each file has
abbrev pub own_raws : List ℕ → List RawEntry → List RawEntry
own_raws [] raws = []
own_raws (own ∷ counts) raws = take own raws
