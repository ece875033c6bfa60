-- A file beside that of an entry, and its entries: those of a source text, or that of a compiled file.
use Rattle.std.specs.Prelude.{◌≡◌, ◌≢◌, ◌⊎◌, ◌==◌, ◌&&◌, ◌||◌, ℕ, Bool, true, false, List, [], ◌∷◌, ◌++◌, Option, None}
use Rattle.std.specs.Prelude.{Result, Ok, Err, if◌then◌else◌}
use Rattle.ti_caps.specs.Entry.{Content}
use Rattle.ti_compiled.specs.Contents.{fit_of, read_of}
use Rattle.ti_compiled.specs.declared.types.PackFault.{PackFault}
use Rattle.ti_sources.specs.Compiled.{raw_of}
use Rattle.ti_sources.specs.declared.files.FurtherFault.{FurtherFault}
use Rattle.ti_sources.specs.declared.files.FurtherFault.TheVariants.{Source, Pack, NoMemory}
use Rattle.ti_source.specs.Apart.{IsApart, apart_of}
use Rattle.ti_source.specs.Source.{FailsBy, source_of}
use Rattle.ti_source.specs.declared.types.FaultKind.TheVariants as fault_kinds
use Rattle.ti_source.specs.declared.types.RawEntry.{RawEntry}
use Rattle.ti_source.specs.declared.types.SourceFault.{SourceFault}

-- a compiled file begins with a magic number (term(5)): octal 432, or 1036 for numbers of 32 bits
abbrev pub is_compiled : List ℕ → Bool
is_compiled (first ∷ second ∷ rest) = ((first == 26) && (second == 1)) || ((first == 30) && (second == 2))
is_compiled _ = false

-- the text that has the lines of the entries; a compiled file has none
abbrev pub text_in : List ℕ → List ℕ
text_in bytes = if is_compiled bytes then [] else bytes

-- the entries of several files put together, in order
abbrev pub together : List (List RawEntry) → List RawEntry
together [] = []
together (raws ∷ others) = raws ++ together others

-- the entry of a compiled file
pub record IsPackedAs (bytes : List ℕ) (entry : Content) : Type 0 where
  pub packed : Content
  pub reads : read_of bytes ≡ Ok packed
  pub fits : fit_of packed ≡ Ok entry

-- the compiled file has a fault, or an entry that a source can't have
abbrev pub IsPackedBadly : List ℕ → PackFault → Type 0
IsPackedBadly bytes fault =
    (read_of bytes ≡ Err fault) ⊎ ((packed : Content) × (read_of bytes ≡ Ok packed) × (fit_of packed ≡ Err fault))

-- (Serves the code alone.) a source's fault, in which running out of memory claims nothing
abbrev pub TellsSource : SourceFault → FurtherFault → Type 0
TellsSource fault (Source told) = (told ≡ fault) × (fault.kind ≢ fault_kinds.NoMemory)
TellsSource fault (Pack told) = ⊥
TellsSource fault NoMemory = Unit {0}

-- ---- the entries of the whole file

abbrev pub AreRawsBy : Bool → List ℕ → List RawEntry → Type 0
AreRawsBy true bytes raws = (entry : Content) × IsPackedAs bytes entry × (raws ≡ raw_of entry ∷ [])
AreRawsBy false bytes raws = source_of bytes ≡ Ok raws

-- these are the file's entries: its first bytes show whether it is compiled
abbrev pub AreRawsOf : List ℕ → List RawEntry → Type 0
AreRawsOf bytes raws = AreRawsBy (is_compiled bytes) bytes raws

-- a compiled file can't be read, for this reason
abbrev pub LacksPacked : List ℕ → FurtherFault → Type 0
LacksPacked bytes (Pack fault) = IsPackedBadly bytes fault
LacksPacked bytes (Source fault) = ⊥
LacksPacked bytes NoMemory = Unit {0}

-- a source can't be read, for this reason: it is the fault of its `reading`
abbrev pub LacksSource : {A : Type 0} → Result A SourceFault → FurtherFault → Type 0
LacksSource reading (Pack fault) = ⊥
LacksSource reading (Source fault) = FailsBy fault.kind fault reading × (fault.kind ≢ fault_kinds.NoMemory)
LacksSource reading NoMemory = Unit {0}

abbrev pub LacksBy : {A : Type 0} → Bool → List ℕ → Result A SourceFault → FurtherFault → Type 0
LacksBy true bytes reading fault = LacksPacked bytes fault
LacksBy false bytes reading fault = LacksSource reading fault

-- the file can't be read, for this reason
abbrev pub LacksRaws : List ℕ → FurtherFault → Type 0
LacksRaws bytes fault = LacksBy (is_compiled bytes) bytes (source_of bytes) fault

-- ---- the entries, each read by itself

-- the entry of a compiled file, which can be read
pub record IsAlone (bytes : List ℕ) (raws : List RawEntry) (faults : List (Option SourceFault)) : Type 0 where
  pub entry : Content
  pub packs : IsPackedAs bytes entry
  pub raw : raws ≡ raw_of entry ∷ []
  pub fault : faults ≡ None ∷ []

abbrev pub AreApartBy : Bool → List ℕ → List RawEntry → List (Option SourceFault) → Type 0
AreApartBy true bytes raws faults = IsAlone bytes raws faults
AreApartBy false bytes raws faults = IsApart bytes raws faults

-- the entries, and for each the reason why it can't be read, if it can't
abbrev pub AreApartOf : List ℕ → List RawEntry → List (Option SourceFault) → Type 0
AreApartOf bytes raws faults = AreApartBy (is_compiled bytes) bytes raws faults

-- the file can't even be read entry by entry, for this reason
abbrev pub LacksApart : List ℕ → FurtherFault → Type 0
LacksApart bytes fault = LacksBy (is_compiled bytes) bytes (apart_of bytes) fault
