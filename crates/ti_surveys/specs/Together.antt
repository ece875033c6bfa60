-- The entries of a source and, behind them, those of the files of `--with`, each read by itself.
use Rattle.std.specs.Prelude.{◌≡◌, ◌⊎◌, ℕ, List, [], ◌∷◌, Option, length, map}
use Rattle.std.specs.List.{flat_map}
use Rattle.ti_files.specs.Contents.{Held}
use Rattle.ti_commands.specs.Further.{AreHeld, FailsReading}
use Rattle.ti_files.specs.Sizes.{HasSize, LacksSize}
use Rattle.ti_files.specs.declared.failure.CommandRefusal.TheVariants.{Source, Pack}
use Rattle.ti_files.specs.declared.failure.Failure.{Failure}
use Rattle.ti_files.specs.declared.failure.Failure.TheVariants.{Refused, NoMemory}
use Rattle.ti_sources.specs.Files.{AreApartOf, LacksApart}
use Rattle.ti_sources.specs.declared.files.FurtherFault.TheVariants as further_faults
use Rattle.ti_sources.specs.declared.files.FurtherFile.{FurtherFile}
use Rattle.ti_source.specs.declared.types.RawEntry.{RawEntry}
use Rattle.ti_source.specs.declared.types.SourceFault.{SourceFault}
use Rattle.ti_surveys.specs.declared.together.ApartTogether.{ApartTogether}

-- the entries of a file, and for each the reason why it can't be read, if it can't
pub record OneApart : Type 0 where
  pub raws : List RawEntry
  pub faults : List (Option SourceFault)

-- the entries of each of these files, in order
unfoldable pub AreApart : List FurtherFile → List OneApart → Type 0
AreApart [] ones = ones ≡ []
AreApart (file ∷ files) ones =
    (one : OneApart) × (later : List OneApart) × (ones ≡ one ∷ later)
    × AreApartOf file.bytes.items one.raws one.faults × AreApart files later

-- all entries put together, with their faults, and how many entries each file has
pub record AllApart : Type 0 where
  pub raws : List RawEntry
  pub faults : List (Option SourceFault)
  pub counts : List ℕ

-- the entries of a source come first, and then those of the other files
pub record ArePutApart (own : OneApart) (others : List FurtherFile) (all : AllApart) : Type 0 where
  pub ones : List OneApart
  pub each : AreApart others ones
  pub raws_are : all.raws ≡ flat_map (λ (one : OneApart). one.raws) (own ∷ ones)
  pub faults_are : all.faults ≡ flat_map (λ (one : OneApart). one.faults) (own ∷ ones)
  pub counts_are : all.counts ≡ map (λ (one : OneApart). length one.raws) (own ∷ ones)

-- ---- files that hide all their entries

abbrev pub IsBadlyApart : List ℕ → Failure → Type 0
IsBadlyApart bytes (Refused (Source fault)) = LacksApart bytes (further_faults.Source fault)
IsBadlyApart bytes (Refused (Pack fault)) = LacksApart bytes (further_faults.Pack fault)
IsBadlyApart bytes NoMemory = Unit {0}
IsBadlyApart bytes _ = ⊥

-- one of these files hides all its entries, for this reason
unfoldable pub FailsApartly : List FurtherFile → Failure → Type 0
FailsApartly [] failure = ⊥
FailsApartly (file ∷ files) failure = IsBadlyApart file.bytes.items failure ⊎ FailsApartly files failure

-- a file of `--with` can't be read, or hides all its entries; memory can run out at any time
abbrev pub FailsBeside : Held → Failure → Type 0
FailsBeside held failure =
    FailsReading held.with_paths failure
    ⊎ ((others : List FurtherFile) × AreHeld held held.with_paths others × FailsApartly others failure)
    ⊎ (failure ≡ NoMemory)

-- the words give no size, or else a file of `--with` gives no entries
abbrev pub FailsToSurvey : Held → List ℕ → List ℕ → Failure → Type 0
FailsToSurvey held rows cols failure = LacksSize rows cols failure ⊎ (HasSize rows cols × FailsBeside held failure)

-- (Serves the code alone.) what was put together, without its memory
abbrev pub all_in : ApartTogether → AllApart
all_in all = record { raws = all.raws.items; faults = all.faults.items; counts = all.counts.items }
