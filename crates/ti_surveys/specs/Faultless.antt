-- A survey of a source text without a fault: reading its entries one by one changes nothing.
use Rattle.std.specs.Prelude.{◌≡◌, ℕ, List, Option, Result, Ok}
use Rattle.ti_caps.specs.Entry.{Content}
use Rattle.ti_commands.specs.Findings.{ResolvesAt}
use Rattle.ti_files.specs.declared.failure.CommandRefusal.{CommandRefusal}
use Rattle.ti_source.specs.Apart.{IsApart}
use Rattle.ti_source.specs.Source.{source_of}
use Rattle.ti_source.specs.declared.types.RawEntry.{RawEntry}
use Rattle.ti_source.specs.declared.types.SourceFault.{SourceFault}
use Rattle.ti_surveys.specs.Lines.{ResolvesApart}

-- the entries are those of the whole text, and each is resolved as in the whole text
pub record AreOfWhole (raws whole : List RawEntry) (faults : List (Option SourceFault)) : Type 0 where
  pub same : raws ≡ whole
  pub resolved : (place : ℕ) (entry : Result Content CommandRefusal) → ResolvesApart raws faults place entry
      → ResolvesAt whole place entry

abbrev pub FaultlessIsWhole : Type 0
FaultlessIsWhole =
    (text : List ℕ) (whole raws : List RawEntry) (faults : List (Option SourceFault)) → source_of text ≡ Ok whole
    → IsApart text raws faults → AreOfWhole raws whole faults
