-- The fields and names of entries that are read one by one fit.
use Rattle.std.specs.Prelude.{ℕ, ◌≡◌, List, Option, Some, None, IsTrue, slice_get}
use Rattle.std.specs.List.{AllByRecursion}
use Rattle.ti_caps.specs.Fits.{names_fit}
use Rattle.ti_source.specs.declared.types.RawEntry.{RawEntry}
use Rattle.ti_source.specs.declared.types.SourceFault.{SourceFault}
use Rattle.ti_source.specs.Raw.{FitsField}

-- each field has a value that its capability can have
abbrev pub FieldsFit : RawEntry → Type 0
FieldsFit raw = AllByRecursion FitsField raw.fields

-- an entry that can be read has names that fit
abbrev pub NamesFit : List RawEntry → List (Option SourceFault) → Type 0
NamesFit raws faults =
    (place : ℕ) (raw : RawEntry) → slice_get raws place ≡ Some raw → slice_get faults place ≡ Some None
    → IsTrue (names_fit raw.names)
