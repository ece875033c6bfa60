-- An entry can be made from each raw entry that reading returns.
use Rattle.std.specs.Prelude.{Some, IsTrue}
use Rattle.std.specs.List.{AllByRecursion}
use Rattle.ti_caps.specs.Entry.{FitsPlace}
use Rattle.ti_caps.specs.Fits.{names_fit}
use Rattle.ti_source.specs.declared.types.Field.{Field}
use Rattle.ti_source.specs.declared.types.Field.TheVariants.{Set, Cancel, Include}
use Rattle.ti_source.specs.declared.types.RawEntry.{RawEntry}

-- a field's value fits its capability
abbrev pub FitsField : Field → Type 0
FitsField (Set place value) = FitsPlace place (Some value)
FitsField (Cancel place) = Unit {0}
FitsField (Include name) = Unit {0}

pub record IsRaw (raw : RawEntry) : Type 0 where
  pub names : IsTrue (names_fit raw.names)
  pub fields : AllByRecursion FitsField raw.fields
