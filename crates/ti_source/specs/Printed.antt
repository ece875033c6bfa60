-- An entry as a raw entry, which its printed text is read as.
use Rattle.std.specs.Prelude.{ℕ, ◌≡◌, ◌<◌, zero, suc, List, [], ◌∷◌, ◌++◌, Option, Some, None, Ok, if◌then◌else◌}
use Rattle.std.specs.List.{AllByRecursion, Contains}
use Rattle.ti_caps.specs.declared.types.Kind.{Kind}
use Rattle.ti_caps.specs.declared.types.Kind.TheVariants as kinds
use Rattle.ti_caps.specs.declared.value.Value.{Value}
use Rattle.ti_caps.specs.Entry.{Content, IsEntry, value_at}
use Rattle.ti_caps.specs.Table.{kind_of, place_of_rank}
use Rattle.ti_source.specs.declared.types.Field.{Field}
use Rattle.ti_source.specs.declared.types.Field.TheVariants.{Set, Cancel, Include}
use Rattle.ti_source.specs.declared.types.RawEntry.{RawEntry}
use Rattle.ti_caps.specs.Table.{is_kind}
use Rattle.ti_source.specs.Prints.{text_of}
use Rattle.ti_source.specs.Source.{source_of}

abbrev pub place_fields : ℕ → Option Value → List Field
place_fields place None = []
place_fields place (Some value) = Set place value ∷ []

unfoldable pub rank_fields : Content → Kind → ℕ → List Field
rank_fields entry kind rank =
    if is_kind (kind_of (place_of_rank rank)) kind
    then place_fields (place_of_rank rank) (value_at entry (place_of_rank rank))
    else []

abbrev pub ranks_fields : Content → Kind → ℕ → List Field
ranks_fields entry kind zero = []
ranks_fields entry kind (suc n) = ranks_fields entry kind n ++ rank_fields entry kind n

unfoldable pub kind_fields : Content → Kind → List Field
kind_fields entry kind = ranks_fields entry kind 497

-- the capabilities that an entry has, each with its value: flags, numbers and strings, each kind in the byte order of
-- the names
unfoldable pub fields_of : Content → List Field
fields_of entry = kind_fields entry kinds.Flag ++ (kind_fields entry kinds.Number ++ kind_fields entry kinds.String)

abbrev pub raw_of : Content → RawEntry
raw_of entry = record { line = 1; names = entry.names; fields = fields_of entry; notes = [] }

-- the printed text of an entry is read as that entry
abbrev pub ReadsBack : Type 0
ReadsBack = (entry : Content) → IsEntry entry → source_of (text_of entry) ≡ Ok (raw_of entry ∷ [])

-- a field that sets a capability to its value in the entry
abbrev pub SetsAsIn : Content → Field → Type 0
SetsAsIn entry (Set place value) = (place < 497) × (value_at entry place ≡ Some value)
SetsAsIn entry (Cancel place) = ⊥
SetsAsIn entry (Include name) = ⊥

-- the fields are exactly those of the entry's capabilities
pub record AreJust (entry : Content) (fields : List Field) : Type 0 where
  pub each : AllByRecursion (SetsAsIn entry) fields
  pub all : (place : ℕ) (value : Value) → place < 497 → value_at entry place ≡ Some value
      → Contains fields (Set place value)

abbrev pub PrintsJust : Type 0
PrintsJust = (entry : Content) → AreJust entry (fields_of entry)
