-- The entry of a compiled file as an entry of a source: one that gives each value itself, and uses no other.
use Rattle.std.specs.Prelude.{ℕ, List, [], ◌∷◌, Option, Some, None}
use Rattle.std.specs.List.{flat_map, range_with_len}
use Rattle.ti_caps.specs.Entry.{Content, value_at}
use Rattle.ti_caps.specs.declared.value.Value.{Value}
use Rattle.ti_source.specs.declared.types.Field.{Field}
use Rattle.ti_source.specs.declared.types.Field.TheVariants.{Set}
use Rattle.ti_source.specs.declared.types.RawEntry.{RawEntry}

-- the field that gives a capability its value, if it has one
abbrev pub field_for : ℕ → Option Value → List Field
field_for cap None = []
field_for cap (Some value) = Set cap value ∷ []

-- the fields of the first `count` capabilities that have a value
unfoldable pub fields_below : Content → ℕ → List Field
fields_below entry count = flat_map (λ cap. field_for cap (value_at entry cap)) (range_with_len 0 count)

-- the entry, which stands on no line of a text and has no notes
abbrev pub raw_of : Content → RawEntry
raw_of entry = record { line = 0; names = entry.names; fields = fields_below entry 497; notes = [] }
