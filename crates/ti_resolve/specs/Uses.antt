-- The entries of a source, by their places, and the entries that `use` includes (terminfo(5), "Similar Terminals").
use Rattle.std.specs.Prelude.{ℕ, Bool, false, List, [], ◌∷◌, Option, Some, None, ◌==◌, slice_get}
use Rattle.std.specs.List.{find, list_any, position}
use Rattle.std.specs.Str.{bytes_eq}
use Rattle.ti_caps.specs.Fits.{names_in}
use Rattle.ti_caps.specs.declared.value.Value.{Value}
use Rattle.ti_source.specs.declared.types.Field.{Field}
use Rattle.ti_source.specs.declared.types.Field.TheVariants.{Set, Cancel, Include}
use Rattle.ti_source.specs.declared.types.RawEntry.{RawEntry}

-- the bytes are one of the names in a names field
abbrev pub is_name_in : List ℕ → List ℕ → Bool
is_name_in names name = list_any (λ own. bytes_eq own name) (names_in names)

-- the place of the first entry with this name
unfoldable pub place_named : List RawEntry → List ℕ → Option ℕ
place_named raws name = position (λ raw. is_name_in raw.names name) raws

abbrev pub fields_in : Option RawEntry → List Field
fields_in None = []
fields_in (Some raw) = raw.fields

abbrev pub names_in_entry : Option RawEntry → List ℕ
names_in_entry None = []
names_in_entry (Some raw) = raw.names

-- the fields of the entry at a place, and its names
unfoldable pub fields_at : List RawEntry → ℕ → List Field
fields_at raws place = fields_in (slice_get raws place)

unfoldable pub names_at : List RawEntry → ℕ → List ℕ
names_at raws place = names_in_entry (slice_get raws place)

-- the names used by these fields, in order
abbrev pub uses_in : List Field → List (List ℕ)
uses_in [] = []
uses_in (Include name ∷ fields) = name ∷ uses_in fields
uses_in (_ ∷ fields) = uses_in fields

-- these fields without the uses
abbrev pub own_in : List Field → List Field
own_in [] = []
own_in (Include name ∷ fields) = own_in fields
own_in (field ∷ fields) = field ∷ own_in fields

-- the field is about the capability at a place: it sets or cancels it
abbrev pub is_about : ℕ → Field → Bool
is_about place (Set cap value) = cap == place
is_about place (Cancel cap) = cap == place
is_about place (Include name) = false

-- the first field about the capability at a place
unfoldable pub first_about : ℕ → List Field → Option Field
first_about place fields = find (is_about place) fields

-- the value that a field gives
abbrev pub value_given : Option Field → Option Value
value_given (Some (Set cap value)) = Some value
value_given _ = None
