-- (Serves the code alone.) An entry into which fields are copied, the first ones first.
use Rattle.std.specs.Prelude.{ℕ, Bool, true, false, List, [], ◌∷◌, ◌++◌, Some, slice_index_or, slice_set, replicate}
use Rattle.std.specs.Prelude.{if◌then◌else◌}
use Rattle.ti_caps.specs.Entry.{Content, bare_entry, with_value}
use Rattle.ti_source.specs.declared.types.Field.{Field}
use Rattle.ti_source.specs.declared.types.Field.TheVariants.{Set, Cancel, Include}
use Rattle.ti_source.specs.declared.types.RawEntry.{RawEntry}
use Rattle.ti_resolve.specs.Uses.{fields_at}

-- the entry so far, and whether an earlier field was about the capability at each place
pub record Filled : Type 0 where
  pub entry : Content
  pub decided : List Bool

-- a field decides, unless an earlier one did
unfoldable pub take_field : Filled → Field → Filled
take_field so_far (Set cap value) =
    if slice_index_or so_far.decided cap false then so_far
    else record { entry = with_value so_far.entry cap (Some value); decided = slice_set so_far.decided cap true }
take_field so_far (Cancel cap) = record { entry = so_far.entry; decided = slice_set so_far.decided cap true }
take_field so_far (Include name) = so_far

abbrev pub take_fields : Filled → List Field → Filled
take_fields so_far [] = so_far
take_fields so_far (field ∷ fields) = take_fields (take_field so_far field) fields

-- the fields of the entries at these places, one after another
abbrev pub fields_of_all : List RawEntry → List ℕ → List Field
fields_of_all raws [] = []
fields_of_all raws (place ∷ places) = fields_at raws place ++ fields_of_all raws places

-- the entry with only names, before any field
abbrev pub start : List ℕ → Filled
start names = record { entry = bare_entry names; decided = replicate 497 false }
