-- (Serves the code alone.) The flags that say which capabilities the fields of an entry are about.
use Rattle.std.specs.Prelude.{ℕ, ◌<◌, ◌≡◌, Bool, false, List, slice_index_or}
use Rattle.ti_source.specs.declared.types.Field.{Field}
use Rattle.ti_source.specs.Fields.{is_told}

abbrev pub IsSeen : List Field → List Bool → Type 0
IsSeen fields seen = (cap : ℕ) → cap < 497 → slice_index_or seen cap false ≡ is_told fields cap
