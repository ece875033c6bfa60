-- Entries that are only there to be used by others.
use Rattle.std.specs.Prelude.{◌==◌, ◌&&◌, ◌||◌, ℕ, Bool, true, false, List, Option, Some, None}
use Rattle.std.specs.List.{list_any}
use Rattle.ti_caps.specs.Entry.{Content, string_at}
use Rattle.ti_rows.specs.Names.{cap_of}
use Rattle.ti_rows.specs.declared.rows.Row.{Row}
use Rattle.ti_rows.specs.declared.rows.Row.TheVariants.{Clear, Cup, Sgr0}
use Rattle.ti_verdicts.specs.Locations.{first_name}

abbrev pub is_absent : Option (List ℕ) → Bool
is_absent (Some string) = false
is_absent None = true

-- the entry has no string for the row
abbrev pub lacks : Content → Row → Bool
lacks entry row = is_absent (string_at entry (cap_of row))

-- none of the strings that each certificate needs
unfoldable pub lacks_all : Content → Bool
lacks_all entry = lacks entry Clear && (lacks entry (Cup 0 0) && lacks entry Sgr0)

-- a plus sign in the first of these names
unfoldable pub has_plus : List ℕ → Bool
has_plus names = list_any (λ byte. byte == 43) (first_name names)

abbrev pub is_part : Content → Bool
is_part entry = lacks_all entry || has_plus entry.names
