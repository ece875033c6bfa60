-- The places of faults in a survey: each fault of a field once, with the names of the entries that have it.
use Rattle.std.specs.Prelude.{◌&&◌, ℕ, Bool, List, [], ◌∷◌, ◌++◌, codes, flat_map, if◌then◌else◌}
use Rattle.std.specs.List.{list_any}
use Rattle.std.specs.Str.{bytes_eq}
use Rattle.ti_verdicts.specs.Locations.{PlacedText}

-- the same fault at the same place
unfoldable pub is_same : PlacedText → PlacedText → Bool
is_same first other = bytes_eq first.place other.place && bytes_eq first.fault other.fault

-- a comma and the name of another entry, if it has the first fault too
abbrev pub name_if_same : PlacedText → PlacedText → List ℕ
name_if_same first other = if is_same first other then codes ", " ++ other.name else []

-- the names of all entries with a fault, if others behind the first have it too
unfoldable pub names_line : PlacedText → List PlacedText → List ℕ
names_line first others =
    if list_any (is_same first) others
    then codes "    in " ++ (first.name ++ (flat_map (name_if_same first) others ++ 10 ∷ []))
    else []

-- the place, the entry and the fault, the field below, and the names of all entries that have it
unfoldable pub fault_lines : PlacedText → List PlacedText → List ℕ
fault_lines first others = first.place ++ (first.name ++ (first.fault ++ names_line first others))

-- of a fault behind others: nothing if it is one of those
abbrev pub lines_unless : List PlacedText → PlacedText → List PlacedText → List ℕ
lines_unless before fault others = if list_any (is_same fault) before then [] else fault_lines fault others

-- the lines of faults behind others
abbrev pub lines_behind : List PlacedText → List PlacedText → List ℕ
lines_behind before [] = []
lines_behind before (fault ∷ others) =
    lines_unless before fault others ++ lines_behind (before ++ fault ∷ []) others

-- the lines of all faults
unfoldable pub places_text : List PlacedText → List ℕ
places_text faults = lines_behind [] faults
