-- (Serves the code alone.) The index in which the code finds faults that are the same.
use Rattle.std.specs.Prelude.{◌≡◌, ◌+◌, ◌==◌, ℕ, List, [], ◌∷◌, ◌++◌, Option, Some, None, codes, drop, flat_map}
use Rattle.std.specs.Prelude.{get_or, if◌then◌else◌, map, option_map, take}
use Rattle.std.specs.BTreeMap.{BTreeMap, get_by}
use Rattle.std.specs.List.{list_any}
use Rattle.std.specs.Cmp.Lexicographic.{slice_cmp}
use Rattle.std.specs.Ordering.{nat_cmp, ordering_then}
use Rattle.std.specs.declared.cmp.Ordering.{Ordering}
use denote.Ref.{Bor}
use Rattle.ti_surveys.specs.Places.{is_same, name_if_same}
use Rattle.ti_surveys.specs.declared.shares.Share.{Share}
use Rattle.ti_verdicts.specs.Locations.{PlacedText, placed_in}
use Rattle.ti_verdicts.specs.declared.locations.PlacedFault.{PlacedFault}

-- the number of the first fault that is the same as another, and the names of those behind it that are, each behind a
-- comma
pub record Shared : Type 0 where
  pub first : ℕ
  pub names : List ℕ

-- among faults whose first one has this number
abbrev pub shared_from : ℕ → PlacedText → List PlacedText → Option Shared
shared_from number asked [] = None
shared_from number asked (fault ∷ others) =
    if is_same asked fault
    then Some (record { first = number; names = flat_map (name_if_same asked) others })
    else shared_from (number + 1) asked others

-- with the name of one fault more, which has this number
abbrev pub with_name : ℕ → List ℕ → Option Shared → Shared
with_name number name None = record { first = number; names = [] }
with_name number name (Some shared) = record { first = shared.first; names = shared.names ++ (codes ", " ++ name) }

-- a fault's place and its text
abbrev pub Key : Type 0
Key = Bor (List ℕ) × Bor (List ℕ)

abbrev pub key_cmp : Key → Key → Ordering
key_cmp x y = ordering_then (slice_cmp nat_cmp x.0.now y.0.now) (slice_cmp nat_cmp x.1.now y.1.now)

abbrev pub asked_by : Key → PlacedText
asked_by key = record { place = key.0.now; name = []; fault = key.1.now }

abbrev pub shared_in : Share → Shared
shared_in share = record { first = share.first; names = share.names.items }

-- what the index has at a key
abbrev pub share_at : BTreeMap Key Share → Key → Option Shared
share_at found key = option_map shared_in (get_by (key_cmp key) found)

-- the index of faults
abbrev pub HasShares : List PlacedText → BTreeMap Key Share → Type 0
HasShares faults found = (key : Key) → share_at found key ≡ shared_from 0 (asked_by key) faults

-- one fault more, with this number
abbrev pub AddsFault : BTreeMap Key Share → BTreeMap Key Share → ℕ → PlacedText → Type 0
AddsFault old new number fault =
    (key : Key) → share_at new key ≡ (
    if is_same (asked_by key) fault
    then Some (with_name number fault.name (share_at old key))
    else share_at old key)

-- what an index says of a fault behind others: nothing if it is the same as one of these, else the names of those
-- behind it
abbrev pub names_behind : List PlacedText → PlacedText → List PlacedText → Option (List ℕ)
names_behind before fault others =
    if list_any (is_same fault) before then None else Some (flat_map (name_if_same fault) others)

-- these are the names behind the fault with this number
abbrev pub AreNamesAt : List PlacedFault → ℕ → Option (List ℕ) → Type 0
AreNamesAt faults number names =
    (fault : PlacedFault) → fault ≡ get_or faults number fault
    → names ≡ names_behind (map placed_in (take number faults)) (placed_in fault)
    (map placed_in (drop (number + 1) faults))

-- the names behind a fault with a number, by what the index has at its key
abbrev pub names_if : Option Shared → ℕ → Option (List ℕ)
names_if None number = None
names_if (Some shared) number = if shared.first == number then Some shared.names else None

-- the lines of a fault with the names of others
abbrev pub lines_with : PlacedText → List ℕ → List ℕ
lines_with fault [] = fault.place ++ (fault.name ++ fault.fault)
lines_with fault (byte ∷ names) =
    fault.place ++ (fault.name ++ (fault.fault ++ (codes "    in " ++ (fault.name ++ ((byte ∷ names) ++ 10 ∷ [])))))

-- none where an earlier fault is the same
abbrev pub lines_if : PlacedText → Option (List ℕ) → List ℕ
lines_if fault None = []
lines_if fault (Some names) = lines_with fault names
