-- The walk through the uses of an entry, depth first and left to right. It returns the places of the entries in the
-- order in which they are entered, or the first fault.
use Rattle.std.specs.Prelude.{ℕ, zero, suc, ◌≡◌, Bool, List, [], ◌∷◌, ◌++◌, Option, Some, None, Result, Ok, Err, ◌==◌}
use Rattle.std.specs.Prelude.{nat_le, if◌then◌else◌, length}
use Rattle.std.specs.List.{list_any}
use Rattle.ti_resolve.specs.declared.faults.ResolveFault.{ResolveFault}
use Rattle.ti_resolve.specs.declared.faults.ResolveFault.TheVariants.{NoSuchEntry, Cycle, NoMemory, TooMany}
use Rattle.ti_source.specs.declared.types.Field.{Field}
use Rattle.ti_source.specs.declared.types.Field.TheVariants.{Set, Cancel, Include}
use Rattle.ti_source.specs.declared.types.RawEntry.{RawEntry}
use Rattle.ti_resolve.specs.Uses.{place_named, fields_at, names_at, uses_in}

-- the next step of a walk, unless there was a fault
abbrev pub and_then : {X Y : Type 0} → Result X ResolveFault → (X → Result Y ResolveFault) → Result Y ResolveFault
and_then (Ok x) next = next x
and_then (Err fault) next = Err fault

abbrev pub holds : List ℕ → ℕ → Bool
holds places place = list_any (λ p. p == place) places

-- The entry to which a use leads. Meeting an entry that is still being walked is a cycle; meeting one that is
-- finished adds nothing. Besides the resolved entry, at most 64 can be entered.
unfoldable pub target : Option ℕ → List ℕ → List ℕ → List ℕ → Result (Option ℕ) ResolveFault
target None name chain entered = Err (NoSuchEntry name)
target (Some place) name chain entered =
    if holds chain place then Err (Cycle name) else (
    if holds entered place then Ok None else (
    if nat_le 65 (length entered) then Err (TooMany name) else Ok (Some place)))

-- enters the entry to which a use leads, if there is one to enter
abbrev pub go_to : (ℕ → List ℕ → Result (List ℕ) ResolveFault) → List ℕ → Option ℕ → Result (List ℕ) ResolveFault
go_to go entered None = Ok entered
go_to go entered (Some place) = go place entered

-- the uses of these names in turn; `go` enters the entry with a name
unfoldable pub follow_uses : (List ℕ → ℕ → List ℕ → Result (List ℕ) ResolveFault) → List RawEntry → List ℕ
    → List (List ℕ) → List ℕ → Result (List ℕ) ResolveFault
follow_uses go raws chain [] entered = Ok entered
follow_uses go raws chain (name ∷ names) entered =
    and_then (and_then (target (place_named raws name) name chain entered) (go_to (go name) entered))
    (follow_uses go raws chain names)

-- the walk for one field
abbrev pub follow_field : (List ℕ → ℕ → List ℕ → Result (List ℕ) ResolveFault) → List RawEntry → List ℕ → Field → List ℕ
    → Result (List ℕ) ResolveFault
follow_field go raws chain (Include name) entered =
    and_then (target (place_named raws name) name chain entered) (go_to (go name) entered)
follow_field go raws chain (Set cap value) entered = Ok entered
follow_field go raws chain (Cancel cap) entered = Ok entered

-- Enters the entry at a place, and then all that it uses. The number says how many more entries the chain of those
-- being walked can take; it never has more than were entered.
unfoldable pub enter : ℕ → List RawEntry → List ℕ → List ℕ → ℕ → List ℕ → Result (List ℕ) ResolveFault
enter zero raws chain name place entered = Err (TooMany name)
enter (suc depth) raws chain name place entered =
    follow_uses (enter depth raws (chain ++ place ∷ [])) raws (chain ++ place ∷ []) (uses_in (fields_at raws place))
    (entered ++ place ∷ [])

-- the walk from the entry at a place; in place of a name that leads to it, it takes the entry's own names
abbrev pub walk_at : List RawEntry → ℕ → Result (List ℕ) ResolveFault
walk_at raws root = enter 65 raws [] (names_at raws root) root []

-- the walk from the first entry with a name
abbrev pub walk_from : List RawEntry → List ℕ → Option ℕ → Result (List ℕ) ResolveFault
walk_from raws name None = Err (NoSuchEntry name)
walk_from raws name (Some root) = walk_at raws root

unfoldable pub walk_of : List RawEntry → List ℕ → Result (List ℕ) ResolveFault
walk_of raws name = walk_from raws name (place_named raws name)

-- the reported fault is the walk's, unless memory ran out
abbrev pub FailsBy : {X : Type 0} → ResolveFault → Result X ResolveFault → Type 0
FailsBy NoMemory walk = Unit {0}
FailsBy (NoSuchEntry name) walk = walk ≡ Err (NoSuchEntry name)
FailsBy (Cycle name) walk = walk ≡ Err (Cycle name)
FailsBy (TooMany name) walk = walk ≡ Err (TooMany name)

-- the fault that was made is this one, unless memory ran out
abbrev pub Tells : ResolveFault → ResolveFault → Type 0
Tells NoMemory fault = Unit {0}
Tells (NoSuchEntry name) fault = NoSuchEntry name ≡ fault
Tells (Cycle name) fault = Cycle name ≡ fault
Tells (TooMany name) fault = TooMany name ≡ fault

-- the result, seen through the view, is that of the walk
abbrev pub Gives : {X Y : Type 0} → (X → Y) → Result X ResolveFault → Result Y ResolveFault → Type 0
Gives view (Ok x) walk = walk ≡ Ok (view x)
Gives view (Err fault) walk = FailsBy fault walk
