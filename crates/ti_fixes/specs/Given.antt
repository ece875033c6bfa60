-- The fields of an entry of which one gives a capability another string.
use Rattle.std.specs.Prelude.{ℕ, zero, suc, Bool, true, false, List, [], ◌∷◌, ◌++◌, if◌then◌else◌, drop, take}
use Rattle.std.specs.List.{list_all}
use Rattle.ti_caps.specs.declared.value.Value.TheVariants.{String}
use Rattle.ti_resolve.specs.Uses.{is_about}
use Rattle.ti_source.specs.declared.types.Field.{Field}
use Rattle.ti_source.specs.declared.types.Field.TheVariants.{Set, Cancel, Include}

-- the field is a use of another entry
abbrev pub is_use : Field → Bool
is_use (Set cap value) = false
is_use (Cancel cap) = false
is_use (Include name) = true

-- how many fields there are up to the last one that is no use
abbrev pub own_count : List Field → ℕ
own_count [] = zero
own_count (field ∷ fields) = if list_all is_use (field ∷ fields) then zero else suc (own_count fields)

-- the fields with the first one about the capability replaced, or with one more behind them if none is about it
abbrev pub with_own : ℕ → List ℕ → List Field → List Field
with_own cap string [] = Set cap (String string) ∷ []
with_own cap string (field ∷ fields) =
    if is_about cap field then Set cap (String string) ∷ fields else field ∷ with_own cap string fields

-- the same, where one more field stands before the uses at the end
abbrev pub with_given : ℕ → List ℕ → List Field → List Field
with_given cap string fields = with_own cap string (take (own_count fields) fields) ++ drop (own_count fields) fields
