-- The field that gives a capability its value in an entry with all that it uses.
use Rattle.std.specs.Prelude.{ℕ, ◌≡◌, Bool, true, false, List, [], ◌∷◌, Option, Some, None, if◌then◌else◌, slice_get}
use Rattle.std.specs.Prelude.{option_map}
use Rattle.std.specs.List.{position}
use Rattle.std.specs.Option.{option_or}
use Rattle.ti_caps.specs.Entry.{Content, value_at}
use Rattle.ti_caps.specs.declared.value.Value.{Value}
use Rattle.ti_source.specs.declared.types.Field.{Field}
use Rattle.ti_source.specs.declared.types.Field.TheVariants.{Set}
use Rattle.ti_source.specs.declared.types.RawEntry.{RawEntry}
use Rattle.ti_resolve.specs.declared.origins.Origin.{Origin}
use Rattle.ti_resolve.specs.Resolved.{IsResolved, IsResolvedAt, IsWhole}
use Rattle.ti_resolve.specs.Uses.{place_named, fields_at, is_about}

abbrev pub origin_at : ℕ → ℕ → Origin
origin_at entry field = record { entry = entry; field = field }

-- the first field about a capability in the entry at a place
unfoldable pub origin_in : List RawEntry → ℕ → ℕ → Option Origin
origin_in raws cap place = option_map (origin_at place) (position (is_about cap) (fields_at raws place))

-- the first result that is found at one of the places
abbrev pub first_of : {X : Type 0} → (ℕ → Option X) → List ℕ → Option X
first_of found [] = None
first_of found (place ∷ places) = option_or (found place) (first_of found places)

-- the field at an origin
unfoldable pub field_there : List RawEntry → Origin → Option Field
field_there raws origin = slice_get (fields_at raws origin.entry) origin.field

abbrev pub is_set : Option Field → Bool
is_set (Some (Set cap value)) = true
is_set _ = false

-- a field that cancels gives no value
abbrev pub giving : List RawEntry → Option Origin → Option Origin
giving raws None = None
giving raws (Some origin) = if is_set (field_there raws origin) then Some origin else None

-- The first field about the capability in the entry at a place and all that it uses, in their order; None if there is
-- no such field or it cancels.
pub record IsOriginAt (raws : List RawEntry) (root cap : ℕ) (origin : Option Origin) : Type 0 where
  pub places : List ℕ
  pub whole : IsWhole raws root places
  pub first : origin ≡ giving raws (first_of (origin_in raws cap) places)

-- the origin in the first entry with a name
pub record IsOrigin (raws : List RawEntry) (name : List ℕ) (cap : ℕ) (origin : Option Origin) : Type 0 where
  pub root : ℕ
  pub found : place_named raws name ≡ Some root
  pub there : IsOriginAt raws root cap origin

-- the field at the origin sets the capability to this value; there is an origin exactly if there is a value
abbrev pub Gives : List RawEntry → ℕ → Option Origin → Option Value → Type 0
Gives raws cap origin value = option_map (field_there raws) origin ≡ option_map (λ given. Some (Set cap given)) value

-- the origin gives the value that the entry has
abbrev pub GivesValueAt : List RawEntry → ℕ → ℕ → Option Origin → Type 0
GivesValueAt raws root cap origin = (entry : Content) → IsResolvedAt raws root entry
    → Gives raws cap origin (value_at entry cap)

abbrev pub GivesValue : List RawEntry → List ℕ → ℕ → Option Origin → Type 0
GivesValue raws name cap origin = (entry : Content) → IsResolved raws name entry
    → Gives raws cap origin (value_at entry cap)
