-- The least set of charsets that has the given ones and that none of the given strings leads out of.
use Rattle.std.specs.Prelude.{ℕ, ◌+◌, ◌*◌, ◌≡◌, Bool, true, false, List, [], ◌∷◌, not, Option, Some, None}
use Rattle.std.specs.Prelude.{slice_index_or, sum_by}
use Rattle.vt_term.specs.Screen.{Charset}
use Rattle.vt_effects.specs.declared.effects.Sets.{Sets}
use Rattle.vt_effects.specs.declared.effects.Switch.TheVariants as switches
use Rattle.vt_effects.specs.Effect.{designated}
use Rattle.ti_conforms.specs.Charsets.{IsAmong, can_have}
use Rattle.ti_conforms.specs.declared.reach.Reach.{Reach}
use Rattle.ti_conforms.specs.declared.closures.Charsets.{Charsets}

-- The least set that has each `IsFirst` charset, and all charsets to which a member `Leads`.
pub data Settled (IsFirst : Charset → Type 0) (Leads : Charset → Charset → Type 0) : Charset → Type 0 where
  First : (c : Charset) → IsFirst c → Settled IsFirst Leads c
  After : (c d : Charset) → Settled IsFirst Leads c → Leads c d → Settled IsFirst Leads d

-- one of these changes leads from `c` to `d`
pub record SomeLeads (changes : List Sets) (c d : Charset) : Type 0 where
  pub change : Sets
  pub among : IsAmong changes change
  pub leads : d ≡ designated change c

abbrev pub bit : Bool → ℕ
bit true = 1
bit false = 0

abbrev pub charset_number : Charset → ℕ
charset_number c = bit c.g0_graphic + 2 * bit c.g1_graphic + 4 * bit c.shifted_out

-- whether the charset is in the set
abbrev pub has : Charsets → Charset → Bool
has s c = slice_index_or s.members (charset_number c) false

-- how many charsets aren't in the set
abbrev pub absent : Charsets → ℕ
absent s = sum_by (λ b. bit (not b)) s.members

-- a string that changes no charset
abbrev pub kept : Sets
kept = record { g0_graphic = switches.Kept; g1_graphic = switches.Kept; shifted_out = switches.Kept }

abbrev pub or_kept : Option Sets → Sets
or_kept None = kept
or_kept (Some sets) = sets

-- the charset after several strings
abbrev pub designated_all : List Sets → Charset → Charset
designated_all [] c = c
designated_all (change ∷ changes) c = designated_all changes (designated change c)

-- these strings leave `d` of a charset that a terminal can have
pub record Leaves (r : Reach) (changes : List Sets) (d : Charset) : Type 0 where
  pub before : Charset
  pub there : can_have r before ≡ true
  pub leads : d ≡ designated_all changes before

-- one of the changes leads from a member of the set to `d`
pub record LeadsOut (s : Charsets) (changes : List Sets) (d : Charset) : Type 0 where
  pub before : Charset
  pub there : has s before ≡ true
  pub leads : SomeLeads changes before d

-- no change leads from this charset out of the set
abbrev pub StaysFrom : Charsets → List Sets → Charset → Type 0
StaysFrom s changes c = (d : Charset) → SomeLeads changes c d → has s d ≡ true
