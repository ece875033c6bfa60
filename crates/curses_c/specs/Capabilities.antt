-- The value that an entry has for a capability (X/Open Curses Issue 7, tigetflag, tigetnum, tigetstr).
use Rattle.std.specs.Prelude.{ℕ, ℤ, pos, ◌≡◌, ◌⊎◌, Bool, List, [], ◌∷◌, Option, Some, None, Ok, Err, if◌then◌else◌}
use Rattle.std.specs.Option.{option_and_then}
use Rattle.ti_caps.specs.Entry.{Content, flag_at, string_at}
use Rattle.ti_caps.specs.Table.{is_kind, kind_of, place_in}
use Rattle.ti_caps.specs.declared.types.Kind.{Kind}
use Rattle.ti_compiled.specs.Contents.{read_of}
use Rattle.ti_compiled.specs.declared.types.PackFault.{PackFault}
use Rattle.curses_c.specs.Codes.{failure_code}
use Rattle.curses_c.specs.Entries.{GivesNamed, LacksNamed}
use Rattle.curses_c.specs.declared.capabilities.Asked.{Asked}
use Rattle.curses_c.specs.declared.capabilities.Asked.TheVariants.{File, Text}
use Rattle.curses_c.specs.declared.codes.Failure.{Failure}
use Rattle.curses_c.specs.declared.codes.Failure.TheVariants.{BadName, BadEntry, NoCap}

-- the capability of this kind that a text names
abbrev pub named : Kind → List ℕ → Option ℕ
named kind text = option_and_then (λ place. if is_kind (kind_of place) kind then Some place else None) (place_in text)

-- the asked entry
abbrev pub content : Asked → Content
content (File packed) = packed
content (Text entry) = entry

-- the entry of the bytes: a compiled file as it is, or the one of a name in a source text
abbrev pub Holds : List ℕ → List ℕ → Content → Type 0
Holds bytes [] entry = read_of bytes ≡ Ok entry
Holds bytes (b ∷ name) entry = GivesNamed bytes (b ∷ name) entry

abbrev pub HoldsNone : List ℕ → List ℕ → Failure → Type 0
HoldsNone bytes [] e = (fault : PackFault) × (read_of bytes ≡ Err fault) × (e ≡ BadEntry)
HoldsNone bytes (b ∷ name) e = LacksNamed bytes (b ∷ name) e

-- a flag that an entry doesn't have is off
abbrev pub flag_of : Content → ℕ → Option Bool
flag_of entry place = Some (flag_at entry place)

-- (Serves the code alone.) the entry has this string, or lacks it
abbrev pub IsString : Content → ℕ → List ℕ → Type 0
IsString entry place text = string_at entry place ≡ Some text

abbrev pub LacksString : Content → ℕ → Failure → Type 0
LacksString entry place e = (string_at entry place ≡ None) × (e ≡ NoCap)

-- the entry has this value of the capability
pub record Tells {A : Type 0} (value_of : Content → ℕ → Option A) (kind : Kind) (bytes name cap : List ℕ) (x : A)
    : Type 0 where
  pub place : ℕ
  pub is_named : named kind cap ≡ Some place
  pub entry : Content
  pub holds : Holds bytes name entry
  pub value : value_of entry place ≡ Some x

-- there is no entry, or it doesn't have the capability
abbrev pub LacksPlace : {A : Type 0} → (Content → ℕ → Option A) → ℕ → List ℕ → List ℕ → Failure → Type 0
LacksPlace value_of place bytes name e =
    HoldsNone bytes name e ⊎ ((entry : Content) × Holds bytes name entry × (value_of entry place ≡ None) × (e ≡ NoCap))

-- the text names no capability of the kind, which is reported first
abbrev pub TellsNone : {A : Type 0} → (Content → ℕ → Option A) → Kind → List ℕ → List ℕ → List ℕ → Failure → Type 0
TellsNone value_of kind bytes name cap e =
    ((named kind cap ≡ None) × (e ≡ BadName))
    ⊎ ((place : ℕ) × (named kind cap ≡ Some place) × LacksPlace value_of place bytes name e)

-- a value that satisfies the first relation is written, or there is a failure that satisfies the second
abbrev pub Answers : {A : Type 0} → (A → Type 0) → (Failure → Type 0) → A → A → ℤ → Type 0
Answers Told Fails old new code =
    (Told new × (code ≡ pos 0)) ⊎ ((e : Failure) × Fails e × (new ≡ old) × (code ≡ failure_code e))
