-- The value that an entry has for a capability (X/Open Curses Issue 7, tigetflag, tigetnum, tigetstr).
use Rattle.std.specs.Prelude.{ℕ, ◌≡◌, Bool, List, Option, Some, None, Result, Ok, Err, if◌then◌else◌}
use Rattle.std.specs.Option.{option_and_then}
use Rattle.ti_caps.specs.Entry.{Content, flag_at}
use Rattle.ti_caps.specs.Table.{is_kind, kind_of, place_in}
use Rattle.ti_caps.specs.declared.types.Kind.{Kind}
use Rattle.terminfo_c.specs.declared.codes.Failure.{Failure}
use Rattle.terminfo_c.specs.declared.codes.Failure.TheVariants.{BadName, NoCap}

-- the capability of this kind that a text names
abbrev pub named : Kind → List ℕ → Option ℕ
named kind text = option_and_then (λ place. if is_kind (kind_of place) kind then Some place else None) (place_in text)

-- an absent or cancelled value is none, and never an empty one
abbrev pub or_none : {A : Type 0} → Option A → Result A Failure
or_none (Some x) = Ok x
or_none None = Err NoCap

-- the value of a capability, if there is such a capability and the entry has it
abbrev pub value_in : {A : Type 0} → (Content → ℕ → Option A) → Option ℕ → Content → Result A Failure
value_in value_of (Some place) entry = or_none (value_of entry place)
value_in value_of None entry = Err BadName

-- a flag that an entry doesn't have is off
abbrev pub flag_of : Content → ℕ → Option Bool
flag_of entry place = Some (flag_at entry place)

-- (Serves the code alone.) a result, seen through the view, is this one
abbrev pub IsValue : {R A : Type 0} → (R → A) → Result R Failure → Result A Failure → Type 0
IsValue view (Ok x) value = value ≡ Ok (view x)
IsValue view (Err e) value = value ≡ Err e
