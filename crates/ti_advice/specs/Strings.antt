-- An entry's strings by name, and what they send (terminfo(5), "Parameterized Strings", "Delays and Padding").
use Rattle.std.specs.Prelude.{◌≡◌, ℕ, Bool, List, [], Option, Some, None, Ok, Err, is_some, option_and_then}
use Rattle.ti_caps.specs.Entry.{Content, string_at}
use Rattle.ti_caps.specs.Table.{place_in}
use Rattle.ti_parm.specs.Meaning.{sent}
use Rattle.ti_parm.specs.Value.{Value}
use Rattle.ti_parm.specs.declared.fault.ParmFault.{ParmFault}

-- the entry's string of this name
abbrev pub string_named : Content → List ℕ → Option (List ℕ)
string_named entry name = option_and_then (string_at entry) (place_in name)

abbrev pub has_string : Content → List ℕ → Bool
has_string entry name = is_some (string_named entry name)

-- what a string sends with these parameters, if it can be expanded
abbrev pub IsSent : List ℕ → List Value → Option (List ℕ) → Type 0
IsSent string given (Some bytes) = sent string given ≡ Ok bytes
IsSent string given None = (fault : ParmFault) × (sent string given ≡ Err fault)

-- without a string nothing is sent
abbrev pub IsSentOf : Option (List ℕ) → List Value → Option (List ℕ) → Type 0
IsSentOf None given found = found ≡ None
IsSentOf (Some string) given found = IsSent string given found

-- what the entry's string of this name sends, if there is one that can be expanded
abbrev pub IsOwn : Content → List ℕ → List Value → Option (List ℕ) → Type 0
IsOwn entry name given found = IsSentOf (string_named entry name) given found

abbrev pub or_none : Option (List ℕ) → List ℕ
or_none None = []
or_none (Some bytes) = bytes
