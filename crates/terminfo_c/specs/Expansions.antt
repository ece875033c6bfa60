-- The expansion of a string, which keeps its static variables for the next one.
use Rattle.std.specs.Prelude.{ℕ, ℤ, ◌≡◌, ◌⊎◌, List, length, Option, Some, None, Ok, Err}
use Rattle.ti_parm.specs.Meaning.{State, meaning}
use Rattle.ti_parm.specs.Value.{Value}
use Rattle.ti_parm.specs.declared.fault.ParmFault.{ParmFault}
use Rattle.ti_parm.specs.declared.fault.ParmFault.TheVariants.{NoMemory}
use Rattle.terminfo_c.specs.Answers.{Delivers, Fills}
use Rattle.terminfo_c.specs.Codes.{string_code}
use Rattle.terminfo_c.specs.declared.codes.Failure.TheVariants.{BadParam, Closed}
use Rattle.terminfo_c.specs.declared.held.Held.{Held}

-- the string's output is kept, and so are the static variables as the string leaves them
pub record IsExpanded (string : List ℕ) (given : List Value) (h k : Held) : Type 0 where
  pub end : State
  pub meant : meaning string given h.statics ≡ Ok end
  pub statics : k.statics ≡ end.statics
  pub output : k.output.items ≡ end.output
  pub entry : k.entry ≡ h.entry

-- the string's first fault for these parameters and static variables, or memory ran out
abbrev pub IsFaulty : List ℕ → List Value → Held → ParmFault → Type 0
IsFaulty string given h fault = (fault ≡ NoMemory) ⊎ (meaning string given h.statics ≡ Err fault)

-- nothing that a program can see has changed
pub record Stays (h k : Held) : Type 0 where
  pub entry : k.entry ≡ h.entry
  pub statics : k.statics ≡ h.statics
  pub output : k.output ≡ h.output

-- the string is expanded and its output delivered, or it has a fault, and nothing has changed
abbrev pub ExpandsTo : List ℕ → List Value → Held → Held → List ℕ → List ℕ → ℕ → ℤ → Type 0
ExpandsTo string given h k old new needed code =
    (IsExpanded string given h k × (needed ≡ length k.output.items) × Fills k.output.items old new code)
    ⊎ (Stays h k
    × ((fault : ParmFault) × IsFaulty string given h fault × (needed ≡ 0) × (new ≡ old) × (code ≡ string_code fault)))

-- parameters that aren't good are reported first, then a closed handle
abbrev pub Expands : List ℕ → Option (List Value) → Option Held → Option Held → List ℕ → List ℕ → ℕ → ℤ → Type 0
Expands string None h k old new needed code = (k ≡ h) × Delivers (Err BadParam) old new needed code
Expands string (Some given) None k old new needed code = (k ≡ None) × Delivers (Err Closed) old new needed code
Expands string (Some given) (Some h) None old new needed code = ⊥
Expands string (Some given) (Some h) (Some l) old new needed code = ExpandsTo string given h l old new needed code
