-- Which code of a parameter string is at fault.
use Rattle.std.specs.Prelude.{◌≡◌, ℕ, Bool, List, Ok, Err}
use Rattle.ti_parm.specs.Meaning.{ReadsUnset, State, meaning}
use Rattle.ti_parm.specs.Value.{Value, zeros}
use Rattle.ti_blames.specs.Prefixes.{closed_front}
use Rattle.ti_blames.specs.Stretches.{IsWithin}
use Rattle.ti_blames.specs.declared.faulty_codes.CodeFault.{CodeFault}
use Rattle.ti_blames.specs.declared.faulty_codes.CodeFault.TheVariants.{Parm, StaticRead}
use Rattle.ti_blames.specs.declared.stretches.Stretch.{Stretch}

-- a string, with all static variables 0, has this fault
abbrev pub HasFault : CodeFault → List ℕ → List Value → Type 0
HasFault (Parm fault) string given = meaning string given zeros ≡ Err fault
HasFault StaticRead string given = (end : State) × (meaning string given zeros ≡ Ok end) × ReadsUnset end

-- with this code the string has its fault: its front up to the code's end has it
pub record IsFaulty (fault : CodeFault) (string : List ℕ) (given : List Value) (code : Stretch) : Type 0 where
  pub nest : List Bool
  pub has : HasFault fault (closed_front string code.to nest) given
  pub within : IsWithin string code
