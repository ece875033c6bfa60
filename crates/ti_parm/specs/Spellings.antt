-- The spelling of codes and trees (terminfo(5), "Parameterized Strings").
use Rattle.std.specs.Prelude.{◌≡◌, ◌≢◌, ◌≤◌, ◌-◌, ℕ, pos, ℤ, true, List, [], ◌∷◌, ◌++◌, Result, Err, Option, Some, None}
use Rattle.ti_parm.specs.declared.code.Action.{Action}
use Rattle.ti_parm.specs.declared.code.Action.TheVariants.{Literal, Push, Parameter, Set, Get, Show}
use Rattle.ti_parm.specs.declared.code.Code.{Code}
use Rattle.ti_parm.specs.declared.code.Code.TheVariants.{Act as ActCode}
use Rattle.ti_parm.specs.declared.code.Variable.{Variable}
use Rattle.ti_parm.specs.declared.fault.ParmFault.{ParmFault}
use Rattle.ti_parm.specs.declared.formats.Conversion.{Conversion}
use Rattle.ti_parm.specs.declared.formats.Format.{Format}
use Rattle.ti_parm.specs.Codes.{conversion, finished, flags_on, is_digit, is_flag, no_flags, number_on, short_code}
use Rattle.ti_parm.specs.Codes.{variable}
use Rattle.ti_parm.specs.Meaning.{State, run, start_of}
use Rattle.ti_parm.specs.Syntax.{Part, Act, Conditional, Parts, Done, Next, Otherwise, Nothing, Else, ElseIf, syntax}
use Rattle.ti_parm.specs.Value.{Value}

abbrev pub AreDigits : List ℕ → Type 0
AreDigits [] = Unit {0}
AreDigits (b ∷ rest) = (is_digit b ≡ true) × AreDigits rest

abbrev pub AreFlags : List ℕ → Type 0
AreFlags [] = Unit {0}
AreFlags (b ∷ rest) = (is_flag b ≡ true) × AreFlags rest

-- a width: no digits, or digits that don't begin with `0`, since that is a flag
abbrev pub IsWidth : List ℕ → Type 0
IsWidth [] = Unit {0}
IsWidth (b ∷ rest) = (is_digit b ≡ true) × (b ≢ 48) × AreDigits rest

-- a precision: nothing, or `.` and digits
pub data IsPrecision : List ℕ → Option ℕ → Type 0 where
  without : IsPrecision [] None
  within : (digits : List ℕ) → AreDigits digits → IsPrecision (46 ∷ digits) (Some (number_on 0 digits))

-- flags, a width, a precision and one of `d o x X s`
pub data IsFormat : List ℕ → Format → Type 0 where
  made : (flags width point : List ℕ) (precision : Option ℕ) (last : ℕ) (kind : Conversion) (f : Format)
      → AreFlags flags → IsWidth width → IsPrecision point precision → conversion last ≡ Some kind
      → finished (flags_on no_flags flags) (number_on 0 width) precision kind ≡ Some f
      → IsFormat (flags ++ (width ++ (point ++ last ∷ []))) f

-- the first byte is neither `-` nor `+`
abbrev pub IsBare : List ℕ → Type 0
IsBare [] = ⊥
IsBare (b ∷ rest) = (b ≢ 45) × (b ≢ 43)

-- the bytes spell the code
pub data IsCode : List ℕ → Code → Type 0 where
  literal : (b : ℕ) → b ≢ 37 → IsCode (b ∷ []) (ActCode (Literal b))
  short : (b : ℕ) (code : Code) → short_code b ≡ Some code → IsCode (37 ∷ b ∷ []) code
  parameter : (b : ℕ) → 49 ≤ b → b ≤ 57 → IsCode (37 ∷ 112 ∷ b ∷ []) (ActCode (Parameter (b - 49)))
  set : (b : ℕ) (v : Variable) → variable b ≡ Some v → IsCode (37 ∷ 80 ∷ b ∷ []) (ActCode (Set v))
  get : (b : ℕ) (v : Variable) → variable b ≡ Some v → IsCode (37 ∷ 103 ∷ b ∷ []) (ActCode (Get v))
  character : (b : ℕ) → IsCode (37 ∷ 39 ∷ b ∷ 39 ∷ []) (ActCode (Push (pos b)))
  number : (b : ℕ) (digits : List ℕ) → AreDigits (b ∷ digits) → number_on 0 (b ∷ digits) ≤ 2147483647
      → IsCode (37 ∷ 123 ∷ b ∷ digits ++ 125 ∷ []) (ActCode (Push (pos (number_on 0 (b ∷ digits)))))
  format : (text : List ℕ) (f : Format) → IsFormat text f → IsCode (37 ∷ 58 ∷ text) (ActCode (Show f))
  bare : (text : List ℕ) (f : Format) → IsFormat text f → IsBare text → IsCode (37 ∷ text) (ActCode (Show f))

mutual
  -- the bytes spell the tree
  pub data IsPart : List ℕ → Part → Type 0 where
    act : (text : List ℕ) (action : Action) → IsCode text (ActCode action) → IsPart text (Act action)
    conditional : (c d o : List ℕ) (condition chosen : Parts) (otherwise : Otherwise) → Spells c condition
        → Spells d chosen → IsOtherwise o otherwise
        → IsPart (37 ∷ 63 ∷ c ++ (37 ∷ 116 ∷ d ++ o)) (Conditional condition chosen otherwise)

  pub data Spells : List ℕ → Parts → Type 0 where
    nothing : Spells [] Done
    next : (first rest : List ℕ) (part : Part) (parts : Parts) → IsPart first part → Spells rest parts
        → Spells (first ++ rest) (Next part parts)

  pub data IsOtherwise : List ℕ → Otherwise → Type 0 where
    end : IsOtherwise (37 ∷ 59 ∷ []) Nothing
    otherwise : (text : List ℕ) (parts : Parts) → Spells text parts
        → IsOtherwise (37 ∷ 101 ∷ text ++ 37 ∷ 59 ∷ []) (Else parts)
    else_if : (c d o : List ℕ) (condition chosen : Parts) (more : Otherwise) → Spells c condition → Spells d chosen
        → IsOtherwise o more → IsOtherwise (37 ∷ 101 ∷ c ++ (37 ∷ 116 ∷ d ++ o)) (ElseIf condition chosen more)

-- the answer of a string: that of the tree that it spells or, if it spells none, the first fault of its syntax
pub data IsAnswer (string : List ℕ) (given : List Value) (statics : List ℤ) : Result State ParmFault → Type 0 where
  runs : (parts : Parts) → Spells string parts → IsAnswer string given statics (run parts (start_of given statics))
  unread : (fault : ParmFault) → ((parts : Parts) → Spells string parts → ⊥) → syntax string ≡ Err fault
      → IsAnswer string given statics (Err fault)
