-- The syntax tree of a parameter string (terminfo(5), "Parameterized Strings").
use Rattle.std.specs.Prelude.{◌≡◌, ◌≢◌, ℕ, zero, suc, List, [], ◌∷◌, length, Result, Ok, Err}
use Rattle.ti_parm.specs.Fault.{◌>>=◌}
use Rattle.ti_parm.specs.Codes.{code_at}
use Rattle.ti_parm.specs.declared.code.Action.{Action}
use Rattle.ti_parm.specs.declared.code.Code.{Code}
use Rattle.ti_parm.specs.declared.code.Code.TheVariants.{Act as ActCode, If as IfCode, Of as MarkCode}
use Rattle.ti_parm.specs.declared.code.Mark.{Mark}
use Rattle.ti_parm.specs.declared.code.Mark.TheVariants.{Then as ThenMark, Else as ElseMark, End as EndMark}
use Rattle.ti_parm.specs.declared.fault.ParmFault.{ParmFault}
use Rattle.ti_parm.specs.declared.fault.ParmFault.TheVariants.{BadNest, BadCode}

mutual
  -- a code that acts by itself, or `%? condition %t chosen` and the rest of the conditional
  pub data Part : Type 0 where
    Act : Action → Part
    Conditional : Parts → Parts → Otherwise → Part

  -- parts, one after the other
  pub data Parts : Type 0 where
    Done : Parts
    Next : Part → Parts → Parts

  -- `%;`, or `%e parts %;`, or `%e condition %t chosen` and the rest of the conditional
  pub data Otherwise : Type 0 where
    Nothing : Otherwise
    Else : Parts → Otherwise
    ElseIf : Parts → Parts → Otherwise → Otherwise

-- the continuation after the parts that begin at a place: the string's end, or a fault, or a mark of a conditional
-- that began before the place, the parts after the mark, and their continuation
pub data Behind : Type 0 where
  Ends : Behind
  Breaks : ParmFault → Behind
  Closes : Mark → Parts → Behind → Behind

-- the string from a place on: the parts that begin there, and their continuation
pub record Ahead : Type 0 where
  pub parts : Parts
  pub behind : Behind

abbrev pub broken : ParmFault → Ahead
broken fault = record { parts = Done; behind = Breaks fault }

-- the codes between a conditional's chosen parts and its end, and those after the end
pub record Rest : Type 0 where
  pub otherwise : Otherwise
  pub parts : Parts
  pub behind : Behind

abbrev pub else_if : Parts → Parts → Rest → Rest
else_if condition chosen r = record r { otherwise = ElseIf condition chosen r.otherwise }

-- the rest of a conditional from the mark after its chosen parts on, or the first fault
abbrev pub rest_of : Behind → Result Rest ParmFault
rest_of Ends = Err BadNest
rest_of (Breaks fault) = Err fault
rest_of (Closes EndMark parts behind) = Ok (record { otherwise = Nothing; parts = parts; behind = behind })
rest_of (Closes ThenMark parts behind) = Err BadNest
rest_of (Closes ElseMark first Ends) = Err BadNest
rest_of (Closes ElseMark first (Breaks fault)) = Err fault
rest_of (Closes ElseMark first (Closes EndMark parts behind)) =
    Ok (record { otherwise = Else first; parts = parts; behind = behind })
rest_of (Closes ElseMark first (Closes ThenMark chosen behind)) = rest_of behind >>= λ r. Ok (else_if first chosen r)
rest_of (Closes ElseMark first (Closes ElseMark parts behind)) = Err BadNest

abbrev pub closed : Parts → Parts → Result Rest ParmFault → Ahead
closed condition chosen (Ok r) =
    record { parts = Next (Conditional condition chosen r.otherwise) r.parts; behind = r.behind }
closed condition chosen (Err fault) = broken fault

-- the string from a `%?` on, given the string after it
abbrev pub conditional : Parts → Behind → Ahead
conditional condition Ends = broken BadNest
conditional condition (Breaks fault) = broken fault
conditional condition (Closes ThenMark chosen behind) = closed condition chosen (rest_of behind)
conditional condition (Closes ElseMark parts behind) = broken BadNest
conditional condition (Closes EndMark parts behind) = broken BadNest

-- the string from a code on, given the string after it
abbrev pub before : Code → Ahead → Ahead
before (ActCode action) a = record { parts = Next (Act action) a.parts; behind = a.behind }
before IfCode a = conditional a.parts a.behind
before (MarkCode mark) a = record { parts = Done; behind = Closes mark a.parts a.behind }

abbrev pub read_before : (List ℕ → Ahead) → Result (Code × List ℕ) ParmFault → Ahead
read_before further (Ok x) = before x.0 (further x.1)
read_before further (Err fault) = broken fault

-- the tree of a text of at most n bytes, from its start on
unfoldable pub ahead_in : ℕ → List ℕ → Ahead
ahead_in n [] = record { parts = Done; behind = Ends }
ahead_in zero (b ∷ text) = broken BadCode
ahead_in (suc n) (b ∷ text) = read_before (ahead_in n) (code_at (b ∷ text))

abbrev pub ahead : List ℕ → Ahead
ahead text = ahead_in (length text) text

-- no conditional is open at the string's start
abbrev pub whole : Parts → Behind → Result Parts ParmFault
whole parts Ends = Ok parts
whole parts (Breaks fault) = Err fault
whole parts (Closes mark more behind) = Err BadNest

-- the syntax tree of a string, or the first fault of its syntax
unfoldable pub syntax : List ℕ → Result Parts ParmFault
syntax string = whole (ahead string).parts (ahead string).behind

abbrev pub without_tree : Result Parts ParmFault → Result (Unit {0}) ParmFault
without_tree (Ok parts) = Ok tt
without_tree (Err e) = Err e

-- whether the syntax of the string has a fault, and the first one
abbrev pub verdict : List ℕ → Result (Unit {0}) ParmFault
verdict string = without_tree (syntax string)

-- the syntax of the string has no fault
abbrev pub HasSyntax : List ℕ → Type 0
HasSyntax string = (parts : Parts) × (syntax string ≡ Ok parts)

-- the text has no `%`
abbrev pub IsPlain : List ℕ → Type 0
IsPlain [] = Unit {0}
IsPlain (b ∷ rest) = (b ≢ 37) × IsPlain rest

-- the continuation reaches the string's end without a fault
abbrev pub HasEnd : Behind → Type 0
HasEnd Ends = Unit {0}
HasEnd (Breaks fault) = ⊥
HasEnd (Closes mark parts behind) = HasEnd behind
