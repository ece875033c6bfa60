-- The meaning of a parameter string (terminfo(5), "Parameterized Strings").
use Rattle.std.specs.Prelude.{◌≡◌, ℕ, ℤ, pos, ◌+ℤ◌, Bool, cond, List, [], ◌∷◌, ◌++◌, Result, Ok, Err, replicate}
use Rattle.std.specs.Prelude.{Contains, slice_index_or, slice_set}
use Rattle.ti_parm.specs.declared.uses.FirstUse.{FirstUse}
use Rattle.ti_parm.specs.declared.uses.FirstUse.TheVariants.{Unused, ReadFirst, SetFirst}
use Rattle.ti_parm.specs.Uses.{noted}
use Rattle.ti_parm.specs.Delays.{strip}
use Rattle.ti_parm.specs.Formats.{shown}
use Rattle.ti_parm.specs.Fault.{◌>>=◌}
use Rattle.ti_parm.specs.Operators.{binary, byte_of, fitting, is_true, pop_number, text_length, unary}
use Rattle.ti_parm.specs.Value.{Value, Values, Number, Text, nine, zeros}
use Rattle.ti_parm.specs.Syntax.{Part, Act, Conditional, Parts, Done, Next, Otherwise, Nothing, Else, ElseIf, syntax}
use Rattle.ti_parm.specs.declared.code.Action.{Action}
use Rattle.ti_parm.specs.declared.code.Action.TheVariants.{Literal, Push, Parameter, Set, Get, Operate, Change, Length}
use Rattle.ti_parm.specs.declared.code.Action.TheVariants.{Increment, Character, Show}
use Rattle.ti_parm.specs.declared.code.Variable.{Variable}
use Rattle.ti_parm.specs.declared.code.Variable.TheVariants.{Dynamic, Static}
use Rattle.ti_parm.specs.declared.fault.ParmFault.{ParmFault}
use Rattle.ti_parm.specs.declared.fault.ParmFault.TheVariants.{WrongKind}

-- the state of a run: its nine parameters, the variables `a` to `z` and `A` to `Z`, the first use of each of the
-- latter, the stack with its top first, and the bytes written so far
pub record State : Type 0 where
  pub params : List Value
  pub dynamics : List ℤ
  pub statics : List ℤ
  pub first_uses : List FirstUse
  pub stack : List Value
  pub output : List ℕ

abbrev pub one_more : Value → Result Value ParmFault
one_more (Number n) = fitting (n +ℤ pos 1) >>= λ m. Ok (Number m)
one_more (Text bytes) = Err WrongKind

-- the parameter at an index from 0 on
abbrev pub parameter : State → ℕ → Value
parameter s index = slice_index_or s.params index (Number (pos 0))

-- a code that changes the stack only
abbrev pub on_stack : (Values → Result Values ParmFault) → State → Result State ParmFault
on_stack f s = f s.stack >>= λ stack. Ok (record s { stack = stack })

-- a code that takes values off the stack and writes bytes
abbrev pub writing : (Values → Result (List ℕ × Values) ParmFault) → State → Result State ParmFault
writing f s = f s.stack >>= λ x. Ok (record s { stack = x.1; output = s.output ++ x.0 })

-- writes a number as one byte
abbrev pub character : Values → Result (List ℕ × Values) ParmFault
character stack = pop_number stack >>= λ x. byte_of x.0 >>= λ b. Ok (b ∷ [], x.1)

-- the value of a variable
abbrev pub get : Variable → State → ℤ
get (Dynamic index) s = slice_index_or s.dynamics index (pos 0)
get (Static index) s = slice_index_or s.statics index (pos 0)

abbrev pub set : Variable → ℤ → State → State
set (Dynamic index) n s = record s { dynamics = slice_set s.dynamics index n }
set (Static index) n s =
    record s { statics = slice_set s.statics index n; first_uses = noted SetFirst index s.first_uses }

-- the variable counts as read
abbrev pub having_read : Variable → State → State
having_read (Dynamic index) s = s
having_read (Static index) s = record s { first_uses = noted ReadFirst index s.first_uses }

-- the state after a code
unfoldable pub act : Action → State → Result State ParmFault
act (Literal b) s = Ok (record s { output = s.output ++ b ∷ [] })
act (Push n) s = Ok (record s { stack = Number n ∷ s.stack })
act (Parameter index) s = Ok (record s { stack = parameter s index ∷ s.stack })
act (Set variable) s = pop_number s.stack >>= λ x. Ok (set variable x.0 (record s { stack = x.1 }))
act (Get variable) s = Ok (having_read variable (record s { stack = Number (get variable s) ∷ s.stack }))
act (Operate operator) s = on_stack (binary operator) s
act (Change turn) s = on_stack (unary turn) s
act Length s = on_stack text_length s
act Increment s = do
  first ← one_more (parameter s 0)
  second ← one_more (parameter s 1)
  Ok (record s { params = slice_set (slice_set s.params 0 first) 1 second })
act Character s = writing character s
act (Show format) s = writing (shown format) s

-- pops a number, and tells whether it is other than 0
abbrev pub pop_test : Values → State → Result (Bool × State) ParmFault
pop_test stack s = pop_number stack >>= λ x. Ok (is_true x.0, record s { stack = x.1 })

-- goes on in one of two ways, depending on the top of the stack
abbrev pub choose : (State → Result State ParmFault) → (State → Result State ParmFault) → State → Result State ParmFault
choose chosen otherwise s = pop_test s.stack s >>= λ x. cond x.0 (chosen x.1) (otherwise x.1)

-- the state with bytes written before its own
abbrev pub after : List ℕ → State → State
after before s = record s { output = before ++ s.output }

unfoldable mutual
  pub run_part : Part → State → Result State ParmFault
  run_part (Act action) s = act action s
  run_part (Conditional condition chosen otherwise) s =
      run condition s >>= choose (run chosen) (run_otherwise otherwise)

  -- runs the parts one after the other, up to the first fault
  pub run : Parts → State → Result State ParmFault
  run Done s = Ok s
  run (Next part parts) s = run_part part s >>= run parts

  pub run_otherwise : Otherwise → State → Result State ParmFault
  run_otherwise Nothing s = Ok s
  run_otherwise (Else parts) s = run parts s
  run_otherwise (ElseIf condition chosen otherwise) s =
      run condition s >>= choose (run chosen) (run_otherwise otherwise)

-- at the start the stack and the output are empty, the dynamic variables are 0, and no static variable was used
abbrev pub start_of : List Value → List ℤ → State
start_of given statics =
    record {
      params = nine given;
      dynamics = zeros;
      statics = statics;
      first_uses = replicate 26 Unused;
      stack = [];
      output = [];
    }

-- the state in which a string leaves these parameters and static variables, or its first fault; faults of the syntax
-- come first
unfoldable pub meaning : List ℕ → List Value → List ℤ → Result State ParmFault
meaning string given statics = do
  parts ← syntax string
  run parts (start_of given statics)

-- the bytes that a string sends with these static variables, without delays, or its fault
abbrev pub sent_with : List ℕ → List Value → List ℤ → Result (List ℕ) ParmFault
sent_with string given statics = meaning string given statics >>= λ end. Ok (strip end.output)

-- the bytes that a string sends with all static variables 0
abbrev pub sent : List ℕ → List Value → Result (List ℕ) ParmFault
sent string given = sent_with string given zeros

-- two lists of static variables agree on those that a run with this final state read before it set them
abbrev pub Agree : State → List ℤ → List ℤ → Type 0
Agree end a b =
    (index : ℕ) → slice_index_or end.first_uses index Unused ≡ ReadFirst
    → slice_index_or a index (pos 0) ≡ slice_index_or b index (pos 0)

-- a run with this final state read a static variable that it had not set before
abbrev pub ReadsUnset : State → Type 0
ReadsUnset end = Contains end.first_uses ReadFirst
