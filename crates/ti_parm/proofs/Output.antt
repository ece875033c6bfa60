-- The output before a code is kept, and doesn't influence the code.
use Rattle.std.proofs.Common.{◌≡◌, Bool, true, false, cond, ℤ, ℕ, ◌≤◌, List, [], ◌∷◌, ◌++◌, Result, Ok, Err, length, take, refl, ap, ◌∙◌, sym, append_assoc, append-nil, arith, length-take}
use Rattle.std.proofs.lemmas.List.{take-append-le}
use Rattle.ti_parm.specs.declared.code.Action.{Action}
use Rattle.ti_parm.specs.declared.code.Action.TheVariants.{Literal, Push, Parameter, Set, Get, Operate, Change, Length, Increment, Character, Show}
use Rattle.ti_parm.specs.declared.fault.ParmFault.{ParmFault}
use Rattle.ti_parm.specs.Formats.{shown}
use Rattle.ti_parm.specs.Fault.{◌>>=◌}
use Rattle.ti_parm.specs.Syntax.{Act, Conditional, Done, Else, ElseIf, Next, Nothing, Otherwise, Part, Parts}
use Rattle.ti_parm.specs.Operators.{binary, is_true, pop_number, text_length, unary}
use Rattle.ti_parm.specs.declared.code.Variable.{Variable}
use Rattle.ti_parm.specs.declared.code.Variable.TheVariants.{Dynamic, Static}
use Rattle.ti_parm.specs.Meaning.{State, act, after, character, choose, run, run_otherwise, run_part, set}
use Rattle.ti_parm.specs.Value.{Value, Values}

abbrev pub all_after : List ℕ → Result State ParmFault → Result State ParmFault
all_after before (Ok s) = Ok (after before s)
all_after before (Err e) = Err e

increment-after : (before : List ℕ) (s : State) (f g : Result Value ParmFault) (h : Value → Value → List Value) → (f >>= λ a. g >>= λ b. Ok (record (after before s) { params = h a b })) ≡ all_after before (f >>= λ a. g >>= λ b. Ok (record s { params = h a b }))
increment-after before s (Ok a) (Ok b) h = refl
increment-after before s (Ok a) (Err e) h = refl
increment-after before s (Err e) g h = refl

on_stack-after : (before : List ℕ) (s : State) (r : Result Values ParmFault) → (r >>= λ stack. Ok (record (after before s) { stack = stack })) ≡ all_after before (r >>= λ stack. Ok (record s { stack = stack }))
on_stack-after before s (Ok stack) = refl
on_stack-after before s (Err e) = refl

writing-after : (before : List ℕ) (s : State) (r : Result (List ℕ × Values) ParmFault) → (r >>= λ x. Ok (record (after before s) { stack = x.1; output = before ++ s.output ++ x.0 })) ≡ all_after before (r >>= λ x. Ok (record s { stack = x.1; output = s.output ++ x.0 }))
writing-after before s (Ok x) = ap (λ o. Ok (record s { stack = x.1; output = o })) (append_assoc before s.output x.0)
writing-after before s (Err e) = refl

set-after : (before : List ℕ) (variable : Variable) (s : State) (r : Result (ℤ × Values) ParmFault) → (r >>= λ x. Ok (set variable x.0 (record (after before s) { stack = x.1 }))) ≡ all_after before (r >>= λ x. Ok (set variable x.0 (record s { stack = x.1 })))
set-after before (Dynamic index) s (Ok x) = refl
set-after before (Static index) s (Ok x) = refl
set-after before variable s (Err e) = refl

pub act-after : (action : Action) (before : List ℕ) (s : State) → act action (after before s) ≡ all_after before (act action s)
unfolding act
act-after (Push n) before s = refl
act-after (Literal b) before s = ap (λ o. Ok (record s { output = o })) (append_assoc before s.output (b ∷ []))
act-after (Parameter index) before s = refl
act-after (Set variable) before s = set-after before variable s (pop_number s.stack)
act-after (Get (Dynamic index)) before s = refl
act-after (Get (Static index)) before s = refl
act-after (Operate operator) before s = on_stack-after before s (binary operator s.stack)
act-after (Change turn) before s = on_stack-after before s (unary turn s.stack)
act-after Length before s = on_stack-after before s (text_length s.stack)
act-after Increment before s = increment-after before s _ _ _
act-after Character before s = writing-after before s (character s.stack)
act-after (Show format) before s = writing-after before s (shown format s.stack)

bind-after : (before : List ℕ) (r : Result State ParmFault) (f : State → Result State ParmFault) → ((s : State) → f (after before s) ≡ all_after before (f s)) → (all_after before r >>= f) ≡ all_after before (r >>= f)
bind-after before (Ok s) f same = same s
bind-after before (Err e) f same = refl

abbrev tested : State → Result (ℤ × Values) ParmFault → Result (Bool × State) ParmFault
tested s r = r >>= λ x. Ok (is_true x.0, record s { stack = x.1 })

choose-after : (before : List ℕ) (s : State) (f g : State → Result State ParmFault) → ((t : State) → f (after before t) ≡ all_after before (f t)) → ((t : State) → g (after before t) ≡ all_after before (g t)) → choose f g (after before s) ≡ all_after before (choose f g s)
choose-after before s f g p q = along (pop_number s.stack)
  where
    either : (b : Bool) (t : State) → cond b (f (after before t)) (g (after before t)) ≡ all_after before (cond b (f t) (g t))
    either true t = p t
    either false t = q t

    along : (r : Result (ℤ × Values) ParmFault) → (tested (after before s) r >>= λ x. cond x.0 (f x.1) (g x.1)) ≡ all_after before (tested s r >>= λ x. cond x.0 (f x.1) (g x.1))
    along (Ok x) = either (is_true x.0) (record s { stack = x.1 })
    along (Err e) = refl

mutual
  unfolding run

  run_part-after : (part : Part) (before : List ℕ) (s : State) → run_part part (after before s) ≡ all_after before (run_part part s)
  run_part-after (Act action) before s = act-after action before s
  run_part-after (Conditional condition chosen otherwise) before s =
      ap (λ r. r >>= choose (run chosen) (run_otherwise otherwise)) (run-after condition before s)
      ∙ bind-after before (run condition s) (choose (run chosen) (run_otherwise otherwise)) (λ t. choose-after before t (run chosen) (run_otherwise otherwise) (run-after chosen before) (run_otherwise-after otherwise before))

  pub run-after : (parts : Parts) (before : List ℕ) (s : State) → run parts (after before s) ≡ all_after before (run parts s)
  run-after Done before s = refl
  run-after (Next part parts) before s = ap (λ r. r >>= run parts) (run_part-after part before s) ∙ bind-after before (run_part part s) (run parts) (run-after parts before)

  run_otherwise-after : (otherwise : Otherwise) (before : List ℕ) (s : State) → run_otherwise otherwise (after before s) ≡ all_after before (run_otherwise otherwise s)
  run_otherwise-after Nothing before s = refl
  run_otherwise-after (Else parts) before s = run-after parts before s
  run_otherwise-after (ElseIf condition chosen otherwise) before s =
      ap (λ r. r >>= choose (run chosen) (run_otherwise otherwise)) (run-after condition before s)
      ∙ bind-after before (run condition s) (choose (run chosen) (run_otherwise otherwise)) (λ t. choose-after before t (run chosen) (run_otherwise otherwise) (run-after chosen before) (run_otherwise-after otherwise before))

-- a code only appends to the output
pub grows : (r : Result State ParmFault) (before : List ℕ) (t : State) → all_after before r ≡ Ok t → (more : List ℕ) × (t.output ≡ before ++ more)
grows (Ok s) before t e = (s.output, cc)
grows (Err x) before t e = cc

pub act-grows : (action : Action) (s t : State) → act action s ≡ Ok t → (more : List ℕ) × (t.output ≡ s.output ++ more)
act-grows action s t e =
    let unwritten : State = record s { output = [] } in
    let same : after s.output unwritten ≡ s = ap (λ o. record s { output = o }) (append-nil s.output) in
    grows (act action unwritten) s.output t (sym (act-after action s.output unwritten) ∙ ap (act action) same ∙ e)

pub take-kept : (first now more then_now : List ℕ) → take (length first) now ≡ first → then_now ≡ now ++ more → take (length first) then_now ≡ first
take-kept first now more then_now kept e =
    let within : length first ≤ length now = omega (arith, ap length kept, length-take (length first) now) in
    ap (take (length first)) e ∙ take-append-le (length first) now more within ∙ kept
