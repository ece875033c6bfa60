-- A whole expansion, appended to the output so far.
use Rattle.std.proofs.Common.{◌≡◌, ◌⊎◌, ℕ, ℤ, List, [], ◌∷◌, ◌++◌, Result, Ok, Err, refl, ap, ◌∙◌, sym, inl, inr, append-nil, append_assoc}
use Rattle.ti_parm.specs.declared.fault.ParmFault.{ParmFault}
use Rattle.ti_parm.specs.declared.fault.ParmFault.TheVariants.{Underflow, BadNest, BadCode, Overflow, BadChar, WrongKind, NoMemory}
use Rattle.ti_parm.specs.Delays.{HasNoOpening, strip}
use Rattle.ti_parm.specs.Fault.{◌>>=◌, FailsBy}
use Rattle.ti_parm.specs.Runs.{follow, judged_run, run_ahead, run_from}
use Rattle.ti_parm.specs.Syntax.{Behind, Ends, HasEnd, IsPlain, Parts, ahead, syntax, verdict, whole, without_tree}
use Rattle.ti_parm.specs.Meaning.{State, act, after, meaning, run, sent_with, start_of}
use Rattle.ti_parm.specs.Value.{Value}
use Rattle.ti_parm.specs.Machine.{state_of}
use Rattle.ti_parm.specs.declared.machine.Machine.{Machine}
use Rattle.ti_parm.proofs.Bindings.{bind-Ok}
use Rattle.ti_parm.proofs.Judgements.{verdict-ended}
use Rattle.ti_parm.proofs.Trees.{ahead-plain, literals}
use Rattle.ti_parm.proofs.Strips.{strip-undelayed}
use Rattle.ti_parm.proofs.Output.{all_after, run-after}

fault-or_memory : {S : Type 0} (e : ParmFault) (meant : Result S ParmFault) → FailsBy e meant → (e ≡ NoMemory) ⊎ (meant ≡ Err e)
fault-or_memory Underflow meant h = inr h
fault-or_memory BadNest meant h = inr h
fault-or_memory BadCode meant h = inr h
fault-or_memory Overflow meant h = inr h
fault-or_memory BadChar meant h = inr h
fault-or_memory WrongKind meant h = inr h
fault-or_memory NoMemory meant h = inl refl

-- a string that ends its conditionals, run from its start on
whole-run : (string : List ℕ) (s : State) → verdict string ≡ Ok tt → run_from string s ≡ run (ahead string).parts s
unfolding run_from run_ahead follow
whole-run string s e = ap (λ b. run (ahead string).parts s >>= follow b) (verdict-ended string e) ∙ bind-Ok (run (ahead string).parts s)

whole-meaning : (string : List ℕ) (given : List Value) (statics : List ℤ) → verdict string ≡ Ok tt → meaning string given statics ≡ run (ahead string).parts (start_of given statics)
unfolding meaning syntax
whole-meaning string given statics e = ap (λ b. whole (ahead string).parts b >>= λ parts. run parts (start_of given statics)) (verdict-ended string e)

-- the run of a string after earlier output is its meaning
run_from-meaning : (string before : List ℕ) (given : List Value) (statics : List ℤ) (s : State) → verdict string ≡ Ok tt → s ≡ after before (start_of given statics) → run_from string s ≡ all_after before (meaning string given statics)
run_from-meaning string before given statics s fine e =
    whole-run string s fine
    ∙ ap (run (ahead string).parts) e
    ∙ run-after (ahead string).parts before (start_of given statics)
    ∙ sym (ap (all_after before) (whole-meaning string given statics fine))

-- checking and running a string after earlier output is its meaning
judged_run-meaning : (string before : List ℕ) (given : List Value) (statics : List ℤ) (s : State) → s ≡ after before (start_of given statics) → judged_run string s ≡ all_after before (meaning string given statics)
unfolding meaning
judged_run-meaning string before given statics s e = along (syntax string) refl
  where
    along : (r : Result Parts ParmFault) → syntax string ≡ r → judged_run string s ≡ all_after before (syntax string >>= λ parts. run parts (start_of given statics))
    along (Ok parts) p = ap (λ r. without_tree r >>= λ _. run_from string s) p ∙ run_from-meaning string before given statics s (ap without_tree p) e
    along (Err x) p = ap (λ r. without_tree r >>= λ _. run_from string s) p ∙ sym (ap (λ r. all_after before (r >>= λ parts. run parts (start_of given statics))) p)

ends : (r : Result State ParmFault) (before : List ℕ) (t : State) → all_after before r ≡ Ok t → (end : State) × (r ≡ Ok end) × (t ≡ after before end)
ends (Ok s) before t e = (s, refl, cc)
ends (Err x) before t e = cc

pub meaning-ends : (string before : List ℕ) (given : List Value) (statics : List ℤ) (s t : State) → s ≡ after before (start_of given statics) → judged_run string s ≡ Ok t → (end : State) × (meaning string given statics ≡ Ok end) × (t ≡ after before end)
meaning-ends string before given statics s t e runs = ends (meaning string given statics) before t (sym (judged_run-meaning string before given statics s e) ∙ runs)

fails-after : (r : Result State ParmFault) (before : List ℕ) (x : ParmFault) → all_after before r ≡ Err x → r ≡ Err x
fails-after (Ok s) before x e = cc
fails-after (Err y) before x e = e

pub meaning-fails : (string before : List ℕ) (given : List Value) (statics : List ℤ) (s : State) (x : ParmFault) → s ≡ after before (start_of given statics) → FailsBy x (judged_run string s) → (x ≡ NoMemory) ⊎ (meaning string given statics ≡ Err x)
meaning-fails string before given statics s x e fails = elim (fault-or_memory x (judged_run string s) fails) [
  | inl p ↦ inl p
  | inr p ↦ inr (fails-after (meaning string given statics) before x (sym (judged_run-meaning string before given statics s e) ∙ p))
]

pub begin : (m : Machine) (before : List ℕ) (given : List Value) (statics : List ℤ) → state_of m [] ≡ start_of given statics → state_of m before ≡ after before (start_of given statics)
begin m before given statics e = ap (λ o. state_of m o) (sym (append-nil before)) ∙ ap (after before) e

has_end : {b : Behind} → b ≡ Ends → HasEnd b
has_end e = rw e tt

pub verdict-HasEnd : (string : List ℕ) → verdict string ≡ Ok tt → HasEnd (ahead string).behind
verdict-HasEnd string e = has_end (verdict-ended string e)

run-literals : (text : List ℕ) (s : State) → run (literals text) s ≡ Ok (record s { output = s.output ++ text })
unfolding literals run act
run-literals [] s = ap (λ o. Ok (record s { output = o })) (sym (append-nil s.output))
run-literals (b ∷ text) s = run-literals text (record s { output = s.output ++ b ∷ [] }) ∙ ap (λ o. Ok (record s { output = o })) (append_assoc s.output (b ∷ []) text)

pub meaning-plain : (string : List ℕ) (given : List Value) (statics : List ℤ) → IsPlain string → meaning string given statics ≡ Ok (record (start_of given statics) { output = string })
unfolding meaning syntax
meaning-plain string given statics plain =
    ap (λ a. whole a.parts a.behind >>= λ parts. run parts (start_of given statics)) (ahead-plain string plain)
    ∙ run-literals string (start_of given statics)

pub sent-plain : (string : List ℕ) (given : List Value) (statics : List ℤ) → IsPlain string → HasNoOpening string → sent_with string given statics ≡ Ok string
sent-plain string given statics plain none = ap (λ r. r >>= λ end. Ok (strip end.output)) (meaning-plain string given statics plain) ∙ ap Ok (strip-undelayed string none)
