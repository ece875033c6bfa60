-- Running a conditional, and running from the place after its `%?`.
use Rattle.std.proofs.Common.{◌≡◌, ◌<◌, cond, length, ℕ, zero, Bool, true, false, List, [], ◌⊎◌, inl, inr, Result, Ok, Err, refl, sym, ◌∙◌, ap}
use Rattle.ti_parm.specs.declared.code.Action.{Action}
use Rattle.ti_parm.specs.declared.code.Code.TheVariants.{Act as ActCode, If, Of}
use Rattle.ti_parm.specs.declared.code.Mark.TheVariants.{Then as ThenMark, Else as ElseMark, End as EndMark}
use Rattle.ti_parm.specs.declared.fault.ParmFault.{ParmFault}
use Rattle.ti_parm.specs.Fault.{◌>>=◌, FailsBy}
use Rattle.ti_parm.specs.Meaning.{State, act, choose, pop_test, run, run_otherwise}
use Rattle.ti_parm.specs.Runs.{follow, follow_past, judged_ahead, judged_behind, judged_run, run_ahead, run_from}
use Rattle.ti_parm.specs.Skips.{past}
use Rattle.ti_parm.specs.Syntax.{Ahead, Behind, Breaks, Closes, Done, Ends, HasEnd, Parts, Rest, ahead, before}
use Rattle.ti_parm.specs.Codes.{code_at}
use Rattle.ti_parm.specs.declared.code.Code.{Code}
use Rattle.ti_parm.specs.Conditionals.{Branches, judged}
use Rattle.ti_parm.proofs.Faults.{Fails-on}
use Rattle.ti_parm.proofs.Judgements.{judged-HasEnd, judged-verdict}
use Rattle.ti_parm.proofs.Trees.{ahead-code, ahead-nothing}
use Rattle.ti_parm.proofs.Bindings.{bind-bind, bind-same, choose-bind, choose-same}
use Rattle.ti_parm.proofs.Rests.{IsConditional, IsRest, conditional-is, elses, ends, goes_on, is_conditional}

-- from the end of a conditional on
onward : Rest → State → Result State ParmFault
onward r s = run r.parts s >>= follow r.behind

left-rest : (b : Behind) (r : Rest) → IsRest b r → (s : State) → follow_past false b s ≡ onward r s
unfolding onward follow
left-rest _ _ (ends parts behind) s = refl
left-rest _ _ (elses first parts behind) s = refl
left-rest _ _ (goes_on first chosen behind r d) s = left-rest behind r d s

follow-rest : (b : Behind) (r : Rest) → IsRest b r → (s : State) → follow b s ≡ onward r s
unfolding onward follow
follow-rest _ _ (ends parts behind) s = refl
follow-rest _ _ (elses first parts behind) s = refl
follow-rest _ _ (goes_on first chosen behind r d) s = left-rest behind r d s

-- after a conditional's condition, given the run of its otherwise part
chosen-by : (chosen : Parts) (b : Behind) (r : Rest) (s : State) → ((t : State) → follow b t ≡ onward r t) → ((t : State) → follow_past true b t ≡ (run_otherwise r.otherwise t >>= onward r)) → follow (Closes ThenMark chosen b) s ≡ (choose (run chosen) (run_otherwise r.otherwise) s >>= onward r)
unfolding follow
chosen-by chosen b r s p q =
    choose-same _ _ (λ t. run chosen t >>= onward r) (λ t. run_otherwise r.otherwise t >>= onward r) s (λ t. bind-same (run chosen t) (follow b) (onward r) p) q
    ∙ sym (choose-bind (run chosen) (run_otherwise r.otherwise) (onward r) s)

past-rest : (b : Behind) (r : Rest) → IsRest b r → (s : State) → follow_past true b s ≡ (run_otherwise r.otherwise s >>= onward r)
unfolding onward follow run
past-rest _ _ (ends parts behind) s = refl
past-rest _ _ (elses first parts behind) s = refl
past-rest _ _ (goes_on first chosen behind r d) s =
    bind-same (run first s) _ _ (λ t. chosen-by chosen behind r t (follow-rest behind r d) (past-rest behind r d))
    ∙ sym (bind-bind (run first s) (choose (run chosen) (run_otherwise r.otherwise)) (onward r))

by_conditional : (condition : Parts) (b : Behind) (a : Ahead) → IsConditional condition b a → (s : State) → run_ahead a s ≡ (run condition s >>= follow b)
unfolding run_ahead onward run
by_conditional condition _ _ (is_conditional chosen behind r d) s =
    bind-bind (run condition s >>= choose (run chosen) (run_otherwise r.otherwise)) (run r.parts) (follow r.behind)
    ∙ bind-bind (run condition s) (choose (run chosen) (run_otherwise r.otherwise)) (onward r)
    ∙ sym (bind-same (run condition s) _ _ (λ t. chosen-by chosen behind r t (follow-rest behind r d) (past-rest behind r d)))

-- a `%?` does nothing
pub run-If : (a : Ahead) (s : State) → HasEnd (before If a).behind → run_ahead (before If a) s ≡ run_ahead a s
unfolding run_ahead
run-If a s h = by_conditional a.parts a.behind _ (conditional-is a.parts a.behind h) s

run-Act : (action : Action) (a : Ahead) (s : State) → run_ahead (before (ActCode action) a) s ≡ (act action s >>= run_ahead a)
unfolding run_ahead run
run-Act action a s = bind-bind (act action s) (run a.parts) (follow a.behind)

pub act-goes_on : (action : Action) (a : Ahead) (s t : State) → act action s ≡ Ok t → run_ahead (before (ActCode action) a) s ≡ run_ahead a t
act-goes_on action a s t e = run-Act action a s ∙ ap (λ m. m >>= run_ahead a) e

pub act-fails : (action : Action) (a : Ahead) (s : State) (fault : ParmFault) → act action s ≡ Err fault → run_ahead (before (ActCode action) a) s ≡ Err fault
act-fails action a s fault e = run-Act action a s ∙ ap (λ m. m >>= run_ahead a) e

-- a `%;` does nothing
pub run-End : (a : Ahead) (s : State) → run_ahead (before (Of EndMark) a) s ≡ run_ahead a s
unfolding run_ahead run follow
run-End a s = refl

-- skipping parts is going on after them
run_ahead-past : (to_else : Bool) (b : Behind) (s : State) → run_ahead (past to_else zero b) s ≡ follow_past to_else b s
unfolding run_ahead run follow
run_ahead-past to_else Ends s = refl
run_ahead-past to_else (Breaks fault) s = refl
run_ahead-past to_else (Closes ThenMark parts behind) s = run_ahead-past to_else behind s
run_ahead-past true (Closes ElseMark parts behind) s = refl
run_ahead-past false (Closes ElseMark parts behind) s = run_ahead-past false behind s
run_ahead-past to_else (Closes EndMark parts behind) s = refl

pub run-Else : (a : Ahead) (s : State) → run_ahead (before (Of ElseMark) a) s ≡ run_ahead (past false zero a.behind) s
unfolding run_ahead run follow
run-Else a s = sym (run_ahead-past false a.behind s)

-- a `%t` pops the stack
run-Then : (a : Ahead) (s : State) → run_ahead (before (Of ThenMark) a) s ≡ choose (run_ahead a) (follow_past true a.behind) s
unfolding run_ahead run follow
run-Then a s = refl

-- a `%t` with a number other than 0 on top, with 0, and with nothing that can be tested
pub then-holds : (a : Ahead) (s t : State) → pop_test s.stack s ≡ Ok (true, t) → run_ahead (before (Of ThenMark) a) s ≡ run_ahead a t
then-holds a s t e = run-Then a s ∙ ap (λ m. m >>= λ x. cond x.0 (run_ahead a x.1) (follow_past true a.behind x.1)) e

pub then-skips : (a : Ahead) (s t : State) → pop_test s.stack s ≡ Ok (false, t) → run_ahead (before (Of ThenMark) a) s ≡ run_ahead (past true zero a.behind) t
then-skips a s t e =
    run-Then a s
    ∙ ap (λ m. m >>= λ x. cond x.0 (run_ahead a x.1) (follow_past true a.behind x.1)) e
    ∙ sym (run_ahead-past true a.behind t)

pub then-fails : (a : Ahead) (s : State) (fault : ParmFault) → pop_test s.stack s ≡ Err fault → run_ahead (before (Of ThenMark) a) s ≡ Err fault
then-fails a s fault e = run-Then a s ∙ ap (λ m. m >>= λ x. cond x.0 (run_ahead a x.1) (follow_past true a.behind x.1)) e

-- after the skipped parts
pub passed : (to_else : Bool) (text rest : List ℕ) (s : State) → ahead rest ≡ past to_else zero (ahead text).behind → run_ahead (ahead rest) s ≡ run_ahead (past to_else zero (ahead text).behind) s
passed to_else text rest s e = ap (λ a. run_ahead a s) e

-- checked alike, and run alike if there is no fault
along-same : (p q : Result (Unit {0}) ParmFault) (x y : Result State ParmFault) → p ≡ q → (q ≡ Ok tt → x ≡ y) → (p >>= λ _. x) ≡ (q >>= λ _. y)
along-same p (Ok u) x y e f = ap (λ r. r >>= λ _. x) e ∙ f refl
along-same p (Err z) x y e f = ap (λ r. r >>= λ _. x) e

pub judged_ahead-same : (a b : Ahead) (n m : Branches) (s t : State) → judged a.behind n ≡ judged b.behind m → (HasEnd b.behind → run_ahead a s ≡ run_ahead b t) → judged_ahead a n s ≡ judged_ahead b m t
judged_ahead-same a b n m s t e f = along-same (judged a.behind n) (judged b.behind m) _ _ e (λ q. f (judged-HasEnd b.behind m q))

pub judged_behind-unread : (v : Result (Unit {0}) ParmFault) (r : Result State ParmFault) (x : ParmFault) → v ≡ Err x → judged_behind v r ≡ Err x
judged_behind-unread v r x e = ap (λ w. w >>= λ _. r) e

pub judged_behind-read : (v : Result (Unit {0}) ParmFault) (r : Result State ParmFault) → v ≡ Ok tt → judged_behind v r ≡ r
judged_behind-read v r e = ap (λ w. w >>= λ _. r) e

-- a fault that a run met, unless the syntax has one
pub Fails-first : (e fault : ParmFault) (v : Result (Unit {0}) ParmFault) (r : Result State ParmFault) → ((v ≡ Ok tt) × (e ≡ fault)) ⊎ FailsBy e v → (v ≡ Ok tt → FailsBy fault r) → FailsBy e (judged_behind v r)
Fails-first e fault v r (inl p) h = rw p.1 (Fails-on fault r (judged_behind v r) (λ q. judged_behind-read v r p.0 ∙ q) (h p.0))
Fails-first e fault v r (inr p) h = Fails-on e v (judged_behind v r) (judged_behind-unread v r e) p

pub judged_ahead-code : (text rest : List ℕ) (code : Code) (n : Branches) (s : State) → 0 < length text → code_at text ≡ Ok (code, rest) → judged_ahead (ahead text) n s ≡ judged_ahead (before code (ahead rest)) n s
judged_ahead-code text rest code n s some e = ap (λ a. judged_ahead a n s) (ahead-code text rest code some e)

-- at the end nothing is left to do
nothing-ahead : (n : Branches) (s : State) → judged_ahead (record { parts = Done; behind = Ends }) n s ≡ (judged Ends n >>= λ _. Ok s)
unfolding run_ahead run follow
nothing-ahead n s = refl

pub judged_ahead-nothing : (text : List ℕ) (n : Branches) (s : State) → length text ≡ 0 → judged_ahead (ahead text) n s ≡ (judged Ends n >>= λ _. Ok s)
judged_ahead-nothing text n s none = ap (λ a. judged_ahead a n s) (ahead-nothing text none) ∙ nothing-ahead n s

pub judged_ahead-run : (string : List ℕ) (s : State) → judged_ahead (ahead string) [] s ≡ judged_run string s
unfolding run_from
judged_ahead-run string s = ap (λ v. v >>= λ _. run_ahead (ahead string) s) (judged-verdict string)
