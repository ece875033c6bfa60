-- Checking a string's syntax from a place on.
use Rattle.std.proofs.Common.{◌≡◌, ℕ, ◌<◌, List, [], ◌∷◌, length, Result, Ok, Err, refl, sym, ◌∙◌, ap}
use Rattle.ti_parm.specs.declared.code.Code.{Code}
use Rattle.ti_parm.specs.declared.code.Code.TheVariants.{Act as ActCode, If, Of}
use Rattle.ti_parm.specs.declared.code.Mark.TheVariants.{Then as ThenMark, Else as ElseMark, End as EndMark}
use Rattle.ti_parm.specs.declared.nest.Branch.TheVariants.{Condition, Chosen}
use Rattle.ti_parm.specs.declared.fault.ParmFault.{ParmFault}
use Rattle.ti_parm.specs.declared.fault.ParmFault.TheVariants.{BadNest}
use Rattle.ti_parm.specs.Fault.{◌>>=◌}
use Rattle.ti_parm.specs.Codes.{code_at}
use Rattle.ti_parm.specs.Conditionals.{Branches, judged, nest_behind, nest_behind_mark}
use Rattle.ti_parm.specs.Syntax.{Ahead, Behind, Breaks, Closes, Ends, HasEnd, Parts, Rest, ahead, before, closed, conditional, else_if, rest_of, syntax, verdict, whole, without_tree}
use Rattle.ti_parm.proofs.Bindings.{bind-bind}
use Rattle.ti_parm.proofs.Trees.{ahead-code, ahead-fault, ahead-nothing}

judged-rest : (b : Behind) (outer : Branches) → judged b (Chosen ∷ outer) ≡ (rest_of b >>= λ r. judged r.behind outer)
unfolding judged
judged-rest Ends outer = refl
judged-rest (Breaks fault) outer = refl
judged-rest (Closes EndMark parts behind) outer = refl
judged-rest (Closes ThenMark parts behind) outer = refl
judged-rest (Closes ElseMark first Ends) outer = refl
judged-rest (Closes ElseMark first (Breaks fault)) outer = refl
judged-rest (Closes ElseMark first (Closes EndMark parts behind)) outer = refl
judged-rest (Closes ElseMark first (Closes ThenMark chosen behind)) outer =
    judged-rest behind outer
    ∙ sym (bind-bind (rest_of behind) (λ r. Ok (else_if first chosen r)) (λ r. judged r.behind outer))
judged-rest (Closes ElseMark first (Closes ElseMark parts behind)) outer = refl

judged-closed : (condition chosen : Parts) (m : Result Rest ParmFault) (outer : Branches) → judged (closed condition chosen m).behind outer ≡ (m >>= λ r. judged r.behind outer)
unfolding judged
judged-closed condition chosen (Ok r) outer = refl
judged-closed condition chosen (Err e) outer = refl

judged-conditional : (condition : Parts) (b : Behind) (outer : Branches) → judged (conditional condition b).behind outer ≡ judged b (Condition ∷ outer)
unfolding judged
judged-conditional condition Ends outer = refl
judged-conditional condition (Breaks fault) outer = refl
judged-conditional condition (Closes ThenMark chosen behind) outer = judged-closed condition chosen (rest_of behind) outer ∙ sym (judged-rest behind outer)
judged-conditional condition (Closes ElseMark parts behind) outer = refl
judged-conditional condition (Closes EndMark parts behind) outer = refl

pub judged-before : (code : Code) (a : Ahead) (branches : Branches) → judged (before code a).behind branches ≡ (nest_behind code branches >>= judged a.behind)
unfolding judged
judged-before (ActCode action) a branches = refl
judged-before If a branches = judged-conditional a.parts a.behind branches
judged-before (Of mark) a branches = refl

-- checking from a code on is checking from the place after it on
pub judged-code : (text rest : List ℕ) (code : Code) (branches : Branches) → 0 < length text → code_at text ≡ Ok (code, rest) → judged (ahead text).behind branches ≡ (nest_behind code branches >>= judged (ahead rest).behind)
judged-code text rest code branches some e = ap (λ a. judged a.behind branches) (ahead-code text rest code some e) ∙ judged-before code (ahead rest) branches

pub judged-on : (text rest : List ℕ) (code : Code) (branches further : Branches) → 0 < length text → code_at text ≡ Ok (code, rest) → nest_behind code branches ≡ Ok further → judged (ahead text).behind branches ≡ judged (ahead rest).behind further
judged-on text rest code branches further some e p = judged-code text rest code branches some e ∙ ap (λ m. m >>= judged (ahead rest).behind) p

pub judged-stop : (text rest : List ℕ) (code : Code) (branches : Branches) (fault : ParmFault) → 0 < length text → code_at text ≡ Ok (code, rest) → nest_behind code branches ≡ Err fault → judged (ahead text).behind branches ≡ Err fault
judged-stop text rest code branches fault some e p = judged-code text rest code branches some e ∙ ap (λ m. m >>= judged (ahead rest).behind) p

pub judged-fault : (text : List ℕ) (branches : Branches) (fault : ParmFault) → 0 < length text → code_at text ≡ Err fault → judged (ahead text).behind branches ≡ Err fault
unfolding judged
judged-fault text branches fault some e = ap (λ a. judged a.behind branches) (ahead-fault text fault some e)

pub judged-ended : (text : List ℕ) (branches : Branches) → length text ≡ 0 → judged (ahead text).behind branches ≡ judged Ends branches
judged-ended text branches none = ap (λ a. judged a.behind branches) (ahead-nothing text none)

judged-outside : judged Ends [] ≡ Ok tt
unfolding judged
judged-outside = refl

pub ended-outside : (branches : Branches) → branches ≡ [] → judged Ends branches ≡ Ok tt
ended-outside branches e = ap (judged Ends) e ∙ judged-outside

pub ended-inside : (branches : Branches) → (branches ≡ [] → ⊥) → judged Ends branches ≡ Err BadNest
unfolding judged
ended-inside [] h = absurd (h refl)
ended-inside (branch ∷ outer) h = refl

judged-whole : (parts : Parts) (b : Behind) → judged b [] ≡ without_tree (whole parts b)
unfolding judged
judged-whole parts Ends = refl
judged-whole parts (Breaks fault) = refl
judged-whole parts (Closes mark more behind) = refl

pub judged-verdict : (string : List ℕ) → judged (ahead string).behind [] ≡ verdict string
unfolding syntax
judged-verdict string = judged-whole (ahead string).parts (ahead string).behind

ended : (parts : Parts) (b : Behind) → without_tree (whole parts b) ≡ Ok tt → b ≡ Ends
ended parts Ends e = refl
ended parts (Breaks fault) e = cc
ended parts (Closes mark more behind) e = cc

pub verdict-ended : (string : List ℕ) → verdict string ≡ Ok tt → (ahead string).behind ≡ Ends
unfolding syntax
verdict-ended string e = ended (ahead string).parts (ahead string).behind e

has_end-along : (a c : Ahead) → a ≡ c → HasEnd a.behind → HasEnd c.behind
has_end-along a c e h = rw e at h

pub HasEnd-code : (text rest : List ℕ) (code : Code) → 0 < length text → code_at text ≡ Ok (code, rest) → HasEnd (ahead text).behind → HasEnd (before code (ahead rest)).behind
HasEnd-code text rest code some e h = has_end-along _ _ (ahead-code text rest code some e) h

-- text that ends its conditionals reaches its end
pub judged-HasEnd : (b : Behind) (n : Branches) → judged b n ≡ Ok tt → HasEnd b
unfolding judged
judged-HasEnd Ends n e = tt
judged-HasEnd (Breaks fault) n e = cc
judged-HasEnd (Closes mark parts behind) n e = along (nest_behind_mark mark n) (judged-HasEnd behind) e
  where
    along : (r : Result Branches ParmFault) → ((m : Branches) → judged behind m ≡ Ok tt → HasEnd behind) → (r >>= λ further. judged behind further) ≡ Ok tt → HasEnd behind
    along (Ok further) f p = f further p
    along (Err x) f p = cc

-- moving past a code
pub judged-passed : (code : Code) (a : Ahead) (n m : Branches) → nest_behind code n ≡ Ok m → judged a.behind m ≡ judged (before code a).behind n
judged-passed code a n m e = sym (judged-before code a n ∙ ap (λ r. r >>= judged a.behind) e)

pub judged-unpassed : (code : Code) (a : Ahead) (n : Branches) (x : ParmFault) → nest_behind code n ≡ Err x → judged (before code a).behind n ≡ Err x
judged-unpassed code a n x e = judged-before code a n ∙ ap (λ r. r >>= judged a.behind) e
