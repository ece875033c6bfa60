-- Faults passed on.
use Rattle.std.proofs.Common.{◌≡◌, ◌∙◌, ap, Result, Ok, Err, IfOk, IfErr}
use Rattle.ti_parm.specs.declared.fault.ParmFault.{ParmFault}
use Rattle.ti_parm.specs.declared.fault.ParmFault.TheVariants.{Underflow, BadNest, BadCode, Overflow, BadChar, WrongKind, NoMemory}
use Rattle.ti_parm.specs.Fault.{◌>>=◌, Answers, FailsBy, Gives}

pub Fails-on : {S T : Type 0} (e : ParmFault) (p : Result S ParmFault) (q : Result T ParmFault) → (p ≡ Err e → q ≡ Err e) → FailsBy e p → FailsBy e q
Fails-on Underflow p q f h = f h
Fails-on BadNest p q f h = f h
Fails-on BadCode p q f h = f h
Fails-on Overflow p q f h = f h
Fails-on BadChar p q f h = f h
Fails-on WrongKind p q f h = f h
Fails-on NoMemory p q f h = tt

pub Fails-from : {T : Type 0} (e : ParmFault) (q : Result T ParmFault) → q ≡ Err e → FailsBy e q
Fails-from Underflow q h = h
Fails-from BadNest q h = h
Fails-from BadCode q h = h
Fails-from Overflow q h = h
Fails-from BadChar q h = h
Fails-from WrongKind q h = h
Fails-from NoMemory q h = tt

pub Answers-Gives : {R S : Type 0} (view : R → S) (r : Result R ParmFault) (p q : Result S ParmFault) → q ≡ p → Answers view r p → Gives view r q
Answers-Gives view (Ok x) p q e h = e ∙ h
Answers-Gives view (Err x) p q e h = Fails-from x q (e ∙ h)

pub Gives-ended : {R S : Type 0} (r : Result R ParmFault) (p : Result (Unit {0}) ParmFault) (q : Result S ParmFault) (t : S) → q ≡ (p >>= λ _. Ok t) → Answers (λ _. tt) r p → Gives (λ _. t) r q
Gives-ended (Ok x) p q t e h = e ∙ ap (λ v. v >>= λ _. Ok t) h
Gives-ended (Err x) p q t e h = Fails-from x q (e ∙ ap (λ v. v >>= λ _. Ok t) h)

-- two properties of a call's result imply a third
pub IfOk-on : {A E : Type 0} (r : Result A E) (P Q S : A → Type 0) → IfOk r P → IfOk r Q → ((x : A) → P x → Q x → S x) → IfOk r S
IfOk-on (Ok x) P Q S p q f = f x p q
IfOk-on (Err e) P Q S p q f = tt

pub IfErr-on : {A E : Type 0} (r : Result A E) (P Q : E → Type 0) → IfErr r P → ((e : E) → P e → Q e) → IfErr r Q
IfErr-on (Ok x) P Q p f = tt
IfErr-on (Err e) P Q p f = f e p
