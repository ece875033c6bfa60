-- Results that may be faults, chained.
use Rattle.std.proofs.Common.{◌≡◌, Bool, true, false, cond, Result, Ok, Err, refl}
use Rattle.ti_parm.specs.declared.fault.ParmFault.{ParmFault}
use Rattle.ti_parm.specs.Fault.{◌>>=◌}
use Rattle.ti_parm.specs.Meaning.{State, choose, pop_test}

pub bind-bind : {A B C : Type 0} (m : Result A ParmFault) (f : A → Result B ParmFault) (g : B → Result C ParmFault) → ((m >>= f) >>= g) ≡ (m >>= λ x. f x >>= g)
bind-bind (Ok x) f g = refl
bind-bind (Err e) f g = refl

pub bind-same : {A B : Type 0} (m : Result A ParmFault) (f g : A → Result B ParmFault) → ((x : A) → f x ≡ g x) → (m >>= f) ≡ (m >>= g)
bind-same (Ok x) f g same = same x
bind-same (Err e) f g same = refl

pub bind-Ok : {A : Type 0} (m : Result A ParmFault) → (m >>= λ x. Ok x) ≡ m
bind-Ok (Ok x) = refl
bind-Ok (Err e) = refl

either-bind : {A B : Type 0} (b : Bool) (x y : Result A ParmFault) (f : A → Result B ParmFault) → (cond b x y >>= f) ≡ cond b (x >>= f) (y >>= f)
either-bind true x y f = refl
either-bind false x y f = refl

either-same : {A : Type 0} (b : Bool) (x y u v : A) → x ≡ u → y ≡ v → cond b x y ≡ cond b u v
either-same true x y u v p q = p
either-same false x y u v p q = q

pub choose-bind : (f g h : State → Result State ParmFault) (s : State) → (choose f g s >>= h) ≡ choose (λ t. f t >>= h) (λ t. g t >>= h) s
choose-bind f g h s = along (pop_test s.stack s)
  where
    along : (r : Result (Bool × State) ParmFault) → ((r >>= λ x. cond x.0 (f x.1) (g x.1)) >>= h) ≡ (r >>= λ x. cond x.0 (f x.1 >>= h) (g x.1 >>= h))
    along (Ok x) = either-bind x.0 (f x.1) (g x.1) h
    along (Err e) = refl

pub choose-same : (f g u v : State → Result State ParmFault) (s : State) → ((t : State) → f t ≡ u t) → ((t : State) → g t ≡ v t) → choose f g s ≡ choose u v s
choose-same f g u v s p q = bind-same (pop_test s.stack s) (λ x. cond x.0 (f x.1) (g x.1)) (λ x. cond x.0 (u x.1) (v x.1)) (λ x. either-same x.0 _ _ _ _ (p x.1) (q x.1))
