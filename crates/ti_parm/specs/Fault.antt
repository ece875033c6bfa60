-- Results that may be faults.
use Rattle.std.specs.Prelude.{◌≡◌, ℕ, List, ◌++◌, Result, Ok, Err}
use Rattle.ti_parm.specs.declared.fault.ParmFault.{ParmFault}
use Rattle.ti_parm.specs.declared.fault.ParmFault.TheVariants.{NoMemory}

-- f of the value, or the fault
abbrev pub ◌>>=◌ : {A B : Type 0} → Result A ParmFault → (A → Result B ParmFault) → Result B ParmFault
Ok x >>= f = f x
Err e >>= f = Err e

infixl 10 ◌>>=◌
-- a call fails as the meaning does; out of memory says nothing of the meaning
abbrev pub FailsBy : {S : Type 0} → ParmFault → Result S ParmFault → Type 0
FailsBy NoMemory meant = Unit {0}
FailsBy e meant = meant ≡ Err e

-- a call returns the meaning, seen through the view, or memory ran out
abbrev pub Gives : {R S : Type 0} → (R → S) → Result R ParmFault → Result S ParmFault → Type 0
Gives view (Ok x) meant = meant ≡ Ok (view x)
Gives view (Err e) meant = FailsBy e meant

-- a call returns the meaning, seen through the view
abbrev pub Answers : {R S : Type 0} → (R → S) → Result R ParmFault → Result S ParmFault → Type 0
Answers view (Ok x) meant = meant ≡ Ok (view x)
Answers view (Err e) meant = meant ≡ Err e

-- the new bytes are the old ones, followed by more
abbrev pub Extends : List ℕ → List ℕ → Type 0
Extends old new = (more : List ℕ) × (new ≡ old ++ more)
