-- The first fault alone.
use Rattle.std.proofs.Common.{◌≡◌, ◌≢◌, ℕ, List, [], ◌∷◌, Result, Ok, Err, IfOk}
use Rattle.ti_caps.specs.Entry.{Content}
use Rattle.ti_checker.specs.No.{IsNo}
use Rattle.ti_checker.specs.declared.causes.Cause.TheVariants.{NoMemory}
use Rattle.ti_checker.specs.declared.causes.No.{No}
use Rattle.ti_reports.specs.Findings.{AreFirst, Faulty}

pub as_first : {V E : Type 0} (items : V → List No) (entry : Content) (rows cols : ℕ) (refusal : No) (r : Result V E) → IfOk r (λ nos. items nos ≡ refusal ∷ []) → IsNo entry rows cols refusal → refusal.cause ≢ NoMemory
    → IfOk r (λ nos. AreFirst entry rows cols (items nos))
as_first items entry rows cols refusal (Ok nos) e so known = Faulty refusal so known e
as_first items entry rows cols refusal (Err fault) e so known = tt
