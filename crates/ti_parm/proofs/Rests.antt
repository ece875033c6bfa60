-- The rest of a conditional, in its three shapes.
use Rattle.std.proofs.Common.{◌≡◌, Result, Ok, Err, IfOk}
use Rattle.std.proofs.lemmas.Result.{IfOk-at_ok}
use Rattle.ti_parm.specs.declared.code.Code.{Code}
use Rattle.ti_parm.specs.declared.code.Code.TheVariants.{Act, If, Of}
use Rattle.ti_parm.specs.declared.code.Mark.TheVariants.{Then as ThenMark, Else as ElseMark, End as EndMark}
use Rattle.ti_parm.specs.declared.fault.ParmFault.{ParmFault}
use Rattle.ti_parm.specs.Fault.{◌>>=◌}
use Rattle.ti_parm.specs.Syntax.{Ahead, Behind, Breaks, Closes, Else, Ends, HasEnd, Nothing, Parts, Rest, before, closed, conditional, else_if, rest_of}

pub data IsRest : Behind → Rest → Type 0 where
  ends : (parts : Parts) (behind : Behind) → IsRest (Closes EndMark parts behind) (record { otherwise = Nothing; parts = parts; behind = behind })
  elses : (first parts : Parts) (behind : Behind) → IsRest (Closes ElseMark first (Closes EndMark parts behind)) (record { otherwise = Else first; parts = parts; behind = behind })
  goes_on : (first chosen : Parts) (behind : Behind) (r : Rest) → IsRest behind r → IsRest (Closes ElseMark first (Closes ThenMark chosen behind)) (else_if first chosen r)

further : (first chosen : Parts) (behind : Behind) (m : Result Rest ParmFault) → IfOk m (IsRest behind) → IfOk (m >>= λ r. Ok (else_if first chosen r)) (IsRest (Closes ElseMark first (Closes ThenMark chosen behind)))
further first chosen behind (Ok r) h = goes_on first chosen behind r h
further first chosen behind (Err e) h = tt

rest_of-is : (b : Behind) → IfOk (rest_of b) (IsRest b)
rest_of-is Ends = tt
rest_of-is (Breaks fault) = tt
rest_of-is (Closes EndMark parts behind) = ends parts behind
rest_of-is (Closes ThenMark parts behind) = tt
rest_of-is (Closes ElseMark first Ends) = tt
rest_of-is (Closes ElseMark first (Breaks fault)) = tt
rest_of-is (Closes ElseMark first (Closes EndMark parts behind)) = elses first parts behind
rest_of-is (Closes ElseMark first (Closes ThenMark chosen behind)) = further first chosen behind (rest_of behind) (rest_of-is behind)
rest_of-is (Closes ElseMark first (Closes ElseMark parts behind)) = tt

pub is_rest : (b : Behind) (r : Rest) → rest_of b ≡ Ok r → IsRest b r
is_rest b r e = IfOk-at_ok (IsRest b) e (rest_of-is b)

HasEnd-rest : (b : Behind) (r : Rest) → IsRest b r → HasEnd r.behind → HasEnd b
HasEnd-rest _ _ (ends parts behind) h = h
HasEnd-rest _ _ (elses first parts behind) h = h
HasEnd-rest _ _ (goes_on first chosen behind r d) h = HasEnd-rest behind r d h

HasEnd-closed : (condition chosen : Parts) (b : Behind) (m : Result Rest ParmFault) → IfOk m (IsRest b) → HasEnd (closed condition chosen m).behind → HasEnd b
HasEnd-closed condition chosen b (Ok r) d h = HasEnd-rest b r d h
HasEnd-closed condition chosen b (Err e) d h = absurd h

HasEnd-conditional : (condition : Parts) (b : Behind) → HasEnd (conditional condition b).behind → HasEnd b
HasEnd-conditional condition Ends h = tt
HasEnd-conditional condition (Breaks fault) h = h
HasEnd-conditional condition (Closes ThenMark chosen behind) h = HasEnd-closed condition chosen behind (rest_of behind) (rest_of-is behind) h
HasEnd-conditional condition (Closes ElseMark parts behind) h = absurd h
HasEnd-conditional condition (Closes EndMark parts behind) h = absurd h

pub HasEnd-before : (code : Code) (a : Ahead) → HasEnd (before code a).behind → HasEnd a.behind
HasEnd-before (Act action) a h = h
HasEnd-before If a h = HasEnd-conditional a.parts a.behind h
HasEnd-before (Of mark) a h = h

-- a conditional that ends has a rest
pub data IsConditional (condition : Parts) : Behind → Ahead → Type 0 where
  is_conditional : (chosen : Parts) (behind : Behind) (r : Rest) → IsRest behind r → IsConditional condition (Closes ThenMark chosen behind) (closed condition chosen (Ok r))

closed-is : (condition chosen : Parts) (b : Behind) (m : Result Rest ParmFault) → IfOk m (IsRest b) → HasEnd (closed condition chosen m).behind → IsConditional condition (Closes ThenMark chosen b) (closed condition chosen m)
closed-is condition chosen b (Ok r) d h = is_conditional chosen b r d
closed-is condition chosen b (Err e) d h = absurd h

pub conditional-is : (condition : Parts) (b : Behind) → HasEnd (conditional condition b).behind → IsConditional condition b (conditional condition b)
conditional-is condition Ends h = absurd h
conditional-is condition (Breaks fault) h = absurd h
conditional-is condition (Closes ThenMark chosen behind) h = closed-is condition chosen behind (rest_of behind) (rest_of-is behind) h
conditional-is condition (Closes ElseMark parts behind) h = absurd h
conditional-is condition (Closes EndMark parts behind) h = absurd h
