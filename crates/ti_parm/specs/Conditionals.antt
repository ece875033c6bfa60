-- (Serves the code alone.) The shape of conditionals, code by code.
use Rattle.std.specs.Prelude.{List, [], ◌∷◌, Result, Ok, Err, Option, Some, None}
use Rattle.ti_parm.specs.Fault.{◌>>=◌}
use Rattle.ti_parm.specs.declared.code.Code.{Code}
use Rattle.ti_parm.specs.declared.code.Code.TheVariants.{Act, If, Of}
use Rattle.ti_parm.specs.declared.code.Mark.{Mark}
use Rattle.ti_parm.specs.declared.code.Mark.TheVariants.{Then, Else, End}
use Rattle.ti_parm.specs.declared.nest.Branch.{Branch}
use Rattle.ti_parm.specs.declared.nest.Branch.TheVariants.{Condition, Chosen, Otherwise}
use Rattle.ti_parm.specs.declared.fault.ParmFault.{ParmFault}
use Rattle.ti_parm.specs.declared.fault.ParmFault.TheVariants.{BadNest}
use Rattle.ti_parm.specs.Syntax.{Behind, Ends, Breaks, Closes}

abbrev pub Branches : Type 0
Branches = List Branch

-- the branch after a mark, or none after `%;`
abbrev pub branch_behind : Mark → Branch → Result (Option Branch) ParmFault
branch_behind Then Condition = Ok (Some Chosen)
branch_behind Then Otherwise = Ok (Some Chosen)
branch_behind Then Chosen = Err BadNest
branch_behind Else Chosen = Ok (Some Otherwise)
branch_behind Else Condition = Err BadNest
branch_behind Else Otherwise = Err BadNest
branch_behind End Chosen = Ok None
branch_behind End Otherwise = Ok None
branch_behind End Condition = Err BadNest

abbrev pub inside : Option Branch → Branches → Branches
inside None outer = outer
inside (Some branch) outer = branch ∷ outer

-- a mark belongs to the innermost conditional
abbrev pub nest_behind_mark : Mark → Branches → Result Branches ParmFault
nest_behind_mark mark [] = Err BadNest
nest_behind_mark mark (branch ∷ outer) = branch_behind mark branch >>= λ next. Ok (inside next outer)

abbrev pub nest_behind : Code → Branches → Result Branches ParmFault
nest_behind (Act action) branches = Ok branches
nest_behind If branches = Ok (Condition ∷ branches)
nest_behind (Of mark) branches = nest_behind_mark mark branches

-- whether the codes after a place in these conditionals end all of them, without a fault
unfoldable pub judged : Behind → Branches → Result (Unit {0}) ParmFault
judged Ends [] = Ok tt
judged Ends (branch ∷ outer) = Err BadNest
judged (Breaks fault) branches = Err fault
judged (Closes mark parts behind) branches = nest_behind_mark mark branches >>= λ further. judged behind further
