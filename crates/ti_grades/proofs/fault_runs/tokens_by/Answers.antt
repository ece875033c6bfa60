use Rattle.std.proofs.Common.{◌≡◌, rules}
use Rattle.ti_conforms.specs.declared.sends.SendFault.TheVariants.{Fault}
use Rattle.ti_grades.proofs.Sends.{unexpanded}
use Rattle.ti_grades.proofs.fault_runs.tokens_by.Goals as goal

pub returns-in-Err-Fault : goal.returns-in-Err-Fault
returns-in-Err-Fault c =
    let is : c.in-Err-Fault.field-0 ≡ Fault c.in-Err-Fault._fault = search rules in
    unexpanded c.args.string.now c.args.row c.in-Err-Fault.field-0 c.in-Err-Fault._fault is c.in-Err-Fault.ensures.unsent
