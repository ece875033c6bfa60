use Rattle.vt_term.proofs.Starts.{first_fault}
use Rattle.vt_term.proofs.scanners.Scanner.next.Goals as goal

pub returns-in-Err-clause-fault : goal.returns-in-Err-clause-fault
returns-in-Err-clause-fault c = λ tokens begins. first_fault c.args.text.now tokens c.args.from c.in-Err.fault c.requires begins c.in-Err.ensures.fault
