use Rattle.std.proofs.Common.{List, ℕ, subst}
use Rattle.vt_term.specs.Scanned.{HasFault}
use Rattle.ti_checker.proofs.judgements.Judge.add_marks.Goals as goal

pub returns-in-Err-clause-fault : goal.returns-in-Err-clause-fault
returns-in-Err-clause-fault c = c.not_whole.ensures c.args.self.now.bytes.items (subst (λ (bytes : List ℕ). HasFault bytes c.in-Err.fault) c.deref.ensures.value c.in-Err.ensures.fault)
