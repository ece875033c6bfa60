use Rattle.ti_reports.proofs.FirstFacts.{as_first}
use Rattle.ti_reports.proofs.findings.first_fault.Goals as goal

pub returns-in_ok-must_claim-in-Err : goal.returns-in_ok-must_claim-in-Err
returns-in_ok-must_claim-in-Err c =
    as_first (λ nos. nos.items) c.args.entry.now c.args.size.rows c.args.size.cols c.in-Err.no c.only.result c.only.ensures c.in-Err.ensures.refused c.in_ok-must_claim-in-Err.ensures.claims
