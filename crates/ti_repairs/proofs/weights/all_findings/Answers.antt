use Rattle.std.proofs.Common.{arith}
use Rattle.ti_repairs.proofs.TextFacts.{zip_next}
use Rattle.ti_repairs.specs.Weights.{IsFinding}
use Rattle.ti_repairs.proofs.weights.all_findings.Goals as goal

-- one fault more
pub loop-no-preserved : goal.loop-no-preserved
loop-no-preserved c = zip_next (IsFinding c.args.terms c.args.of.entry.now c.args.of.kind c.args.of.alone) c.args.nos.now c.loop-no.no-index c.no-item.result c.loop-no.findings.items c.push.new.self.items c.in_ok-own.own
    (omega arith) c.no-item.is c.in_ok-push.ensures.items c.loop-no.invariant c.in_ok-own.ensures
