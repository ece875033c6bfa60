use Rattle.ti_surveys.proofs.ShareFacts.{indexed_more}
use Rattle.ti_surveys.proofs.shares.index_of.Goals as goal

pub loop-number-preserved : goal.loop-number-preserved
loop-number-preserved c =
    indexed_more c.args.faults.now c.loop-number.number c.index-faults-number.result c.loop-number.found c.add.new.found
    c.loop-number-test.true
    c.index-faults-number.is
    c.in_ok-add.ensures
    c.loop-number.invariant
