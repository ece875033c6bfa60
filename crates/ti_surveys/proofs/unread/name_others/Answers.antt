use Rattle.std.proofs.Common.{◌<◌, length, arith}
use Rattle.ti_surveys.proofs.NamedFacts.{named_step}
use Rattle.ti_surveys.proofs.unread.name_others.Goals as goal

-- the remark about the next path follows those so far
pub loop-path-preserved : goal.loop-path-preserved
loop-path-preserved c =
    let here : c.loop-path.path-index < length c.args.others.now = omega arith in
    named_step c.args.others.now c.loop-path.path-index _ c.args.remarks.now c.loop-path.remarks c.name_further.new.remarks here c.in_ok-name_further.ensures c.loop-path.invariant
