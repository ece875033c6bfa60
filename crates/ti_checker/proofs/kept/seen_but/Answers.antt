use Rattle.std.proofs.Common.{arith}
use Rattle.ti_checker.specs.Kept.{unnamed}
use Rattle.ti_checker.proofs.Settled.{nothing_seen, seen_whole}
use Rattle.ti_checker.proofs.kept.seen_but.Goals as goal

pub loop-place-init : goal.loop-place-init
loop-place-init c = nothing_seen c.args.entry.now c.args.size.rows c.args.size.cols (unnamed c.args.left_out.now) c.new-seen.result.reach c.new-seen.result.changes.items c.new-seen.ensures.reach c.new-seen.ensures.changes

pub returns : goal.returns
returns c = seen_whole c.args.entry.now c.args.size.rows c.args.size.cols c.loop-place.place (unnamed c.args.left_out.now) c.loop-place.seen.reach c.loop-place.seen.changes.items (omega arith) c.loop-place.invariant
