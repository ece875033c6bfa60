use Rattle.std.proofs.Common.{arith}
use Rattle.ti_checker.specs.Kept.{every}
use Rattle.ti_checker.proofs.Earliest.{all_caps}
use Rattle.ti_checker.proofs.Settled.{seen_whole}
use Rattle.ti_checker.proofs.drafts.push_caps.Goals as goal

pub returns-clause-drafted : goal.returns-clause-drafted
returns-clause-drafted c = all_caps c.args.entry.now c.args.size.rows c.args.size.cols c.loop-place.place c.loop-place.draft.text.items (omega arith) c.loop-place.invariant.drafted

pub returns-clause-seen : goal.returns-clause-seen
returns-clause-seen c = seen_whole c.args.entry.now c.args.size.rows c.args.size.cols c.loop-place.place every c.loop-place.draft.seen.reach c.loop-place.draft.seen.changes.items (omega arith) c.loop-place.invariant.seen
