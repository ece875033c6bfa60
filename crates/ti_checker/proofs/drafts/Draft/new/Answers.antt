use Rattle.ti_checker.specs.Kept.{every}
use Rattle.ti_checker.proofs.Settled.{nothing_seen}
use Rattle.ti_checker.proofs.Starts.{begins}
use Rattle.ti_checker.proofs.drafts.Draft.new.Goals as goal

pub returns-clause-drafted : goal.returns-clause-drafted
returns-clause-drafted c = begins c.args.entry.now c.args.size.rows c.args.size.cols c.in_ok-text.text.items c.push_head.new.text.items c.names.ensures.entry c.args.size.limits c.in_ok-text.ensures.items c.in_ok-push_head.ensures

pub returns-clause-seen : goal.returns-clause-seen
returns-clause-seen c = nothing_seen c.args.entry.now c.args.size.rows c.args.size.cols every c.new-seen.result.reach c.new-seen.result.changes.items c.new-seen.ensures.reach c.new-seen.ensures.changes
