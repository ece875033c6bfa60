use Rattle.std.proofs.Common.{rules}
use Rattle.ti_verdicts.specs.Locations.{placed_in}
use Rattle.ti_surveys.proofs.ShareFacts.{added}
use Rattle.ti_surveys.proofs.shares.add.Goals as goal

pub returns : goal.returns
returns c =
    added c.args.found.now c.remove-earlier.new.self c.insert.new.self (c.as_slice.result, c.as_slice-2.result) (placed_in c.args.fault.now) c.in_ok-share.share c.args.number
    (search rules)
    (search rules)
    c.remove-earlier.ensures.updates.0
    c.in_ok-insert.ensures.updates.0
    (search rules)
