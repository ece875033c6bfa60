use Rattle.std.proofs.Common.{◌∙◌, ap, drop, map, rules, take, ◌++◌, ◌+◌}
use Rattle.ti_surveys.proofs.PlaceFacts.{whole_after}
use Rattle.ti_surveys.proofs.ShareFacts.{lines_said}
use Rattle.ti_verdicts.specs.Locations.{placed_in}
use Rattle.ti_surveys.proofs.places.places_lines.Goals as goal

pub loop-at-preserved : goal.loop-at-preserved
loop-at-preserved c =
    whole_after placed_in c.args.faults.now c.loop-at.at c.index-faults-at.result c.loop-at.lines.items c.push_unless.new.lines.items _ c.loop-at-test.true c.index-faults-at.is
    (c.in_ok-push_unless.ensures
    ∙ ap (λ t. c.loop-at.lines.items ++ t)
    (lines_said (map placed_in (take c.loop-at.at c.args.faults.now)) (map placed_in (drop (c.loop-at.at + 1) c.args.faults.now)) (placed_in c.index-faults-at.result) _
    (search rules)))
    c.loop-at.invariant
