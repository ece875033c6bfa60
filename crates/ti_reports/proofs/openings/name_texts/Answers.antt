use Rattle.std.proofs.Common.{arith}
use Rattle.ti_verdicts.specs.Parts.{HasParts}
use Rattle.ti_reports.proofs.NameParts.{name_next}
use Rattle.ti_reports.proofs.openings.name_texts.Goals as goal

pub loop-name-init : goal.loop-name-init
unfolding HasParts
loop-name-init c = c.new-texts.ensures.items

-- the next name's text follows those so far
pub loop-name-preserved : goal.loop-name-preserved
loop-name-preserved c =
    name_next c.args.names.now c.loop-name.name-index _ c.loop-name.texts.items c.push.new.self.items c.in_ok-text.text (omega (arith, c.loop-name-test.true))
    c.in_ok-push.ensures.items c.loop-name.invariant c.in_ok-text.ensures
