use Rattle.std.proofs.Common.{◌++◌, ◌∙◌, ℕ, List, ap, arith}
use Rattle.ti_verdicts.specs.Parts.{HasParts}
use Rattle.ti_verdicts.specs.Remedies.{HasRemedy}
use Rattle.ti_verdicts.proofs.Parts.{parts_next}
use Rattle.ti_verdicts.proofs.remedies.lines_of.Goals as goal

pub loop-cap-init : goal.loop-cap-init
unfolding HasParts
loop-cap-init c = c.new-lines.ensures.items

-- the line of the next capability follows those so far
pub loop-cap-preserved : goal.loop-cap-preserved
loop-cap-preserved c =
    parts_next (HasRemedy c.args.faulty.now.entry.now c.args.faulty.now.mended.now c.args.faulty.now.nos.now) c.args.caps.now c.loop-cap.cap-index c.cap-item.result c.loop-cap.lines.items c.in_ok-suggestion_line.field-0.items c.extend_from_slice.new.self.items (omega arith) c.cap-item.is
    (c.in_ok-extend_from_slice.ensures.items ∙ ap (λ (own : List ℕ). c.loop-cap.lines.items ++ own) c.as_slice.ensures.value) c.loop-cap.invariant c.in_ok-suggestion_line.ensures
