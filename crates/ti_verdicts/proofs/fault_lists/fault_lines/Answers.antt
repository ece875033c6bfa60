use Rattle.std.proofs.Common.{◌++◌, ◌∙◌, ℕ, List, ap, arith, map}
use Rattle.ti_verdicts.specs.FaultLists.{HasFaultLines}
use Rattle.ti_verdicts.specs.Locations.{place_if}
use Rattle.ti_sources.specs.LinedFiles.{file_text}
use Rattle.ti_verdicts.specs.Parts.{HasParts}
use Rattle.ti_verdicts.proofs.Parts.{parts_next}
use Rattle.ti_verdicts.proofs.fault_lists.fault_lines.Goals as goal

pub loop-no-init : goal.loop-no-init
unfolding HasParts
loop-no-init c = c.new-lines.ensures.items

-- the lines of the next fault follow those so far
pub loop-no-preserved : goal.loop-no-preserved
loop-no-preserved c =
    parts_next (HasFaultLines (map file_text c.args.found.now.originals.now) c.args.found.now.entry.now (place_if c.args.found.now.stands) c.args.mended.now c.args.nos.now) c.args.nos.now c.loop-no.no-index c.no-item.result c.loop-no.lines.items c.in_ok-own_lines.field-0.items c.extend_from_slice.new.self.items (omega arith) c.no-item.is
    (c.in_ok-extend_from_slice.ensures.items ∙ ap (λ (own : List ℕ). c.loop-no.lines.items ++ own) c.as_slice.ensures.value) c.loop-no.invariant c.in_ok-own_lines.ensures
