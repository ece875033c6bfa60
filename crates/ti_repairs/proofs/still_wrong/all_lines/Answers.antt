use Rattle.std.proofs.Common.{◌++◌, ◌∙◌, List, ℕ, ap}
use Rattle.ti_steps.proofs.PartFacts.{no_parts, parts_next}
use Rattle.ti_repairs.specs.Notes.{AreWrongLines}
use Rattle.ti_repairs.proofs.still_wrong.all_lines.Goals as goal

pub loop-place-init : goal.loop-place-init
loop-place-init c = no_parts (AreWrongLines c.args.index.now.raws.now c.args.size.rows c.args.size.cols) c.new-lines.result.items c.new-lines.ensures.items

pub loop-place-preserved : goal.loop-place-preserved
loop-place-preserved c =
    parts_next (AreWrongLines c.args.index.now.raws.now c.args.size.rows c.args.size.cols) c.loop-place.place c.loop-place.lines.items c.in_ok-own.own.items c.extend_from_slice.new.self.items
    (c.in_ok-extend_from_slice.ensures.items ∙ ap (λ (own : List ℕ). c.loop-place.lines.items ++ own) c.as_slice.ensures.value) c.loop-place.invariant c.in_ok-own.ensures
