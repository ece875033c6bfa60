use Rattle.ti_source.proofs.FieldLines.{parts_more, parts_end}
use Rattle.ti_source.proofs.lines.Block.add_parts.Goals as goal

pub loop-part-preserved : goal.loop-part-preserved
loop-part-preserved c =
    parts_more c.args.line c.loop-part.self c.add_part.new.self _ c.in-Some.part.now c.loop-part.rest.now c.in-Some.behind.now c.in-Some.ensures.found c.in_ok-add_part.ensures c.loop-part.invariant

pub returns : goal.returns
returns c = parts_end c.args.line c.loop-part.self _ c.loop-part.rest.now c.in_default.ensures.none c.loop-part.invariant
