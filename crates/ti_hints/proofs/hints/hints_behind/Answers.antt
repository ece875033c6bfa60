use Rattle.ti_hints.proofs.Hinted.{part_stands, rest_behind, rest_stands}
use Rattle.ti_hints.proofs.hints.hints_behind.Goals as goal

-- the part before the next comma is the next field
pub add_hint-requires-clause-stands : goal.add_hint-requires-clause-stands
add_hint-requires-clause-stands c = part_stands c.args.line.text.now c.loop-part.rest.now c.in-Some.part.now c.in-Some.behind.now c.loop-part.passed c.placed.result.columns c.loop-part.invariant.left c.in-Some.ensures.parts c.placed.ensures

-- and what is left is the last one
pub add_hint-requires-2-clause-stands : goal.add_hint-requires-2-clause-stands
add_hint-requires-2-clause-stands c = rest_stands c.args.line.text.now c.loop-part.rest.now c.loop-part.passed c.placed-2.result.columns c.loop-part.invariant.left c.placed-2.ensures

pub loop-part-preserved : goal.loop-part-preserved
loop-part-preserved c = record {
  left = rest_behind c.args.line.text.now c.loop-part.rest.now c.in-Some.part.now c.in-Some.behind.now c.loop-part.passed c.loop-part.invariant.left c.in-Some.ensures.parts;
  on = c.in_ok-add_hint.ensures;
}
