use Rattle.std.proofs.Common.{arith}
use Rattle.grids.specs.Grids.{part_merged}
use Rattle.grids.proofs.TwoLines.{drawn_in_front, drawn_at_cut}
use Rattle.grids.proofs.shifts.merge_line.Goals as goal

pub returns-then-row-from_row-2-clause-value : goal.returns-then-row-from_row-2-clause-value
returns-then-row-from_row-2-clause-value g c = (let did = c.split_at_mut-low in
    rw (c.merge_part.ensures, c.cells.ensures)
    (drawn_in_front did.result.0.now did.result.1.now c.args.lines.now (part_merged c.args.pass.to c.args.pass.count c.args.pass.from (g.R.Merge.merged c.args.rule.now)) c.args.row c.args.from_row c.index-high-0.result c.index-low-row.result
    did.ensures.value did.ensures.front_len c.if-row-from_row-2.true (omega (arith, did.ensures.back_len))))

pub returns-else-row-from_row-2-clause-value : goal.returns-else-row-from_row-2-clause-value
returns-else-row-from_row-2-clause-value g c = (let did = c.split_at_mut-low-else-row-from_row-2 in
    rw (c.merge_part-else-row-from_row-2.ensures, c.cells-else-row-from_row-2.ensures)
    (drawn_at_cut did.result.0.now did.result.1.now c.args.lines.now (part_merged c.args.pass.to c.args.pass.count c.args.pass.from (g.R.Merge.merged c.args.rule.now)) c.args.row c.args.from_row c.index-low-from_row.result c.index-high-0-else-row-from_row-2.result
    did.ensures.value did.ensures.front_len (omega arith) (omega (arith, did.ensures.back_len))))
