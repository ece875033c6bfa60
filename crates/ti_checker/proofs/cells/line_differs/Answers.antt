use Rattle.std.proofs.Common.{◌<◌, arith, below_more}
use Rattle.ti_checker.proofs.Places.{grids_apart}
use Rattle.ti_checker.proofs.cells.line_differs.Goals as goal

pub returns-then-place_differs-clause-apart : goal.returns-then-place_differs-clause-apart
returns-then-place_differs-clause-apart c = λ t h. let near : c.loop-j.j < c.args.size.cols = omega arith in
    grids_apart c.args.size.rows c.args.size.cols c.args.i c.loop-j.j c.args.first.now c.args.second.now c.args.probe.now c.requires.seen c.requires.line near (c.place_differs.ensures.apart c.if-place_differs.true) h

pub loop-j-preserved : goal.loop-j-preserved
loop-j-preserved c = below_more _ _ c.loop-j.invariant (c.place_differs.ensures.same c.if-place_differs.false)
