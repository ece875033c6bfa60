use Rattle.std.proofs.Common.{arith}
use Rattle.grids.proofs.Parts.{merged_is_drawn}
use Rattle.grids.proofs.rewrites.merge_left.Goals as goal

pub returns-clause-drawn : goal.returns-clause-drawn
returns-clause-drawn g c = (let did = c.loop-k.invariant in
    merged_is_drawn c.args.pass.to c.args.pass.count c.args.pass.from (g.R.Merge.merged c.args.rule.now) c.args.cells.now c.args.cells.now c.loop-k.cells did.len
    (λ k d h l. did.inside k d h (omega arith)) did.before (λ k d h. did.behind k d (omega arith)) c.requires.from)
