use Rattle.std.proofs.Common.{arith}
use Rattle.cur_windows.proofs.ViewFacts.{row_of, height_of}
use Rattle.cur_windows.proofs.views.PartView.row.Goals as goal

pub overflow_add-self-inside : goal.overflow_add-self-inside
overflow_add-self-inside c = let high = height_of c.self.inside.area _ c.args.self.now c.self.view_is c.self.invariant.fits in omega (arith, c.self.invariant.height)

pub returns : goal.returns
returns c = row_of c.self.inside.area _ c.args.self.now c.args.y c.line-line.result.now c.self.view_is c.self.invariant.fits c.requires c.line-line.ensures
