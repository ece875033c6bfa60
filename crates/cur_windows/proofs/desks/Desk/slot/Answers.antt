use Rattle.std.proofs.Common.{arith}
use Rattle.cur_windows.proofs.Closures.{placed_here}
use Rattle.cur_windows.proofs.desks.Desk.slot.Goals as goal

pub returns-in-Some-clause-placed : goal.returns-in-Some-clause-placed
returns-in-Some-clause-placed c = placed_here _ _ c.args.id c.in-Some.slot c.index.result.now c.self.view_is c.self.invariant (omega arith) c.index.ensures c.in-Some.is
