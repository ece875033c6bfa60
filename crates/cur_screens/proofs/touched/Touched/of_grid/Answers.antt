use Rattle.cur_screens.proofs.UsedMarks.{all_marked_at}
use Rattle.cur_screens.proofs.touched.Touched.of_grid.Goals as goal

pub returns-clause-full : goal.returns-clause-full
returns-clause-full c none = all_marked_at c.self.inside.used c.self.inside.grids.items c.args.self.now c.args.root c.self.view_is c.if-root-self.false
