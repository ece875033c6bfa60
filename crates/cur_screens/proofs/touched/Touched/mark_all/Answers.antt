use Rattle.std.proofs.Common.{subst}
use Rattle.cur_screens.specs.Touched.{FillsAll, Markings, full_from}
use Rattle.cur_screens.proofs.Openings.{all_closed}
use Rattle.cur_screens.proofs.touched.Touched.mark_all.Goals as goal

pub returns : goal.returns
returns c = subst (λ (t : Markings). FillsAll t (full_from 0 c.self.inside.grids.items)) c.self.view_is (all_closed c.self.inside.used c.self.inside.grids.items)
