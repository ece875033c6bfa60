use Rattle.std.proofs.Common.{ap, of_z, to_z, w32}
use Rattle.cur_screens.specs.Marks.{Marking}
use Rattle.cur_windows.proofs.TouchedFacts.{shows_full}
use Rattle.cur_play.proofs.MarkFacts.{init_pair_grid, keeps_all, keeps_same, shown_on}
use Rattle.cur_play.proofs.drawings.show.Goals as goal

pub returns-in-ShowPad-clause-touched : goal.returns-in-ShowPad-clause-touched
returns-in-ShowPad-clause-touched g c = shows_full c.mark_all.new.self c.pnoutrefresh.new.desk c.pnoutrefresh.new.screen.grid c.mark_all.ensures.full

pub returns-in-ShowPad-clause-marked : goal.returns-in-ShowPad-clause-marked
returns-in-ShowPad-clause-marked g c = keeps_all _ _ _ _ (ap (λ (m : Marking). m.all) c.mark_all-in-ShowPad.ensures)

pub returns-in-InitPair-clause-touched : goal.returns-in-InitPair-clause-touched
returns-in-InitPair-clause-touched g c =
    shown_on c.args.stale.now.window c.args.desk.now c.args.screen.now.grid c.init_pair.new.self.grid
    (init_pair_grid (to_z w32 (of_z w32 c.in-InitPair.pair)) (to_z w32 (of_z w32 c.in-InitPair.foreground)) (to_z w32 (of_z w32 c.in-InitPair.background))
    c.args.screen.now c.init_pair.new.self c.init_pair.result c.init_pair.ensures) c.requires.touched

pub returns-in-InitPair-clause-marked : goal.returns-in-InitPair-clause-marked
returns-in-InitPair-clause-marked g c =
    keeps_same c.args.stale.now.screen c.args.screen.now.grid c.init_pair.new.self.grid
    (init_pair_grid (to_z w32 (of_z w32 c.in-InitPair.pair)) (to_z w32 (of_z w32 c.in-InitPair.foreground)) (to_z w32 (of_z w32 c.in-InitPair.background))
    c.args.screen.now c.init_pair.new.self c.init_pair.result c.init_pair.ensures)
