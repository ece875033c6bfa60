use Rattle.std.proofs.Common.{refl, ap}
use Rattle.cur_screens.specs.VirtualScreen.{Screen}
use Rattle.cur_play.proofs.MarkFacts.{same_cells, same_shown}
use Rattle.cur_play.proofs.sends.update.Goals as goal

pub returns-in-Ok-clause-puts : goal.returns-in-Ok-clause-puts
returns-in-Ok-clause-puts g c = (c.in-Ok.ensures.refreshes.bytes, record { refreshed = c.in-Ok.ensures.refreshes; all = refl; shown = c.in-Ok.ensures.shown })

pub returns-in-Ok-clause-marked : goal.returns-in-Ok-clause-marked
returns-in-Ok-clause-marked g c = same_shown c.clear.new.self c.update_marked.new.self.shown c.shown.new.self c.args.screen.now c.in-Ok.ensures.shown (ap (λ (v : Screen). v.grid) c.shown.ensures)

pub returns-in-Err-clause-puts : goal.returns-in-Err-clause-puts
returns-in-Err-clause-puts g c = (c.in-Err.ensures.refreshes.front, record { cut = c.in-Err.ensures.refreshes; all = refl; shown = c.in-Err.ensures.kept })

pub returns-in-Err-clause-marked : goal.returns-in-Err-clause-marked
returns-in-Err-clause-marked g c = same_cells c.args.marks.now _ c.args.screen.now c.args.painter.now.shown c.args.screen.now c.in-Err.ensures.kept refl c.requires.marked

pub returns-in-Ok-clause-cells : goal.returns-in-Ok-clause-cells
returns-in-Ok-clause-cells g c = ap (λ (v : Screen). v.grid) c.shown.ensures
