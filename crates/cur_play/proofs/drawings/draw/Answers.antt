use Rattle.cur_play.proofs.GridFacts.{shown_in}
use Rattle.cur_windows.proofs.TouchedFacts.{shows_full}
use Rattle.cur_play.proofs.Performances.{make_draws, change_draws, not_made, show_draws, draws_sizes}
use Rattle.cur_play.specs.Drawings.{SameSizes}
use Rattle.cur_play.specs.Scenes.{Scene}
use Rattle.cur_play.specs.Windows.{takes_memory}
use Rattle.cur_play.specs.Groups.{making}
use Rattle.cur_play.proofs.drawings.draw.Goals as goal

pub returns-in-Some-clause-sizes : goal.returns-in-Some-clause-sizes
returns-in-Some-clause-sizes g c =
    let t = g.C.Certificate.table c.args.painter.now.checked in
    let s : Scene = record { desk = c.args.desk.now; screen = c.args.screen.now; mode = c.args.painter.now.mode; status = c.args.painter.now.session.status } in
    draws_sizes t s c.args.call.now _ _ (make_draws t s c.args.call.now c.make.new.desk c.in-Some.outcome c.in-Some.ensures)

pub returns-in-Some-change-clause-sizes : goal.returns-in-Some-change-clause-sizes
returns-in-Some-change-clause-sizes g c =
    let t = g.C.Certificate.table c.args.painter.now.checked in
    let s : Scene = record { desk = c.args.desk.now; screen = c.args.screen.now; mode = c.args.painter.now.mode; status = c.args.painter.now.session.status } in
    draws_sizes t s c.args.call.now _ _ (change_draws t s c.args.call.now c.make.new.desk c.change.new.desk c.in-Some-change.outcome c.in_default.ensures c.in-Some-change.ensures.does)

pub returns-clause-sizes : goal.returns-clause-sizes
returns-clause-sizes g c =
    let t = g.C.Certificate.table c.args.painter.now.checked in
    let s : Scene = record { desk = c.args.desk.now; screen = c.args.screen.now; mode = c.args.painter.now.mode; status = c.args.painter.now.session.status } in
    draws_sizes t s c.args.call.now _ _ (show_draws t s c.args.call.now c.make.new.desk c.change.new.desk _ _ c.in_default.ensures c.in_default-change.ensures.does c.show.ensures.step)

pub returns-clause-rows : goal.returns-clause-rows
returns-clause-rows g c =
    let sizes : SameSizes c.args.desk.now c.args.screen.now c.show.new.desk c.show.new.screen = returns-clause-sizes g c in sizes.rows

pub returns-clause-cols : goal.returns-clause-cols
returns-clause-cols g c =
    let sizes : SameSizes c.args.desk.now c.args.screen.now c.show.new.desk c.show.new.screen = returns-clause-sizes g c in sizes.cols

pub returns-in-Some-clause-touched : goal.returns-in-Some-clause-touched
returns-in-Some-clause-touched g c = shows_full c.mark_all.new.self c.make.new.desk c.args.screen.now.grid c.mark_all.ensures.full

pub returns-in-Some-change-clause-touched : goal.returns-in-Some-change-clause-touched
returns-in-Some-change-clause-touched g c =
    c.change.ensures.touched c.args.screen.now.grid (shown_in c.args.stale.now.window c.args.screen.now.grid c.args.desk.now c.make.new.desk (not_made c.args.desk.now c.make.new.desk (takes_memory c.args.call.now) (making c.args.desk.now c.args.call.now) c.in_default.ensures).same c.requires.touched)

pub show-requires-clause-touched : goal.show-requires-clause-touched
show-requires-clause-touched g c =
    c.change.ensures.touched c.args.screen.now.grid (shown_in c.args.stale.now.window c.args.screen.now.grid c.args.desk.now c.make.new.desk (not_made c.args.desk.now c.make.new.desk (takes_memory c.args.call.now) (making c.args.desk.now c.args.call.now) c.in_default.ensures).same c.requires.touched)
