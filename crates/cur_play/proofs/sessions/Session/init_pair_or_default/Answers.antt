use Rattle.std.proofs.Common.{of_z, to_z, w32}
use Rattle.cur_screens.specs.VirtualScreen.{Screen}
use Rattle.ti_conforms.specs.Certified.{IsChecked, Table}
use Rattle.cur_play.specs.Scenes.{IsStage}
use Rattle.cur_play.specs.StaleMarks.{IsKnown}
use Rattle.cur_play.proofs.MarkFacts.{recolored_keeps}
use Rattle.cur_play.proofs.sessions.Session.init_pair_or_default.Goals as goal

pub invariant_of-self : goal.invariant_of-self
invariant_of-self g c =
    let t : Table = g.C.Certificate.table c.self.inside.painter.checked in
    let P : Screen → Type 0 = λ v. IsStage t c.self.inside.desk v × IsChecked t × IsKnown c.self.inside.stale c.self.inside.desk v c.self.inside.painter.shown.grid in
    let i = c.self.invariant in
    recolored_keeps P c.self.inside.screen c.init_pair_or_default.new.self c.init_pair_or_default.result
    (to_z w32 (of_z w32 c.args.pair)) (to_z w32 (of_z w32 c.args.foreground)) (to_z w32 (of_z w32 c.args.background))
    c.init_pair_or_default.ensures i
    (λ pairs. (
      record { rows = i.0.rows; cols = i.0.cols; desk_rows = i.0.desk_rows; desk_cols = i.0.desk_cols },
      i.1,
      record { window = i.2.window; screen = i.2.screen },
    ))
