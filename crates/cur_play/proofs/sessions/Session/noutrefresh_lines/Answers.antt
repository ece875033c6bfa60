use Rattle.std.proofs.Common.{of_z, to_z, w32, refl, subst, sym}
use Rattle.cur_windows.specs.Refreshes.{Refresh}
use Rattle.cur_play.specs.Drawings.{SameSizes}
use Rattle.cur_play.proofs.Performances.{noutrefresh_lines_sizes}
use Rattle.cur_play.proofs.Plays.{stage_kept}
use Rattle.cur_play.proofs.sessions.Session.noutrefresh_lines.Goals as goal

pub invariant_of-self : goal.invariant_of-self
invariant_of-self g c =
    let i = c.self.invariant in
    let d = c.self.inside.desk in let v = c.self.inside.screen in
    let x = c.noutrefresh_lines_marked in
    let sizes : SameSizes d v x.new.self x.new.screen = subst (λ (r : Refresh). SameSizes d v r.0 r.1) (sym x.ensures.step)
    (noutrefresh_lines_sizes d v c.args.window (to_z w32 (of_z w32 c.args.top)) (to_z w32 (of_z w32 c.args.bottom))) in (
      stage_kept g.C.Certificate.table c.self.inside.painter c.self.inside.painter d x.new.self v x.new.screen i.0 sizes refl,
      i.1,
      record { window = x.ensures.touched; screen = x.ensures.marked c.self.inside.painter.shown.grid i.2.screen },
    )
