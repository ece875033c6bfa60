use Rattle.std.proofs.Common.{refl}
use Rattle.cur_scripts.specs.declared.calls.Call.TheVariants.{Addstr}
use Rattle.cur_play.proofs.Plays.{kept_alone}
use Rattle.cur_play.proofs.sessions.Session.addstr.Goals as goal

pub invariant_of-self : goal.invariant_of-self
invariant_of-self g c =
    let s = c.self.inside in
    let x = c.addstr_marked in
    kept_alone g.C.Certificate.table s.painter (Addstr c.args.window c.args.text.now) s.desk x.new.self s.screen _ x.result s.stale x.new.touched refl x.ensures.step x.ensures.touched c.self.invariant
