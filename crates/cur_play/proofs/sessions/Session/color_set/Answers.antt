use Rattle.std.proofs.Common.{of_z, to_z, w32, refl}
use Rattle.cur_scripts.specs.declared.calls.Call.TheVariants.{Number}
use Rattle.cur_scripts.specs.declared.groups.NumberCall.TheVariants.{ColorSet}
use Rattle.cur_play.proofs.Plays.{kept_alone}
use Rattle.cur_play.proofs.sessions.Session.color_set.Goals as goal

pub invariant_of-self : goal.invariant_of-self
invariant_of-self g c =
    let s = c.self.inside in
    let x = c.number_call in
    kept_alone g.C.Certificate.table s.painter (Number ColorSet c.args.window (to_z w32 (of_z w32 c.args.pair))) s.desk x.new.desk s.screen _ x.result s.stale x.new.touched refl x.ensures.step x.ensures.touched c.self.invariant
