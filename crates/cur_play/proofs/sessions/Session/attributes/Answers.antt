use Rattle.std.proofs.Common.{refl}
use Rattle.cur_scripts.specs.declared.calls.Call.TheVariants.{Attributes}
use Rattle.cur_play.proofs.GridFacts.{keeps_attributes}
use Rattle.cur_play.proofs.Plays.{kept_alone}
use Rattle.cur_play.proofs.sessions.Session.attributes.Goals as goal

pub invariant_of-self : goal.invariant_of-self
invariant_of-self g c =
    let s = c.self.inside in
    let x = c.attributes in
    kept_alone g.C.Certificate.table s.painter (Attributes c.args.call c.args.window c.args.attrs) s.desk x.new.desk s.screen _ x.result s.stale s.stale.window refl x.ensures (keeps_attributes s.stale.window c.args.call s.desk x.new.desk c.args.window c.args.attrs x.result x.ensures) c.self.invariant
