use Rattle.cur_steps.proofs.Paints.{sends_then}
use Rattle.cur_steps.proofs.laws.sends_join.Goals as goal

pub returns : goal.returns
returns g c x y z m n answer = sends_then g.W.Wire.went g.W.Wire.failures g.met.W.Wire.lawful x y z m n answer
