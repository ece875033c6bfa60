use Rattle.ti_parm.proofs.Params.{first-nine}
use Rattle.ti_parm.proofs.param.Params.new.Goals as goal

pub returns : goal.returns
returns c = rw (c.given_or_zero.ensures, c.given_or_zero-2.ensures) (first-nine c.args.given.now)
