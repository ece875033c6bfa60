use Rattle.ti_cert.proofs.Together.{found_by}
use Rattle.ti_cert.proofs.clashes.clashes_of.Goals as goal

pub returns : goal.returns
returns c = found_by c.args.settled.now c.args.smacs c.args.rmacs c.args.sent c.args.escapes c.misled.result c.misled-2.result c.is_plain.result
    c.misled.ensures.none c.misled.ensures.some c.misled-2.ensures.none c.misled-2.ensures.some c.is_plain.ensures.yes c.is_plain.ensures.no
