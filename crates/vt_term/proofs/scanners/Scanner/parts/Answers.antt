use Rattle.std.proofs.Common.{sym}
use Rattle.vt_term.proofs.Starts.{cut_ignored}
use Rattle.vt_term.proofs.scanners.Scanner.parts.Goals as goal

pub returns-in-None : goal.returns-in-None
returns-in-None c = cut_ignored c.args.self.now c.self.inside.parser c.self.inside.last c.in-None.is c.self.invariant (sym c.self.view_is)
