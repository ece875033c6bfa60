use Rattle.cur_windows.proofs.ViewFacts.{cols_of}
use Rattle.cur_windows.proofs.views.PartView.cols.Goals as goal

pub returns : goal.returns
returns c = λ y lt. cols_of c.self.inside.area _ c.args.self.now y c.self.view_is c.self.invariant.fits lt
