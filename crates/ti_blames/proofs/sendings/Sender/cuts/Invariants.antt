use Rattle.ti_parm.specs.Value.{values_of}
use Rattle.ti_blames.specs.Sendings.{AreCuts}
use Rattle.ti_blames.proofs.sendings.Sender.cuts.Given as goal

-- each cut so far is one
abbrev pub invariant-loop-code : goal.invariant-loop-code
invariant-loop-code l = AreCuts l.fn.self.string.now (values_of l.fn.self.params.now) l.fn.self.bytes.now l.cuts.items
