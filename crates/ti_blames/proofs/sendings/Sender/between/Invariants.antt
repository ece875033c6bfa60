use Rattle.std.proofs.Common.{◌≤◌, IfSome}
use Rattle.ti_parm.specs.Value.{values_of}
use Rattle.ti_blames.specs.Sendings.{HasSent}
use Rattle.ti_blames.proofs.sendings.Sender.between.Given as goal

-- up to these two cuts, where they are there, none of the bytes is sent
abbrev pub invariant-loop-cut : goal.invariant-loop-cut
invariant-loop-cut l =
    IfSome l.before (λ cut. HasSent l.fn.self.string.now (values_of l.fn.self.params.now) l.fn.self.bytes.now cut.place cut.count × cut.count ≤ l.bytes.from)
    × IfSome l.start (λ cut. HasSent l.fn.self.string.now (values_of l.fn.self.params.now) l.fn.self.bytes.now cut.place cut.count × cut.count ≤ l.bytes.from)
