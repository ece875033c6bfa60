use Rattle.std.proofs.lemmas.Result.{err_from_is_err_and}
use Rattle.std.proofs.Common.{ℕ, arith, length-take}
use Rattle.std.proofs.lemmas.List.{length-drop}
use Rattle.cur_steps.proofs.Sends.{more_went, stopped}
use Rattle.cur_steps.proofs.wires.send_all.Goals as goal

pub returns-in_err-taken : goal.returns-in_err-taken
returns-in_err-taken g c =
    let e = err_from_is_err_and c.from_residual.result c.from_residual.ensures.1 in
    rw e.1 (record {
      sends = stopped g.W.Wire.went g.W.Wire.failures g.met.W.Wire.lawful _ c.loop-sent.wire _ c.args.bytes.now c.loop-sent.sent
          c.loop-sent-test.true c.loop-sent.invariant.out c.in_err-taken.ensures.part.unsent c.in_err-taken.ensures.part.failed;
    })

pub loop-sent-preserved : goal.loop-sent-preserved
loop-sent-preserved g c = record {
  within = omega (arith, c.in_ok-taken.ensures.part.within, length-take {A = ℕ}, length-drop {A = ℕ});
  out = more_went g.W.Wire.went g.W.Wire.failures g.met.W.Wire.lawful _ c.loop-sent.wire _ c.args.bytes.now c.loop-sent.sent c.in_ok-taken.taken
      c.loop-sent.invariant.out c.in_ok-taken.ensures.part.sent;
}
