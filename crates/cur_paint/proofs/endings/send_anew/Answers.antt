use Rattle.std.proofs.lemmas.Result.{err_from_is_err_and}
use Rattle.cur_steps.proofs.Paints.{sends_then, stops_more}
use Rattle.cur_paint.specs.Finish.{end_text}
use Rattle.cur_paint.proofs.endings.send_anew.Goals as goal

pub returns-in_err-send_all : goal.returns-in_err-send_all
returns-in_err-send_all g c =
    let e = err_from_is_err_and c.from_residual.result c.from_residual.ensures.1 in
    let t = g.C.Certificate.table c.args.checked.now in
    rw e.1 (record { sends = stops_more g.W.Wire.went g.W.Wire.failures c.args.wire.now c.send_all.new.wire (t.resync) (end_text t) (rw c.resync.ensures.value at c.in_err-send_all.ensures.sends) })

pub returns : goal.returns
returns g c =
    let t = g.C.Certificate.table c.args.checked.now in
    record { sends = sends_then g.W.Wire.went g.W.Wire.failures g.met.W.Wire.lawful c.args.wire.now c.send_all.new.wire c.send_end.new.wire (t.resync) (end_text t) c.send_end.result (rw c.resync.ensures.value at c.in_ok-send_all.ensures.sends) c.send_end.ensures.sends }
