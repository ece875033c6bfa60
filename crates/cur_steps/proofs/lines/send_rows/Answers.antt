use Rattle.std.proofs.Common.{[], arith, refl}
use Rattle.std.proofs.lemmas.Result.{err_from_is_err_and}
use Rattle.cur_steps.proofs.RowTexts.{sent_all, sent_more, sent_short}
use Rattle.cur_steps.proofs.lines.send_rows.Goals as goal

pub loop-row-init : goal.loop-row-init
loop-row-init g c = record { sent = []; goes = g.met.W.Wire.lawful.nothing c.args.wire.now; ahead = refl }

pub loop-row-preserved : goal.loop-row-preserved
loop-row-preserved g c =
    sent_more g.W.Wire.went g.W.Wire.failures g.met.W.Wire.lawful c.args.wire.now c.loop-row.wire c.send_row.new.wire (g.C.Certificate.table c.args.checked.now) c.args.rows.now c.loop-row.row-index _ c.loop-row-test.true c.loop-row.invariant c.in_ok-send_row.ensures.sends

pub returns-in_err-send_row : goal.returns-in_err-send_row
returns-in_err-send_row g c =
    let e = err_from_is_err_and c.from_residual.result c.from_residual.ensures.1 in
    rw e.1 (record { sends = sent_short g.W.Wire.went g.W.Wire.failures g.met.W.Wire.lawful c.args.wire.now c.loop-row.wire c.send_row.new.wire (g.C.Certificate.table c.args.checked.now) c.args.rows.now c.loop-row.row-index _ c.loop-row-test.true c.loop-row.invariant c.in_err-send_row.ensures.sends })

pub returns : goal.returns
returns g c =
    record { sends = sent_all g.W.Wire.went c.args.wire.now c.loop-row.wire (g.C.Certificate.table c.args.checked.now) c.args.rows.now c.loop-row.row-index (omega (arith, c.loop-row-test.false)) c.loop-row.invariant }
