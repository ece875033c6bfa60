use Rattle.std.proofs.Common.{◌∙◌, length, refl, ap, arith}
use Rattle.cur_play.proofs.Logs.{log_call, log_none, log_whole, next_call, none_counted}
use Rattle.cur_play.specs.Log.{subject_of}
use Rattle.cur_play.proofs.runs.play_logged.Goals as goal

pub loop-call-init : goal.loop-call-init
loop-call-init g c =
    let given = c.args.session.painter.checked in
    record {
      played = log_none (subject_of g.W.Wire.went g.W.Wire.failures (g.C.Certificate.table given) (g.C.Certificate.partners given)) g.met.W.Wire.lawful c.args.wire.now.wire c.args.wire.now.sent c.args.calls.now c.args.session c.args.log.items
          c.requires.none c.requires.scene (ap length c.requires.empty);
      room = c.requires.room;
      count = c.requires.len;
      certificate = refl;
    }

pub loop-call-preserved : goal.loop-call-preserved
loop-call-preserved g c =
    let items = rw c.unwrap.ensures at c.push.ensures.items in
    let len = rw c.unwrap.ensures at c.push.ensures.len in
    let before = c.loop-call.invariant in
    record {
      played = rw items (log_call g.W.Wire.went g.W.Wire.failures (λ a. Unit {0}) g.met.W.Wire.lawful (λ x. x.wire) (λ x. x.sent) c.args.wire.now.wire c.loop-call.wire c.call-answer.new.wire c.call-answer.new.wire g.C.Certificate.table g.C.Certificate.partners
          c.args.session.painter.checked c.args.calls.now c.loop-call.call-index c.call-item.result c.loop-call.session c.call-answer.new.self c.loop-call.log.items c.call-answer.result
          before.played (omega (arith, c.loop-call.log.small, c.loop-call.log.ok, before.room, c.loop-call-test.true))
          (next_call c.args.calls.now c.loop-call.call-index c.call-item.result c.loop-call-test.true c.call-item.is) before.certificate c.call-answer.ensures.certificate
          c.call-answer.ensures.step c.call-answer.ensures.stage c.call-answer.ensures.checked c.call-answer.ensures.carries
          (none_counted g.W.Wire.went g.W.Wire.failures g.met.W.Wire.lawful c.call-answer.new.wire.wire c.call-answer.new.wire.sent) tt);
      room = omega (arith, before.room, c.push.ensures.capacity);
      count = omega (arith, len, before.count);
      certificate = c.call-answer.ensures.certificate ∙ before.certificate;
    }

pub returns : goal.returns
returns g c =
    let given = c.args.session.painter.checked in
    record {
      ran = log_whole (subject_of g.W.Wire.went g.W.Wire.failures (g.C.Certificate.table given) (g.C.Certificate.partners given)) g.met.W.Wire.lawful c.args.wire.now.wire c.loop-call.wire.wire c.loop-call.wire.sent c.args.calls.now c.loop-call.call-index c.loop-call.session c.loop-call.log.items
          (omega (arith, c.loop-call-test.false, c.loop-call.auto.call-index-end)) c.loop-call.invariant.played;
    }
