use Rattle.std.proofs.Common.{◌≡◌, ◌∙◌, ◌++◌, ◌∷◌, [], refl, arith}
use Rattle.cur_play.proofs.Logs.{log_call, log_none, log_whole, next_call}
use Rattle.cur_play.specs.Log.{paced_subject_of}
use Rattle.cur_play.proofs.runs.play_paced.Goals as goal

pub loop-call-init : goal.loop-call-init
loop-call-init g c =
    let given = c.args.session.painter.checked in
    record {
      played = record {
        log = [];
        logged = log_none (paced_subject_of g.W.Wire.went g.W.Wire.failures g.W.Paced.held (g.C.Certificate.table given) (g.C.Certificate.partners given)) g.met.W.Wire.lawful c.args.wire.now.wire c.args.wire.now.sent c.args.calls.now c.args.session []
            c.requires.none c.requires.scene refl;
      };
      certificate = refl;
      left = λ some. absurd (omega (arith, some));
    }

pub loop-call-preserved : goal.loop-call-preserved
loop-call-preserved g c =
    let before = c.loop-call.invariant in
    record {
      played = record {
        log = before.played.log ++ record { answer = c.call-answer.result; sent = c.pass_on.new.wire.sent } ∷ [];
        logged = log_call g.W.Wire.went g.W.Wire.failures (λ a. g.W.Paced.held a ≡ []) g.met.W.Wire.lawful (λ x. x.wire) (λ x. x.sent) c.args.wire.now.wire c.loop-call.wire c.call-answer.new.wire c.pass_on.new.wire g.C.Certificate.table g.C.Certificate.partners
            c.args.session.painter.checked c.args.calls.now c.loop-call.call-index c.call-item.result c.loop-call.session c.call-answer.new.self before.played.log c.call-answer.result
            before.played.logged (omega (arith, c.well_formed.1.0.0, c.loop-call-test.true))
            (next_call c.args.calls.now c.loop-call.call-index c.call-item.result c.loop-call-test.true c.call-item.is) before.certificate c.call-answer.ensures.certificate
            c.call-answer.ensures.step c.call-answer.ensures.stage c.call-answer.ensures.checked c.call-answer.ensures.carries c.pass_on.ensures.none_more c.pass_on.ensures.emptied;
      };
      certificate = c.call-answer.ensures.certificate ∙ before.certificate;
      left = λ some. c.pass_on.ensures.emptied;
    }

pub returns : goal.returns
returns g c =
    let given = c.args.session.painter.checked in
    let all = log_whole (paced_subject_of g.W.Wire.went g.W.Wire.failures g.W.Paced.held (g.C.Certificate.table given) (g.C.Certificate.partners given)) g.met.W.Wire.lawful c.args.wire.now.wire c.loop-call.wire.wire c.loop-call.wire.sent c.args.calls.now c.loop-call.call-index c.loop-call.session c.loop-call.invariant.played.log
    (omega (arith, c.loop-call-test.false, c.loop-call.auto.call-index-end)) c.loop-call.invariant.played.logged in
    record {
      ran = record { ran = record { log = c.loop-call.invariant.played.log; ran = all.ran }; same = all.same };
      left = λ some. c.loop-call.invariant.left (omega (arith, some, c.loop-call-test.false, c.loop-call.auto.call-index-end));
    }
