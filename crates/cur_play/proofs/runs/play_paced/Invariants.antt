use Rattle.std.proofs.Common.{◌≡◌, ◌<◌, []}
use Rattle.cur_play.proofs.Logs.{LoggedSome}
use Rattle.cur_play.specs.Log.{paced_subject_of}
use Rattle.cur_play.proofs.runs.play_paced.Given as goal

abbrev pub invariant-loop-call : goal.invariant-loop-call
invariant-loop-call g l = record {
  played : LoggedSome (paced_subject_of g.W.Wire.went g.W.Wire.failures g.W.Paced.held (g.C.Certificate.table l.fn.session.painter.checked) (g.C.Certificate.partners l.fn.session.painter.checked)) l.fn.wire.wire l.wire.wire l.wire.sent l.calls l.call-index l.session;
  certificate : l.session.painter.checked ≡ l.fn.session.painter.checked;
  left : 0 < l.call-index → g.W.Paced.held l.wire.wire.now ≡ [];
}
