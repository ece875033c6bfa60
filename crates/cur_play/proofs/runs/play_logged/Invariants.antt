use Rattle.std.proofs.Common.{◌≡◌, ◌≤◌, length}
use Rattle.std.specs.Prelude.{vec_capacity, vec_len}
use Rattle.cur_play.proofs.Logs.{Logged}
use Rattle.cur_play.specs.Log.{subject_of}
use Rattle.cur_play.proofs.runs.play_logged.Given as goal

abbrev pub invariant-loop-call : goal.invariant-loop-call
invariant-loop-call g l = record {
  played : Logged (subject_of g.W.Wire.went g.W.Wire.failures (g.C.Certificate.table l.fn.session.painter.checked) (g.C.Certificate.partners l.fn.session.painter.checked)) l.fn.wire.wire l.wire.wire l.wire.sent l.calls l.call-index l.session l.log.items;
  room : length l.calls ≤ vec_capacity l.log;
  count : vec_len l.log ≡ l.call-index;
  certificate : l.session.painter.checked ≡ l.fn.session.painter.checked;
}
