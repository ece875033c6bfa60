use Rattle.std.proofs.Common.{inl, inr}
use Rattle.std.proofs.lemmas.Result.{err_from_is_err_and}
use Rattle.cur_commands.proofs.Endings.{given_by}
use Rattle.cur_commands.proofs.commands.play_script.Goals as goal

pub returns-in_err-ready-clause-failure : goal.returns-in_err-ready-clause-failure
returns-in_err-ready-clause-failure g c =
    let p = err_from_is_err_and c.from_residual.result c.from_residual.ensures.1 in
    rw (p.1, p.2) (inl c.in_err-ready.ensures.failure)

pub returns-in_err-play_calls-clause-failure : goal.returns-in_err-play_calls-clause-failure
returns-in_err-play_calls-clause-failure g c =
    let p = err_from_is_err_and c.from_residual-in_err-play_calls.result c.from_residual-in_err-play_calls.ensures.1 in
    let r = c.in_ok-ready.ready in
    rw (p.1, p.2) (inr (inr (record {
      given = given_by (g.F.Files.holds c.args.files.now) c.args.words.now r.size.rows r.size.cols r.checked r.text.items c.as_slice.result.now c.in_ok-calls.calls.items c.as_slice-2.result.now
          c.in_ok-ready.ensures.ready c.as_slice.ensures.value c.in_ok-calls.ensures.calls c.as_slice-2.ensures.value;
      unplayed = c.in_err-play_calls.ensures.failure;
    })))

pub returns-clause-played : goal.returns-clause-played
returns-clause-played g c =
    let r = c.in_ok-ready.ready in
    record {
      given = given_by (g.F.Files.holds c.args.files.now) c.args.words.now r.size.rows r.size.cols r.checked r.text.items c.as_slice.result.now c.in_ok-calls.calls.items c.as_slice-2.result.now
          c.in_ok-ready.ensures.ready c.as_slice.ensures.value c.in_ok-calls.ensures.calls c.as_slice-2.ensures.value;
      ran = c.in_ok-play_calls.ensures.ran;
    }
