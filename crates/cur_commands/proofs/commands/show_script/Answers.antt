use Rattle.std.proofs.Common.{inl, inr, refl, ap}
use Rattle.std.proofs.lemmas.Result.{err_from_is_err_and}
use Rattle.cur_commands.proofs.Endings.{given_by, shown_at}
use Rattle.cur_commands.proofs.commands.show_script.Goals as goal

pub returns-in_err-ready-clause-failure : goal.returns-in_err-ready-clause-failure
returns-in_err-ready-clause-failure g c =
    let p = err_from_is_err_and c.from_residual.result c.from_residual.ensures.1 in
    rw (p.1, p.2) (inl c.in_err-ready.ensures.failure)

pub returns-in_err-text-clause-failure : goal.returns-in_err-text-clause-failure
returns-in_err-text-clause-failure g c =
    let p = err_from_is_err_and c.from_residual-in_err-text.result c.from_residual-in_err-text.ensures.1 in
    let r = c.in_ok-ready.ready in
    rw (p.1, p.2) (inr (inr (record {
      given = given_by (g.F.Files.holds c.args.files.now) c.args.words.now r.size.rows r.size.cols r.checked r.text.items c.as_slice.result.now c.in_ok-calls.calls.items c.as_slice-2.result.now
          c.in_ok-ready.ensures.ready c.as_slice.ensures.value c.in_ok-calls.ensures.calls c.as_slice-2.ensures.value;
      lacks = refl;
    })))

pub returns-clause-reply : goal.returns-clause-reply
returns-clause-reply g c =
    let r = c.in_ok-ready.ready in
    record {
      given = given_by (g.F.Files.holds c.args.files.now) c.args.words.now r.size.rows r.size.cols r.checked r.text.items c.as_slice.result.now c.in_ok-calls.calls.items c.as_slice-2.result.now
          c.in_ok-ready.ensures.ready c.as_slice.ensures.value c.in_ok-calls.ensures.calls c.as_slice-2.ensures.value;
      text = c.in_ok-text.text.items;
      shows = shown_at _ _ _ _ r.size.rows r.size.cols c.as_slice-2.result.now c.in_ok-text.text.items c.in_ok-ready.ensures.ready.hands_out.rows c.in_ok-ready.ensures.ready.hands_out.cols c.in_ok-text.ensures;
      says = record { no_notes = c.of_text.ensures.notes; says = ap (λ v. v.items) c.of_text.ensures.text; done = c.of_text.ensures.failure };
    }
