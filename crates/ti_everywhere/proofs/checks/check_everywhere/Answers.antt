use Rattle.std.proofs.Common.{inl}
use Rattle.std.proofs.lemmas.Result.{err_from_is_err_and}
use Rattle.ti_files.specs.declared.failure.Reply.{Reply}
use Rattle.ti_everywhere.specs.Checks.{EndsFor, IsChecked}
use Rattle.ti_everywhere.proofs.Results.{map_ok}
use Rattle.ti_everywhere.proofs.checks.check_everywhere.Goals as goal

pub returns-in_err-entry-clause-failure : goal.returns-in_err-entry-clause-failure
returns-in_err-entry-clause-failure g c =
    let p = err_from_is_err_and c.from_residual.result c.from_residual.ensures.1 in
    rw (p.1, p.2) (inl c.in_err-entry.ensures.failure)

pub returns-clause-reply : goal.returns-clause-reply
returns-clause-reply g c =
    let entry = c.in_ok-entry.field-0.entry in
    map_ok c.reply_of.result (λ (reply : Reply). EndsFor entry reply.failure) (λ (reply : Reply). IsChecked (g.F.Files.holds c.args.files.now) c.args.word.now reply)
    (λ reply ends. record { entry = entry; gives = c.in_ok-entry.ensures.gives; ends = ends }) (c.reply_of.ensures.reply entry c.in_ok-answer.ensures)
