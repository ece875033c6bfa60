use Rattle.std.proofs.Common.{inl}
use Rattle.std.proofs.lemmas.Result.{err_from_is_err_and}
use Rattle.ti_commands.proofs.descriptions.print_entry.Goals as goal

pub returns-in_err-entry-clause-failure : goal.returns-in_err-entry-clause-failure
returns-in_err-entry-clause-failure g c =
    let p = err_from_is_err_and c.from_residual.result c.from_residual.ensures.1 in
    rw (p.1, p.2) (inl c.in_err-entry.ensures.failure)
