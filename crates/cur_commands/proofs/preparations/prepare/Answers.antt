use Rattle.std.proofs.Common.{inl, inr, subst}
use Rattle.std.proofs.lemmas.Result.{err_from_is_err_and}
use Rattle.ti_files.specs.Contents.{Held}
use Rattle.cur_commands.specs.Verifications.{LacksCertificate}
use Rattle.cur_commands.proofs.preparations.prepare.Goals as goal

pub returns-in_err-entry-clause-failure : goal.returns-in_err-entry-clause-failure
returns-in_err-entry-clause-failure g c =
    let p = err_from_is_err_and c.from_residual-in_err-entry.result c.from_residual-in_err-entry.ensures.1 in
    rw (p.1, p.2) (inl (inr (inl (record { sized = (c.in_ok-size.size.rows, c.in_ok-size.size.cols, c.in_ok-size.ensures.size); lacks = c.in_err-entry.ensures.failure }))))

pub returns-in_err-checked-clause-failure : goal.returns-in_err-checked-clause-failure
returns-in_err-checked-clause-failure g c =
    let p = err_from_is_err_and c.from_residual-in_err-checked.result c.from_residual-in_err-checked.ensures.1 in
    rw (p.1, p.2) (inl (inr (inr (record { height = c.in_ok-size.size.rows; width = c.in_ok-size.size.cols; given = c.in_ok-size.ensures.size; entry = c.in_ok-entry.entry; gives = c.in_ok-entry.ensures.entry; lacks = subst (λ (held : Held). LacksCertificate (held.at c.args.words.now.certificate.now) c.in_ok-size.size.rows c.in_ok-size.size.cols c.in_ok-entry.entry c.args.words.now.certificate.now c.in_err-checked.field-0.0) c.entry_of.ensures.kept c.in_err-checked.ensures.failure }))))
