use Rattle.std.proofs.Common.{ap, inl, inr, subst}
use Rattle.std.proofs.lemmas.Result.{err_from_is_err_and}
use Rattle.ti_files.specs.Contents.{Held}
use Rattle.ti_commands.specs.Findings.{LacksEntry}
use Rattle.ti_commands.proofs.Comparisons.{compared}
use Rattle.ti_commands.proofs.descriptions.compare_entries.Goals as goal

pub returns-in_err-one-clause-failure : goal.returns-in_err-one-clause-failure
returns-in_err-one-clause-failure g c =
    let p = err_from_is_err_and c.from_residual.result c.from_residual.ensures.1 in
    rw (p.1, p.2) (inl c.in_err-one.ensures.failure)

pub returns-in_err-other-clause-failure : goal.returns-in_err-other-clause-failure
returns-in_err-other-clause-failure g c =
    let p = err_from_is_err_and c.from_residual-in_err-other.result c.from_residual-in_err-other.ensures.1 in
    let lacks = subst (λ (h : Held). LacksEntry h c.args.second.now c.in_err-other.field-0.0) c.entry_of.ensures.kept c.in_err-other.ensures.failure in
    rw (p.1, p.2) (inr (inl (record { one = c.in_ok-one.one; gives_one = c.in_ok-one.ensures.entry; lacks = lacks })))

pub returns-clause-reply : goal.returns-clause-reply
returns-clause-reply g c =
    compared (g.F.Files.holds c.args.files.now) (g.F.Files.holds c.entry_of.new.files) c.args.first.now c.args.second.now c.args.comparison c.in_ok-one.one c.in_ok-other.other c.in_ok-text.text.items c.of_text.result
    c.in_ok-one.ensures.entry c.entry_of.ensures.kept c.in_ok-other.ensures.entry c.in_ok-text.ensures c.of_text.ensures.notes (ap (λ v. v.items) c.of_text.ensures.text) c.of_text.ensures.failure
