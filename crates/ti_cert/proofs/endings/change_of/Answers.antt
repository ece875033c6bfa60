use Rattle.std.proofs.Common.{sym, ◌∙◌}
use Rattle.std.proofs.lemmas.Result.{err_from_is_err_and}
use Rattle.ti_cert.specs.Table.{NoString, OfString}
use Rattle.ti_cert.specs.Audits.{NotRecorded}
use Rattle.ti_cert.proofs.AuditSteps.{not_split, recorded_for}
use Rattle.ti_cert.proofs.endings.change_of.Goals as goal

pub returns-in-None-clause-change : goal.returns-in-None-clause-change
returns-in-None-clause-change c = NoString (sym c.in-None.ensures)

pub returns-in_err-effect-in-Some-clause-fails : goal.returns-in_err-effect-in-Some-clause-fails
returns-in_err-effect-in-Some-clause-fails c =
    let p = err_from_is_err_and c.from_residual.result c.from_residual.ensures.1 in
    rw (p.1, p.2) (not_split c.args.strings.now c.args.row c.in-Some.bytes.now _ (sym c.in-Some.ensures) c.in_err-effect-in-Some.ensures.fails)

pub returns-in-Some-2-clause-change : goal.returns-in-Some-2-clause-change
returns-in-Some-2-clause-change c =
    let r = recorded_for _ _ _ _ c.args.row _ _ c.in_ok-effect-in-Some.ensures.record c.size.ensures.rows c.size.ensures.cols in
    OfString c.in-Some.bytes.now (sym c.in-Some.ensures) r.tokens r.splits c.in-Some-2.effect (sym r.is ∙ c.in-Some-2.is)

pub returns-in-None-2-clause-fails : goal.returns-in-None-2-clause-fails
returns-in-None-2-clause-fails c =
    let r = recorded_for _ _ _ _ c.args.row _ _ c.in_ok-effect-in-Some.ensures.record c.size.ensures.rows c.size.ensures.cols in
    NotRecorded c.args.row c.in-Some.bytes.now (sym c.in-Some.ensures) r.tokens r.splits (sym r.is ∙ c.in-None-2.is)
