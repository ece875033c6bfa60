use Rattle.std.proofs.Common.{inl, ap}
use Rattle.std.proofs.lemmas.Result.{err_from_is_err_and}
use Rattle.ti_cert.specs.declared.audits.Progress.{Progress}
use Rattle.ti_cert.proofs.AuditSteps.{recorded_for, row_misplaced_at, row_cut_at, row_misshows_at, row_stands_at}
use Rattle.ti_cert.proofs.audits.Progress.judge_row.Goals as goal

pub returns-in_err-check-clause-err : goal.returns-in_err-check-clause-err
returns-in_err-check-clause-err c =
    let p = err_from_is_err_and c.from_residual.result c.from_residual.ensures.1 in
    rw (p.1, p.2) (inl (row_misplaced_at c.args.self.now c.args.line _ _ c.self.view_is c.in_err-check.ensures.fails))

pub returns-in_err-found-clause-err : goal.returns-in_err-found-clause-err
returns-in_err-found-clause-err c =
    let p = err_from_is_err_and c.from_residual-in_err-found.result c.from_residual-in_err-found.ensures.1 in
    rw (p.1, p.2) (row_cut_at c.args.self.now c.args.line _ _ c.as_slice-bytes.result.now c.self.view_is c.as_slice-bytes.ensures c.in_ok-check.ensures.passes c.in_err-found.ensures.fails)

pub returns-in_err-effect-clause-err : goal.returns-in_err-effect-clause-err
returns-in_err-effect-clause-err c =
    let p = err_from_is_err_and c.from_residual-in_err-effect.result c.from_residual-in_err-effect.ensures.1 in
    let r = recorded_for _ _ _ _ c.args.line.row _ _ c.in_ok-found.ensures.record c.size.ensures.rows c.size.ensures.cols in
    rw (p.1, p.2) (inl (row_misshows_at c.args.self.now c.args.line _ _ _ c.as_slice-bytes.result.now r.tokens c.self.view_is (ap (λ (x : Progress). x.known) c.self.view_is) c.as_slice-bytes.ensures c.in_ok-check.ensures.passes
    r.splits (c.in_err-effect.ensures.fails r.tokens r.is)))

pub add-requires-clause-record : goal.add-requires-clause-record
add-requires-clause-record c =
    let r = recorded_for _ _ _ _ c.args.line.row _ _ c.in_ok-found.ensures.record c.size.ensures.rows c.size.ensures.cols in
    record { tokens = r.tokens; whole = r.splits; has = c.in_ok-effect.ensures.record r.tokens r.is }

pub returns-in_err-add-clause-err : goal.returns-in_err-add-clause-err
returns-in_err-add-clause-err c =
    let p = err_from_is_err_and c.from_residual-in_err-add.result c.from_residual-in_err-add.ensures.1 in
    rw (p.1, p.2) (row_cut_at c.args.self.now c.args.line _ _ c.as_slice-bytes.result.now c.self.view_is c.as_slice-bytes.ensures c.in_ok-check.ensures.passes c.in_err-add.ensures.fails)

pub returns-clause-ok : goal.returns-clause-ok
returns-clause-ok c =
    let r = recorded_for _ _ _ _ c.args.line.row _ _ c.in_ok-found.ensures.record c.size.ensures.rows c.size.ensures.cols in
    row_stands_at c.args.self.now c.args.line _ _ c.as_slice-bytes.result.now r.tokens c.in_ok-effect.effect c.in_ok-effect.looks c.add.new.self c.self.view_is (ap (λ (x : Progress). x.known) c.self.view_is) c.as_slice-bytes.ensures
    c.in_ok-check.ensures.passes r.splits (c.in_ok-effect.ensures.record r.tokens r.is) c.in_ok-effect.ensures.stated c.in_ok-effect.ensures.looks
    c.in_ok-add.ensures.strings c.in_ok-add.ensures.looks c.in_ok-add.ensures.holds c.after-self.result.last c.after-self.ensures c.add.new.scanner c.args.line.bytes
