use Rattle.ti_cert.proofs.RowFacts.{row_found, no_row_with, no_row_named}
use Rattle.ti_cert.proofs.verification.row_of.Goals as goal

pub returns-in_err-named-clause-none : goal.returns-in_err-named-clause-none
returns-in_err-named-clause-none c = no_row_named c.args.cap c.name.result.now c.args.params.now c.from_residual.result c.name.ensures.value c.in_err-named.ensures.none

pub returns-clause-found : goal.returns-clause-found
returns-clause-found c = row_found c.in_ok-named.field-0 c.args.cap c.name.result.now c.args.params.now c.with_params.result c.in_ok-named.ensures.name c.name.ensures.back c.with_params.ensures

pub returns-clause-none : goal.returns-clause-none
returns-clause-none c = no_row_with c.in_ok-named.field-0 c.args.cap c.name.result.now c.args.params.now c.with_params.result c.in_ok-named.ensures.name c.name.ensures.back c.with_params.ensures
