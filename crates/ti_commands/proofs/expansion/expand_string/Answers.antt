use Rattle.std.proofs.Common.{ap, refl}
use Rattle.std.proofs.lemmas.Result.{err_from_is_err_and}
use Rattle.ti_parm.specs.Value.{values_of}
use Rattle.ti_commands.specs.Expansions.{Asked}
use Rattle.ti_commands.proofs.Expansions.{escape_told, expanded, given_as, sending_told, size_told}
use Rattle.ti_commands.proofs.expansion.expand_string.Goals as goal

pub returns-in_err-size-clause-failure : goal.returns-in_err-size-clause-failure
returns-in_err-size-clause-failure c =
    let asked : Asked c.args.words.now = record { rows = c.in_ok-rows.rows; cols = c.in_ok-cols.cols; values = values_of c.in_ok-params.params.items; gives_rows = c.in_ok-rows.ensures.number; gives_cols = c.in_ok-cols.ensures.number; gives_params = given_as _ _ _ c.as_slice.ensures.value c.in_ok-params.ensures.params } in
    let p = err_from_is_err_and c.from_residual-in_err-size.result c.from_residual-in_err-size.ensures.1 in
    rw (p.1, p.2) (size_told c.args.words.now asked c.in_err-size.field-0.0 c.in_err-size.ensures.within.1 c.in_err-size.ensures.refusal)

pub returns-in-Err-clause-failure : goal.returns-in-Err-clause-failure
returns-in-Err-clause-failure c =
    let asked : Asked c.args.words.now = record { rows = c.in_ok-rows.rows; cols = c.in_ok-cols.cols; values = values_of c.in_ok-params.params.items; gives_rows = c.in_ok-rows.ensures.number; gives_cols = c.in_ok-cols.ensures.number; gives_params = given_as _ _ _ c.as_slice.ensures.value c.in_ok-params.ensures.params } in
    escape_told c.args.words.now asked c.as_bytes.result.now c.in-Err.fault c.escape_failure.result (c.in_ok-size.ensures.within.0 refl) c.as_bytes.ensures.value c.in-Err.ensures.fault c.escape_failure.ensures

pub returns-in_err-sent-clause-failure : goal.returns-in_err-sent-clause-failure
returns-in_err-sent-clause-failure c =
    let asked : Asked c.args.words.now = record { rows = c.in_ok-rows.rows; cols = c.in_ok-cols.cols; values = values_of c.in_ok-params.params.items; gives_rows = c.in_ok-rows.ensures.number; gives_cols = c.in_ok-cols.ensures.number; gives_params = given_as _ _ _ c.as_slice.ensures.value c.in_ok-params.ensures.params } in
    let p = err_from_is_err_and c.from_residual-in_err-sent.result c.from_residual-in_err-sent.ensures.1 in
    rw (p.1, p.2) (sending_told c.args.words.now asked c.as_bytes.result.now c.in-Ok.string.items c.as_slice-2.result.now c.as_slice-3.result.now c.in_err-sent.field-0.0 (c.in_ok-size.ensures.within.0 refl) c.as_bytes.ensures.value c.in-Ok.ensures.bytes c.as_slice-2.ensures.value (ap values_of c.as_slice-3.ensures) c.in_err-sent.ensures.failure)

pub returns-clause-reply : goal.returns-clause-reply
returns-clause-reply c =
    let asked : Asked c.args.words.now = record { rows = c.in_ok-rows.rows; cols = c.in_ok-cols.cols; values = values_of c.in_ok-params.params.items; gives_rows = c.in_ok-rows.ensures.number; gives_cols = c.in_ok-cols.ensures.number; gives_params = given_as _ _ _ c.as_slice.ensures.value c.in_ok-params.ensures.params } in
    expanded c.args.words.now asked c.as_bytes.result.now c.in-Ok.string.items c.as_slice-2.result.now c.as_slice-4.result.now c.as_slice-3.result.now c.in_ok-sent.sent.items c.as_slice-5.result.now c.in_ok-size.size.rows c.in_ok-size.size.cols c.in_ok-shown.shown
    (c.in_ok-size.ensures.within.0 refl) c.as_bytes.ensures.value c.in-Ok.ensures.bytes c.as_slice-2.ensures.value (ap values_of c.as_slice-3.ensures) c.in_ok-sent.ensures.bytes c.as_slice-4.ensures.value c.as_slice-5.ensures.value c.in_ok-size.ensures.size.0 c.in_ok-size.ensures.size.1 c.in_ok-shown.ensures
