use Rattle.std.proofs.lemmas.Result.{err_from_is_err_and}
use Rattle.ti_source.specs.Fields.{add_cut, entry_on}
use Rattle.ti_source.specs.Layout.{cut_of}
use Rattle.ti_source.proofs.Entries.{fault_passes, begun_fails}
use Rattle.ti_source.proofs.draft.entry_on.Goals as goal

pub returns-in_err-add_parts-in-Some : goal.returns-in_err-add_parts-in-Some
returns-in_err-add_parts-in-Some c =
    let p = err_from_is_err_and c.from_residual-in_err-add_parts-in-Some.result c.from_residual-in_err-add_parts-in-Some.ensures.1 in
    let kind = c.in_err-add_parts-in-Some.field-0.0 in
    rw (p.1, p.2)
    (fault_passes kind (add_cut c.args.line c.in_ok-draft-in-Some.draft (cut_of c.in-Some.behind.now)) (entry_on c.args.line c.args.text.now)
    (λ e. begun_fails c.args.line c.args.text.now c.in-Some.names.now c.in-Some.behind.now c.in_ok-draft-in-Some.draft kind c.in-Some.ensures.found c.in_ok-draft-in-Some.ensures e)
    c.in_err-add_parts-in-Some.ensures)
