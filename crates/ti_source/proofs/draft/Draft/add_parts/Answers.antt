use Rattle.std.proofs.Common.{sym, ◌∙◌, subst}
use Rattle.std.proofs.lemmas.Result.{err_from_is_err_and}
use Rattle.ti_source.specs.Fields.{add_field, add_cut}
use Rattle.ti_source.specs.Layout.{cut_of}
use Rattle.ti_source.specs.Source.{Gives}
use Rattle.ti_source.proofs.Entries.{fault_passes, cut_more, cut_fails, cut_last}
use Rattle.ti_source.proofs.draft.Draft.add_parts.Goals as goal

pub returns-in_err-add_part : goal.returns-in_err-add_part
returns-in_err-add_part c =
    let p = err_from_is_err_and c.from_residual.result c.from_residual.ensures.1 in
    let kind = c.in_err-add_part.field-0.0 in
    rw (p.1, p.2)
    (fault_passes kind (add_field c.args.line c.loop-part.self c.in-Some.part.now) (add_cut c.args.line c.args.self.now (cut_of c.args.text.now))
    (λ e. sym c.loop-part.invariant ∙ cut_fails c.args.line c.loop-part.self kind c.in-Some.part.now c.loop-part.rest.now c.in-Some.behind.now c.in-Some.ensures.found e)
    c.in_err-add_part.ensures)

pub loop-part-preserved : goal.loop-part-preserved
loop-part-preserved c =
    sym (cut_more c.args.line c.loop-part.self c.add_part.new.self c.in-Some.part.now c.loop-part.rest.now c.in-Some.behind.now c.in-Some.ensures.found c.in_ok-add_part.ensures)
    ∙ c.loop-part.invariant

pub returns : goal.returns
returns c =
    subst (λ read. Gives (λ _. c.loop-part.self) c.add_last.result read)
    (sym (cut_last c.args.line c.loop-part.self c.loop-part.rest.now c.in_default.ensures.none) ∙ c.loop-part.invariant) c.add_last.ensures
