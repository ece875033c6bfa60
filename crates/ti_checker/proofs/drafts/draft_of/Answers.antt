use Rattle.std.proofs.Common.{◌≡◌, sym, subst}
use Rattle.std.proofs.lemmas.Result.{err_from_is_err_and}
use Rattle.ti_checker.specs.No.{IsOfPart}
use Rattle.ti_checker.specs.declared.causes.Cause.TheVariants.{NoMemory}
use Rattle.ti_checker.proofs.BasicDrafts.{only_memory}
use Rattle.ti_checker.proofs.FitnessFacts.{each_written, full_text}
use Rattle.ti_checker.proofs.Together.{row_of_part}
use Rattle.ti_checker.proofs.drafts.draft_of.Goals as goal

pub returns-in-Ok-finished-clause-written : goal.returns-in-Ok-finished-clause-written
returns-in-Ok-finished-clause-written c = each_written c.args.entry.now c.args.size.rows c.args.size.cols c.push_caps.new.draft.text.items c.in_ok-push_caps.ensures.drafted

pub returns-in-Ok-finished-clause-text : goal.returns-in-Ok-finished-clause-text
returns-in-Ok-finished-clause-text c = full_text c.args.entry.now c.args.size.rows c.args.size.cols c.push_caps.new.draft.text.items c.in-Ok-finished.written.text.items c.in_ok-push_caps.ensures.drafted c.in-Ok-finished.ensures.text

pub returns-in_err-push_caps-clause-basic : goal.returns-in_err-push_caps-clause-basic
returns-in_err-push_caps-clause-basic c = λ basic.
    let e = err_from_is_err_and c.from_residual.result c.from_residual.ensures.1 in
    rw e.1 (subst (λ r. r.cause ≡ NoMemory) (sym e.2) (only_memory c.args.entry.now c.args.size.rows c.args.size.cols c.in_err-push_caps.field-0.0 c.args.size.limits basic c.in_err-push_caps.ensures.refused))

pub returns-in_err-push_caps-clause-refused : goal.returns-in_err-push_caps-clause-refused
returns-in_err-push_caps-clause-refused c =
    let e = err_from_is_err_and c.from_residual.result c.from_residual.ensures.1 in
    rw e.1 (subst (λ r. IsOfPart c.args.entry.now c.args.size.rows c.args.size.cols r) (sym e.2) (row_of_part c.args.entry.now c.args.size.rows c.args.size.cols c.in_err-push_caps.field-0.0 c.requires c.in_err-push_caps.ensures.refused))
