use Rattle.std.proofs.Common.{[], sym, subst}
use Rattle.std.proofs.lemmas.Result.{err_from_is_err_and}
use Rattle.ti_checker.specs.No.{HasFaulty}
use Rattle.ti_checker.specs.Notes.{RowsNotes, IsFirstUnsent}
use Rattle.ti_checker.proofs.Additions.{no_rows, rows_more, faulty_unsent, first_unsent}
use Rattle.ti_checker.proofs.note_list.notes.Goals as goal

pub loop-place-init : goal.loop-place-init
loop-place-init c = subst (λ l. RowsNotes c.args.entry.now [] l) (sym c.new-notes.ensures.items) (no_rows c.args.entry.now)

pub loop-place-preserved : goal.loop-place-preserved
loop-place-preserved c = rows_more c.args.entry.now c.loop-place.place c.loop-place.notes.items c.push_notes_at.new.notes.items c.loop-place.invariant c.in_ok-push_notes_at.ensures.noted

pub returns-in_err-push_notes_at-clause-refused : goal.returns-in_err-push_notes_at-clause-refused
returns-in_err-push_notes_at-clause-refused c =
    let e = err_from_is_err_and c.from_residual.result c.from_residual.ensures.1 in
    rw e.1 (subst (λ r. HasFaulty c.args.entry.now c.args.size.rows c.args.size.cols r) (sym e.2) (faulty_unsent c.args.entry.now c.args.size.rows c.args.size.cols c.loop-place.place c.in_err-push_notes_at.field-0.0 c.args.size.limits c.in_err-push_notes_at.ensures.unsent))

pub returns-in_err-push_notes_at-clause-first : goal.returns-in_err-push_notes_at-clause-first
returns-in_err-push_notes_at-clause-first c =
    let e = err_from_is_err_and c.from_residual.result c.from_residual.ensures.1 in
    rw e.1 (subst (λ r. IsFirstUnsent c.args.entry.now r) (sym e.2) (first_unsent c.args.entry.now c.loop-place.place c.loop-place.notes.items c.in_err-push_notes_at.field-0.0 c.loop-place.invariant c.in_err-push_notes_at.ensures.unsent))
