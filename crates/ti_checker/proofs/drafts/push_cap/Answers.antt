use Rattle.std.proofs.Common.{refl, sym, subst, ◌∙◌}
use Rattle.ti_rows.specs.Names.{order}
use Rattle.ti_rows.proofs.ListFacts.{next_follows}
use Rattle.ti_conforms.proofs.Walks.{nearer}
use Rattle.ti_checker.specs.Kept.{every}
use Rattle.ti_checker.specs.No.{IsRowRefused}
use Rattle.ti_checker.specs.declared.causes.Cause.{Cause}
use Rattle.ti_conforms.specs.Looks.{no_looks}
use Rattle.ti_checker.specs.Taught.{AtFirst}
use Rattle.ti_checker.proofs.Earliest.{one_more, before_first, before_next, after_last, unchecked_cap, refused_row}
use Rattle.ti_checker.proofs.Settled.{seen_too, seen_first, seen_next, seen_last, seen_unsent_cap}
use Rattle.ti_checker.proofs.Walks.{same_string}
use Rattle.ti_conforms.proofs.Matches.{same_checked}
use Rattle.ti_checker.proofs.drafts.push_cap.Goals as goal

pub returns-in_default-clause-drafted : goal.returns-in_default-clause-drafted
returns-in_default-clause-drafted c = unchecked_cap c.args.entry.now c.args.size.rows c.args.size.cols (order c.args.first) c.args.first c.args.draft.now.text.items refl
    c.in_default.ensures.none c.requires.drafted

pub returns-in_default-clause-seen : goal.returns-in_default-clause-seen
returns-in_default-clause-seen c = seen_unsent_cap c.args.entry.now c.args.size.rows c.args.size.cols every c.args.first c.args.draft.now.seen.reach c.args.draft.now.seen.changes.items c.in_default.ensures.none c.requires.seen

pub loop-cause-init : goal.loop-cause-init
loop-cause-init c = record {
  range = c.requires.first.range;
  same = refl;
  taught = AtFirst c.args.first no_looks c.requires.first refl;
  seen = seen_first c.args.entry.now c.args.size.rows c.args.size.cols every c.args.first c.args.draft.now.seen.reach c.args.draft.now.seen.changes.items c.requires.first c.requires.seen;
  drafted = before_first c.args.entry.now c.args.size.rows c.args.size.cols c.args.first c.args.draft.now.text.items c.requires.first c.requires.drafted;
}

pub returns-in-Err-clause-refused : goal.returns-in-Err-clause-refused
returns-in-Err-clause-refused c = refused_row c.args.entry.now c.args.size.rows c.args.size.cols c.in-Some.string.now c.loop-cause.row c.loop-cause.draft.text.items c.at.result c.loop-cause.invariant.range (same_checked c.args.entry.now c.loop-cause.row c.args.first c.loop-cause.invariant.same ∙ c.in-Some.ensures.checked)
    (same_string c.args.entry.now c.loop-cause.row c.args.first c.loop-cause.invariant.same ∙ c.in-Some.ensures.there) c.at.ensures.cap c.at.ensures.params (subst (λ (cause : Cause). IsRowRefused c.args.size.rows c.args.size.cols c.in-Some.string.now c.loop-cause.row c.loop-cause.draft.text.items cause) (sym c.at.ensures.cause) c.in-Err.ensures.refused)
    c.loop-cause.invariant.drafted

pub loop-cause-smaller : goal.loop-cause-smaller
loop-cause-smaller c =
    let f = next_follows c.args.size.rows c.args.size.cols c.loop-cause.row c.in-Some-next.next c.args.size.limits c.loop-cause.invariant.range (sym c.in-Some-next.ensures) in
    nearer c.args.size.rows c.args.size.cols c.loop-cause.row c.in-Some-next.next c.args.size.limits f f.range

pub loop-cause-preserved : goal.loop-cause-preserved
loop-cause-preserved c =
    let f = next_follows c.args.size.rows c.args.size.cols c.loop-cause.row c.in-Some-next.next c.args.size.limits c.loop-cause.invariant.range (sym c.in-Some-next.ensures) in
    record {
      range = f.range;
      same = f.same_order ∙ c.loop-cause.invariant.same;
      taught = c.in-Ok.ensures.taught c.in-Some-next.next f;
      seen = seen_next c.args.entry.now c.args.size.rows c.args.size.cols every c.loop-cause.row c.in-Some-next.next c.push_row.new.draft.seen.reach c.push_row.new.draft.seen.changes.items f
          (seen_too c.args.entry.now c.args.size.rows c.args.size.cols every c.in-Some.string.now c.loop-cause.row c.loop-cause.draft.seen.reach c.push_row.new.draft.seen.reach c.loop-cause.draft.seen.changes.items c.push_row.new.draft.seen.changes.items c.loop-cause.invariant.range
          (same_checked c.args.entry.now c.loop-cause.row c.args.first c.loop-cause.invariant.same ∙ c.in-Some.ensures.checked) (same_string c.args.entry.now c.loop-cause.row c.args.first c.loop-cause.invariant.same ∙ c.in-Some.ensures.there) c.in-Ok.ensures.seen c.loop-cause.invariant.seen);
      drafted = before_next c.args.entry.now c.args.size.rows c.args.size.cols c.loop-cause.row c.in-Some-next.next c.push_row.new.draft.text.items c.loop-cause.invariant.range f
          (one_more c.args.entry.now c.args.size.rows c.args.size.cols c.in-Some.string.now c.loop-cause.row c.loop-cause.draft.text.items c.push_row.new.draft.text.items c.loop-cause.invariant.range (same_checked c.args.entry.now c.loop-cause.row c.args.first c.loop-cause.invariant.same ∙ c.in-Some.ensures.checked)
          (same_string c.args.entry.now c.loop-cause.row c.args.first c.loop-cause.invariant.same ∙ c.in-Some.ensures.there) c.in-Ok.ensures.right c.in-Ok.ensures.adds c.in-Ok.ensures.short c.loop-cause.invariant.drafted);
    }

pub returns-in-None-clause-drafted : goal.returns-in-None-clause-drafted
returns-in-None-clause-drafted c = after_last c.args.entry.now c.args.size.rows c.args.size.cols (order c.args.first) c.loop-cause.row c.push_row.new.draft.text.items c.args.size.limits c.loop-cause.invariant.range c.loop-cause.invariant.same (sym c.in-None.ensures)
    (one_more c.args.entry.now c.args.size.rows c.args.size.cols c.in-Some.string.now c.loop-cause.row c.loop-cause.draft.text.items c.push_row.new.draft.text.items c.loop-cause.invariant.range (same_checked c.args.entry.now c.loop-cause.row c.args.first c.loop-cause.invariant.same ∙ c.in-Some.ensures.checked)
    (same_string c.args.entry.now c.loop-cause.row c.args.first c.loop-cause.invariant.same ∙ c.in-Some.ensures.there) c.in-Ok.ensures.right c.in-Ok.ensures.adds c.in-Ok.ensures.short c.loop-cause.invariant.drafted)

pub returns-in-None-clause-seen : goal.returns-in-None-clause-seen
returns-in-None-clause-seen c = seen_last c.args.entry.now c.args.size.rows c.args.size.cols every c.loop-cause.row c.args.first c.push_row.new.draft.seen.reach c.push_row.new.draft.seen.changes.items c.args.size.limits c.loop-cause.invariant.range (sym c.in-None.ensures) c.loop-cause.invariant.same
    (seen_too c.args.entry.now c.args.size.rows c.args.size.cols every c.in-Some.string.now c.loop-cause.row c.loop-cause.draft.seen.reach c.push_row.new.draft.seen.reach c.loop-cause.draft.seen.changes.items c.push_row.new.draft.seen.changes.items c.loop-cause.invariant.range
    (same_checked c.args.entry.now c.loop-cause.row c.args.first c.loop-cause.invariant.same ∙ c.in-Some.ensures.checked) (same_string c.args.entry.now c.loop-cause.row c.args.first c.loop-cause.invariant.same ∙ c.in-Some.ensures.there) c.in-Ok.ensures.seen c.loop-cause.invariant.seen)
