use Rattle.std.proofs.Common.{refl, sym, ◌∙◌}
use Rattle.ti_rows.proofs.ListFacts.{next_follows}
use Rattle.ti_conforms.proofs.Walks.{nearer}
use Rattle.ti_checker.specs.Kept.{unnamed}
use Rattle.ti_checker.proofs.OnlyMemory.{kept_memory}
use Rattle.ti_checker.proofs.Settled.{same_sent, seen_too, seen_first, seen_next, seen_last, seen_unsent_cap}
use Rattle.ti_checker.proofs.Walks.{same_string}
use Rattle.ti_checker.proofs.kept.see_cap.Goals as goal

pub returns-in_default : goal.returns-in_default
returns-in_default c = seen_unsent_cap c.args.entry.now c.args.size.rows c.args.size.cols (unnamed c.args.left_out.now) c.args.first c.args.seen.now.reach c.args.seen.now.changes.items c.in_default.ensures.none c.requires.seen

pub loop-cause-init : goal.loop-cause-init
loop-cause-init c = record {
  range = c.requires.first.range;
  same = refl;
  seen = seen_first c.args.entry.now c.args.size.rows c.args.size.cols (unnamed c.args.left_out.now) c.args.first c.args.seen.now.reach c.args.seen.now.changes.items c.requires.first c.requires.seen;
}

pub out_of_memory-requires : goal.out_of_memory-requires
out_of_memory-requires c = kept_memory c.args.entry.now c.args.size.rows c.args.size.cols (unnamed c.args.left_out.now) c.loop-cause.row c.in-Some.string.now c.in-Err.cause c.requires.stand c.loop-cause.invariant.range
    (same_sent c.args.entry.now (unnamed c.args.left_out.now) c.loop-cause.row c.args.first c.loop-cause.invariant.same ∙ c.in-Some.ensures.sent) (same_string c.args.entry.now c.loop-cause.row c.args.first c.loop-cause.invariant.same ∙ c.in-Some.ensures.there)
    c.in-Err.ensures.faulty

pub loop-cause-smaller : goal.loop-cause-smaller
loop-cause-smaller c =
    let f = next_follows c.args.size.rows c.args.size.cols c.loop-cause.row c.in-Some-next.next c.args.size.limits c.loop-cause.invariant.range (sym c.in-Some-next.ensures) in
    nearer c.args.size.rows c.args.size.cols c.loop-cause.row c.in-Some-next.next c.args.size.limits f f.range

pub loop-cause-preserved : goal.loop-cause-preserved
loop-cause-preserved c =
    let f = next_follows c.args.size.rows c.args.size.cols c.loop-cause.row c.in-Some-next.next c.args.size.limits c.loop-cause.invariant.range (sym c.in-Some-next.ensures) in
    record {
      range = f.range;
      same = f.same_order ∙ c.loop-cause.invariant.same;
      seen = seen_next c.args.entry.now c.args.size.rows c.args.size.cols (unnamed c.args.left_out.now) c.loop-cause.row c.in-Some-next.next c.see_row.new.seen.reach c.see_row.new.seen.changes.items f
          (seen_too c.args.entry.now c.args.size.rows c.args.size.cols (unnamed c.args.left_out.now) c.in-Some.string.now c.loop-cause.row c.loop-cause.seen.reach c.see_row.new.seen.reach c.loop-cause.seen.changes.items c.see_row.new.seen.changes.items c.loop-cause.invariant.range
          (same_sent c.args.entry.now (unnamed c.args.left_out.now) c.loop-cause.row c.args.first c.loop-cause.invariant.same ∙ c.in-Some.ensures.sent) (same_string c.args.entry.now c.loop-cause.row c.args.first c.loop-cause.invariant.same ∙ c.in-Some.ensures.there)
          c.in-Ok.ensures.seen c.loop-cause.invariant.seen);
    }

pub returns-in-None : goal.returns-in-None
returns-in-None c = seen_last c.args.entry.now c.args.size.rows c.args.size.cols (unnamed c.args.left_out.now) c.loop-cause.row c.args.first c.see_row.new.seen.reach c.see_row.new.seen.changes.items c.args.size.limits c.loop-cause.invariant.range (sym c.in-None.ensures) c.loop-cause.invariant.same
    (seen_too c.args.entry.now c.args.size.rows c.args.size.cols (unnamed c.args.left_out.now) c.in-Some.string.now c.loop-cause.row c.loop-cause.seen.reach c.see_row.new.seen.reach c.loop-cause.seen.changes.items c.see_row.new.seen.changes.items c.loop-cause.invariant.range
    (same_sent c.args.entry.now (unnamed c.args.left_out.now) c.loop-cause.row c.args.first c.loop-cause.invariant.same ∙ c.in-Some.ensures.sent) (same_string c.args.entry.now c.loop-cause.row c.args.first c.loop-cause.invariant.same ∙ c.in-Some.ensures.there)
    c.in-Ok.ensures.seen c.loop-cause.invariant.seen)
