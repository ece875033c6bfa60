use Rattle.std.proofs.Common.{ap, arith, length, sym}
use Rattle.std.proofs.lemmas.List.Sums.{sum_by_more_le}
use Rattle.vt_states.specs.Kinds.{Counted, total}
use Rattle.vt_states.proofs.Counting.{further_counted, known_counted, new_counted}
use Rattle.vt_states.proofs.counts.Counts.add.Goals as goal

pub once_more-requires : goal.once_more-requires
once_more-requires c =
    omega (
      arith,
      c.requires,
      ap total c.self.view_is,
      ap (λ (k : Counted). k.times) c.index_mut.ensures.value,
      sum_by_more_le (λ (k : Counted). k.times) c.self.inside.kinds.items c.place_in-place.result c.index_mut.result.now (omega (arith, c.if-place-len.true, c.len.ensures)),
    )

pub overflow_add-self : goal.overflow_add-self
overflow_add-self c = omega (arith, c.requires, ap total c.self.view_is)

pub returns-then-place-len : goal.returns-then-place-len
returns-then-place-len c =
    λ came h. known_counted came c.args.self.now c.self.inside.kinds.items c.self.inside.others c.place_in-place.result c.args.kind.items c.as_slice.result.now c.as_slice-2.result.now c.index_mut.result.now c.once_more.new.self
    (sym c.self.view_is) c.as_slice.ensures.value c.as_slice-2.ensures.value c.place_in-place.ensures.place (omega (arith, c.if-place-len.true, c.len.ensures)) c.index_mut.ensures.value c.once_more.ensures h

pub returns-in_ok-push : goal.returns-in_ok-push
returns-in_ok-push c =
    λ came h. rw (c.in_ok-push.ensures.items) (new_counted came c.args.self.now c.self.inside.kinds.items c.self.inside.others c.place_in-place.result c.args.kind.items c.as_slice.result.now c.as_slice-2.result.now
    (sym c.self.view_is) c.as_slice.ensures.value c.as_slice-2.ensures.value c.place_in-place.ensures.place (omega (arith, c.if-place-len.false, c.len.ensures)) (omega (arith, c.place_in-place.ensures.range, ap length c.as_slice-2.ensures.value)) c.if-place-lt-MOST_KINDS.true h)

pub returns-else-place-lt-MOST_KINDS : goal.returns-else-place-lt-MOST_KINDS
returns-else-place-lt-MOST_KINDS c =
    λ came h. further_counted came c.args.self.now c.self.inside.kinds.items c.self.inside.others c.place_in-place.result c.args.kind.items c.as_slice.result.now c.as_slice-2.result.now
    (sym c.self.view_is) c.as_slice.ensures.value c.as_slice-2.ensures.value c.place_in-place.ensures.place (omega (arith, c.if-place-len.false, c.len.ensures)) (omega (arith, c.place_in-place.ensures.range, ap length c.as_slice-2.ensures.value)) (omega (arith, c.if-place-lt-MOST_KINDS.false)) h
