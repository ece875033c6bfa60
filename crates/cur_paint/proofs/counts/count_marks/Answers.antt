use Rattle.std.proofs.Common.{Bool, if◌then◌else◌, sym, ap, arith}
use Rattle.cur_paint.proofs.SpanFacts.{marks_on}
use Rattle.cur_paint.proofs.counts.count_marks.Goals as goal

pub loop-k-preserved : goal.loop-k-preserved
loop-k-preserved c =
    let k = c.loop-k.k in
    let one = c.mark_of-count.result in
    record {
      value = λ old new row from h. marks_on old new row from k c.loop-k.count one c.mark_of-count.ensures.same c.mark_of-count.ensures.differs
          (ap (λ (t : Bool). if t then 0 else 1) (sym (h k c.loop-k-test.true))) (c.loop-k.invariant.value old new row from h);
      few = omega (arith, c.loop-k.invariant.few, c.mark_of-count.ensures.few);
    }
