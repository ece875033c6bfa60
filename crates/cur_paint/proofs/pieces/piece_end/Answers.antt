use Rattle.std.proofs.Common.{Bool, if◌then◌else◌, sym, ap, arith}
use Rattle.cur_paint.proofs.SpanFacts.{end_within, piece_goes_on}
use Rattle.cur_paint.proofs.pieces.piece_end.Goals as goal

pub loop-k-preserved : goal.loop-k-preserved
loop-k-preserved c =
    let end = c.loop-k.end in
    let k = c.loop-k.k in
    let next = c.end_after-end.result in
    record {
      within = end_within end k next c.end_after-end.ensures.same c.end_after-end.ensures.differs c.loop-k.invariant.within;
      near = omega (arith, c.if-k-end.false);
      few = λ old new row from h. piece_goes_on old new row from end k c.args.few next c.end_after-end.ensures.same c.end_after-end.ensures.differs
          (ap (λ (t : Bool). if t then 0 else 1) (sym (h k c.loop-k-test.true))) c.loop-k.invariant.within c.loop-k.invariant.near (c.loop-k.invariant.few old new row from h);
    }
