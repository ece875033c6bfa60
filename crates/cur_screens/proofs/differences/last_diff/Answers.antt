use Rattle.std.proofs.Common.{ℕ, ◌≡◌, ◌-◌, ◌+◌, length, arith, subst}
use Rattle.cur_screens.specs.Differences.{AreEqualIn}
use Rattle.cur_screens.proofs.DifferenceFacts.{equal_from}
use Rattle.cur_screens.proofs.differences.last_diff.Goals as goal

pub loop-end-preserved : goal.loop-end-preserved
loop-end-preserved c =
    let a = c.args.a.now in
    let b = c.args.b.now in
    let before = c.loop-end.end - 1 in
    let back : c.loop-end.end ≡ before + 1 = omega (arith, c.loop-end-test.true) in (
      omega (arith, c.loop-end.invariant.0),
      equal_from a b before (length a) (subst (λ (n : ℕ). AreEqualIn a b n (length a)) back c.loop-end.invariant.1) (c.same_cell.ensures.same c.if-not-same_cell.false),
    )
