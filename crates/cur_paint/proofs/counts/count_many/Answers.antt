use Rattle.std.proofs.Common.{ℕ, ◌≡◌, ◌-◌, subst, arith}
use Rattle.cur_paint.specs.Differ.{span}
use Rattle.cur_paint.proofs.Mixtures.{span_join}
use Rattle.cur_paint.proofs.counts.count_many.Goals as goal

pub loop-done-preserved : goal.loop-done-preserved
loop-done-preserved g c =
    let old = g.O.Picture.cells c.args.old.now in
    let new = g.N.Picture.cells c.args.new.now in
    let x = c.first_alike-alike.ensures in
    let a = c.first_alike-alike.result in
    record {
      within = omega (arith, x.within, c.loop-done-test.true);
      count = omega (arith, x.value, c.loop-done.invariant.count, span_join old new c.args.row c.args.columns.from c.loop-done.done a.count);
      few = omega (arith, x.few, c.loop-done.invariant.few);
    }

pub returns-clause-value : goal.returns-clause-value
returns-clause-value g c =
    let old = g.O.Picture.cells c.args.old.now in
    let new = g.N.Picture.cells c.args.new.now in
    let all : c.loop-done.done ≡ c.args.columns.end - c.args.columns.from = omega (arith, c.loop-done.invariant.within, c.loop-done-test.false) in
    subst (λ (k : ℕ). c.loop-done.count ≡ span old new c.args.row c.args.columns.from k) all c.loop-done.invariant.count
