use Rattle.std.proofs.Common.{◌≡◌, ◌<◌, ◌≤◌, ◌∙◌, Global, Vec, ap, arith, inl, length, min, set, subst, sym}
use Rattle.std.proofs.lemmas.List.{get_or_default, length-set}
use Rattle.cur_screens.specs.Marks.{JoinsMarks, Marking}
use Rattle.cur_screens.specs.declared.marks.Marks.{Marks}
use Rattle.cur_screens.specs.Touched.{Markings, grid_marks}
use Rattle.cur_screens.proofs.Spreading.{all_spread, later, next_left, next_spread, rest_spread, unknown}
use Rattle.cur_screens.proofs.touched.spread_over.Goals as goal
use Rattle.cur_screens.proofs.touched.spread_over.Goals.{then-k-but, else-k-but}

pub loop-k-preserved : goal.loop-k-preserved
loop-k-preserved c =
    let t : Markings = c.args.grids.now.items in let xs : Markings = c.loop-k.grids.items in let k = c.loop-k.k in
    let lt : k < length xs = omega (arith, c.loop-k-test.true, c.min-k-end.ensures, c.len.ensures, c.loop-k.invariant.size) in
    elim c.if-k-but.branch [
      | then-k-but w ↦
          let is : c.if-k-but.grids.items ≡ set xs k w.join_grid.new.grid = ap (λ (x : Vec Marks Global). x.items) w.grids-is in
          let was : w.index_mut.result.now ≡ grid_marks t k = w.index_mut.ensures.value ∙ get_or_default xs k w.index_mut.result.now unknown lt ∙ c.loop-k.invariant.rest k (inl (omega arith)) in
          record {
            size = ap length is ∙ length-set xs k w.join_grid.new.grid ∙ c.loop-k.invariant.size;
            before = λ l near apart. subst (λ (x : Markings). JoinsMarks (grid_marks t l) c.args.marks.now c.args.size.rows c.args.size.cols (grid_marks x l)) (sym is)
                (next_spread t xs w.join_grid.new.grid c.args.marks.now k c.args.but c.args.size.rows c.args.size.cols lt c.loop-k.invariant.before
                (subst (λ (m : Marking). JoinsMarks m c.args.marks.now c.args.size.rows c.args.size.cols w.join_grid.new.grid) was w.join_grid.ensures) l near apart);
            rest = λ l side. ap (λ (x : Markings). grid_marks x l) is ∙ rest_spread t xs w.join_grid.new.grid k c.args.but w.if-k-but.true c.loop-k.invariant.rest l side;
          }
      | else-k-but w ↦
          let is : c.if-k-but.grids.items ≡ xs = ap (λ (x : Vec Marks Global). x.items) w.grids-is in
          record {
            size = ap length is ∙ c.loop-k.invariant.size;
            before = λ l near apart. subst (λ (x : Markings). JoinsMarks (grid_marks t l) c.args.marks.now c.args.size.rows c.args.size.cols (grid_marks x l)) (sym is)
                (next_left t xs c.args.marks.now k c.args.but c.args.size.rows c.args.size.cols w.if-k-but.false c.loop-k.invariant.before l near apart);
            rest = λ l side. ap (λ (x : Markings). grid_marks x l) is ∙ c.loop-k.invariant.rest l (later k l c.args.but side);
          }
    ]

pub returns : goal.returns
returns c = all_spread c.args.grids.now.items c.loop-k.grids.items c.args.marks.now c.args.used c.loop-k.k c.args.but c.args.size.rows c.args.size.cols end near c.loop-k.invariant.size c.loop-k.invariant.before c.loop-k.invariant.rest
  where
    end : min c.args.used (length c.args.grids.now.items) ≤ c.loop-k.k
    end = omega (arith, c.loop-k-test.false, c.min-k-end.ensures, c.len.ensures)

    near : c.loop-k.k ≤ min c.args.used (length c.args.grids.now.items)
    near = omega (arith, c.loop-k.auto.k-end, c.min-k-end.ensures, c.len.ensures)
