use Rattle.std.proofs.Common.{◌+◌, ℕ, inl, inr, subst, sym}
use Rattle.cur_screens.specs.Marks.{IsUnmarked, Marking, marked_between}
use Rattle.cur_screens.proofs.MarkFacts.{unmarked_before, unmarked_beside, unmarked_left, unmarked_right}
use Rattle.cur_screens.proofs.Marked.{after_cells, before_cells, cell_beside}
use Rattle.cur_screens.proofs.Marked.{unmarked_other}
use Rattle.cur_screens.proofs.touched.mark_cells.Goals as goal

pub returns : goal.returns
returns c =
    let w = c.args.window.now in let a = w.area in let o = c.args.origin in
    let row : ℕ = o.top + a.top + w.row in
    let from : ℕ = o.left + a.left + c.args.col in
    let end : ℕ = from + c.args.count in
    let old : Marking = c.args.marks.now in
    record {
      kept = λ i j u. unmarked_before old row from end i j (subst (λ (m : Marking). IsUnmarked m i j) c.mark.ensures u);
      cells = λ i j u. cell_beside o w c.args.col c.args.count i j
          (λ e. unmarked_beside old row from end j (subst (λ (n : ℕ). IsUnmarked (marked_between row from end old) n j) e (subst (λ (m : Marking). IsUnmarked m i j) c.mark.ensures u)));
      only = λ i j u apart. subst (λ (m : Marking). IsUnmarked m i j) (sym c.mark.ensures) (unmarked_other old row from end i j apart u);
      alone = λ i j side. subst (λ (m : Marking). IsUnmarked m i j) (sym c.mark.ensures) (elim side [
        | inl all ↦ unmarked_left old row from end i j (λ k le. (all k le).unmarked) (before_cells old o w c.args.col c.args.count i j c.requires.some all)
        | inr all ↦ unmarked_right old row from end i j (λ k le. (all k le).unmarked) (after_cells old o w c.args.col c.args.count i j c.requires.some all)
      ]);
    }
