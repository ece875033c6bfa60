use Rattle.std.proofs.Common.{◌∙◌, ◌+◌, arith, refl, ap, ℕ}
use Rattle.cur_drawing.specs.Cells.{Content}
use Rattle.cur_drawing.specs.Grids.{row_of, drawn_in, taken}
use Rattle.grids.proofs.Drawings.{drawn_in_none, drawn_join, fits_same}
use Rattle.grids.proofs.Rectangles.{top_rows, no_rows, next_row, row_apart}
use Rattle.cur_screens.proofs.ChangedRows.{part_fits, row_copied}
use Rattle.cur_screens.proofs.MarkFacts.{equal_beside_touched, marks_only_none, marks_only_then, row_by_row}
use Rattle.cur_screens.proofs.copies.copy_lines.Goals as goal

pub loop-k-init : goal.loop-k-init
loop-k-init c = record {
  value = drawn_in_none (top_rows c.args.copy.area 0) (taken c.args.copy.area c.args.copy.from c.args.source.now) c.args.grid.now (no_rows c.args.copy.area);
  shape = refl;
  marked = λ v same. same;
  only = marks_only_none c.args.marks.now c.args.grid.now;
}

pub copy_changed_line-requires-clause-target : goal.copy_changed_line-requires-clause-target
copy_changed_line-requires-clause-target c =
    part_fits c.args.copy.area c.loop-k.k c.columns_from-span.result c.loop-k.grid (omega arith) c.columns_from-span.ensures.within
    (fits_same c.args.copy.area c.args.grid.now c.loop-k.grid c.loop-k.invariant.shape c.requires.target)

pub loop-k-preserved : goal.loop-k-preserved
loop-k-preserved c =
    let f : ℕ → ℕ → Content → Content = taken c.args.copy.area c.args.copy.from c.args.source.now in
    let a = c.args.copy.area in let k = c.loop-k.k in
    let row = c.copy_changed_line.ensures.copied.value
    ∙ row_copied a c.args.copy.from k c.columns_from-span.result c.args.source.now c.loop-k.grid (omega arith) (fits_same a c.args.grid.now c.loop-k.grid c.loop-k.invariant.shape c.requires.target) c.requires.from.source c.columns_from-span.ensures.within
    (equal_beside_touched a c.args.copy.from k f c.columns_from-span.result c.args.source.now c.args.grid.now c.loop-k.grid c.args.touched.now (omega arith) c.loop-k.invariant.value c.requires.touched c.columns_from-span.ensures.others) in
    record {
      value = row ∙ ap (drawn_in (row_of a k) f) c.loop-k.invariant.value
          ∙ drawn_join (top_rows a k) (row_of a k) (top_rows a (k + 1)) f f c.args.grid.now (next_row a k) (row_apart a k) (λ i j d h. refl);
      shape = c.copy_changed_line.ensures.copied.shape ∙ c.loop-k.invariant.shape;
      marked = λ v same. c.copy_changed_line.ensures.copied.marked v (c.loop-k.invariant.marked v same);
      only = marks_only_then c.args.marks.now c.loop-k.marks c.copy_changed_line.new.marks c.args.grid.now c.loop-k.grid c.copy_changed_line.new.grid c.loop-k.invariant.only c.copy_changed_line.ensures.copied.only
          (row_by_row a k f f c.args.grid.now c.loop-k.grid c.copy_changed_line.new.grid c.loop-k.invariant.value row);
    }
