use Rattle.std.proofs.Common.{◌∙◌, ◌+◌, refl, ap, ℕ}
use Rattle.cur_drawing.specs.Calls.{place}
use Rattle.cur_drawing.specs.Cells.{Content}
use Rattle.cur_drawing.specs.Grids.{row_of, drawn_in, taken}
use Rattle.grids.proofs.Drawings.{drawn_in_none, drawn_join, fits_same}
use Rattle.grids.proofs.Rectangles.{top_rows, no_rows, next_row, row_apart}
use Rattle.cur_screens.proofs.MarkFacts.{same_below}
use Rattle.cur_screens.proofs.copies.copy_marked_rows.Goals as goal

pub loop-k-init : goal.loop-k-init
loop-k-init c = record {
  value = drawn_in_none (top_rows c.args.area 0) (taken c.args.area (place c.args.area.top c.args.area.left) c.args.source.now) c.args.grid.now (no_rows c.args.area);
  shape = refl;
}

pub copy_marked_row-requires-clause-both : goal.copy_marked_row-requires-clause-both
copy_marked_row-requires-clause-both c = record {
  left = c.requires.both.left;
  short = c.requires.both.short;
  target = fits_same c.args.area c.args.grid.now c.loop-k.grid c.loop-k.invariant.shape c.requires.both.target;
  source = c.requires.both.source;
}

pub copy_marked_row-requires-clause-marked : goal.copy_marked_row-requires-clause-marked
copy_marked_row-requires-clause-marked c =
    same_below c.args.area c.loop-k.k (taken c.args.area (place c.args.area.top c.args.area.left) c.args.source.now) c.args.source.now c.args.grid.now c.loop-k.grid c.args.marks.now
    c.loop-k.invariant.value (c.requires.marked (c.args.area.top + c.loop-k.k))

pub loop-k-preserved : goal.loop-k-preserved
loop-k-preserved c =
    let f : ℕ → ℕ → Content → Content = taken c.args.area (place c.args.area.top c.args.area.left) c.args.source.now in
    let a = c.args.area in let k = c.loop-k.k in record {
      value = c.copy_marked_row.ensures.value ∙ ap (drawn_in (row_of a k) f) c.loop-k.invariant.value
          ∙ drawn_join (top_rows a k) (row_of a k) (top_rows a (k + 1)) f f c.args.grid.now (next_row a k) (row_apart a k) (λ i j d h. refl);
      shape = c.copy_marked_row.ensures.shape ∙ c.loop-k.invariant.shape;
    }
