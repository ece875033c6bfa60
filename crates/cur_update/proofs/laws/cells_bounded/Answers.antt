use Rattle.std.proofs.Common.{arith}
use Rattle.ti_conforms.specs.Certified.{cell_limit}
use Rattle.cur_paint.specs.Differ.{all_differ}
use Rattle.cur_paint.specs.Limits.{paint_limit}
use Rattle.cur_update.specs.Differ.{in_lines}
use Rattle.cur_update.specs.Inks.{ink_at}
use Rattle.cur_update.proofs.Counts.{lines_at_most, scaled}
use Rattle.cur_update.proofs.laws.cells_bounded.Goals as goal

pub returns : goal.returns
returns c = record {
  most = λ t partners v w b cursor mode rows cols.
      scaled (paint_limit t (ink_at t partners v) (ink_at t partners w) b cursor mode) (all_differ (ink_at t partners v) (ink_at t partners w) t.cols t.rows) (in_lines v w t.cols t.rows) (cell_limit t)
      (lines_at_most t partners v w rows cols t.cols t.rows) (c.bounded.ensures.most t (ink_at t partners v) (ink_at t partners w) b cursor mode);
  none = λ t partners v w b cursor mode rows cols nothing shown s agrees at.
      c.bounded.ensures.none t (ink_at t partners v) (ink_at t partners w) b cursor mode (omega (arith, nothing, lines_at_most t partners v w rows cols t.cols t.rows)) shown s agrees at;
}
