use Rattle.std.proofs.Common.{◌≡◌, ◌∙◌, ap, length, arith}
use Rattle.std.proofs.lemmas.List.{with_items_is}
use Rattle.grids.specs.Grids.{shape_of}
use Rattle.grids.proofs.Drawings.{shape_of-drawn}
use Rattle.grids.proofs.Rows.{row_combined}
use Rattle.grids.proofs.grids.Grid.merge_shifted_row.Goals as goal

pub returns-clause-value : goal.returns-clause-value
returns-clause-value g c =
    let same : length c.self.inside.lines.items ≡ length c.args.self.now = ap length c.self.view_is in
    let there = c.requires.target.rows in
    rw (← c.self.view_is, with_items_is c.self.inside.lines c.merge_line.new.lines (c.merge_line.ensures.len ∙ c.deref_mut.ensures.len), c.merge_line.ensures.value, c.row_pass.ensures.to, c.row_pass.ensures.from, c.row_pass.ensures.count, c.deref_mut.ensures.value)
    (row_combined c.args.area c.args.from c.args.k (g.R.Merge.merged c.args.rule.now) c.self.inside.lines.items c.self.inside.lines.items (omega arith))

pub returns-clause-shape : goal.returns-clause-shape
returns-clause-shape g c = ap shape_of (returns-clause-value g c) ∙ shape_of-drawn _ c.args.self.now
