use Rattle.std.proofs.Common.{◌∙◌, inl, inr}
use Rattle.std.proofs.lemmas.Bool.{cases_lt}
use Rattle.grids.specs.Grids.{line_at}
use Rattle.grids.proofs.Drawings.{grid_is_drawn, line_kept}
use Rattle.grids.proofs.MovedLines.{line_filled}
use Rattle.grids.proofs.Parts.{part_in, part_before, part_behind}
use Rattle.grids.proofs.scrolls.fill_lines.Goals as goal

pub returns-clause-drawn : goal.returns-clause-drawn
returns-clause-drawn g c = grid_is_drawn _ c.args.lines.now c.fill_each_line.new.lines c.fill_each_line.ensures.len
    (λ i lt. elim (cases_lt i c.args.from) [
      | inl low ↦ c.fill_each_line.ensures.before i low ∙ line_kept _ (line_at c.args.lines.now i) (λ k old. part_before c.args.from c.args.to i c.args.cell old low)
      | inr high ↦ elim (cases_lt i c.args.to) [
        | inl low ↦ c.fill_each_line.ensures.filled i high low ∙ line_filled _ c.args.cell (line_at c.args.lines.now i) (λ k old. part_in c.args.from c.args.to i c.args.cell old high low)
        | inr past ↦ c.fill_each_line.ensures.behind i past ∙ line_kept _ (line_at c.args.lines.now i) (λ k old. part_behind c.args.from c.args.to i c.args.cell old past)
      ]
    ])
