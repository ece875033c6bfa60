use Rattle.std.proofs.Common.{◌∙◌, ℕ, ◌+◌, arith, ap, inl, inr, replicate}
use Rattle.grids.proofs.MovedLines.{scrolled_from_moved}
use Rattle.grids.proofs.scrolls.lines_up.Goals as goal

pub returns-clause-moved : goal.returns-clause-moved
returns-clause-moved g c = scrolled_from_moved c.args.top c.args.bottom c.args.n c.min-n.result c.args.cell c.args.lines.now c.rotate_up.new.lines
    c.min-n.ensures c.requires.ordered c.requires.within c.requires.even (record {
      len = c.rotate_up.ensures.len ∙ c.fill_each_line.ensures.len;
      outside = λ i h. elim h [
        | inl low ↦ c.rotate_up.ensures.before i low ∙ c.fill_each_line.ensures.before i low
        | inr high ↦ c.rotate_up.ensures.behind i (omega arith) ∙ c.fill_each_line.ensures.behind i (omega (arith, c.min-n.ensures))
      ];
      moved = λ i low fits. c.rotate_up.ensures.moved i low (omega arith) ∙ c.fill_each_line.ensures.behind (i + c.min-n.result) (omega arith);
      new = λ i low high gone. c.rotate_up.ensures.wrapped i (omega arith) (omega arith)
          ∙ c.fill_each_line.ensures.filled _ (omega arith) (omega (arith, c.min-n.ensures))
          ∙ ap (λ (n : ℕ). replicate n c.args.cell) (c.requires.even _ (omega (arith, c.min-n.ensures)));
    })
