use Rattle.std.proofs.Common.{◌≡◌, ◌+◌, ◌-◌, ◌<◌, ◌≤◌, ◌⊎◌, ℕ, arith, false, subst, sym}
use Rattle.cur_drawing.specs.Grids.{is_in}
use Rattle.cur_screens.specs.Touched.{lines_shown}
use Rattle.cur_screens.proofs.Marked.{lines_spared}
use Rattle.cur_screens.proofs.Marked.{not_gone}
use Rattle.cur_screens.proofs.touched.mark_lines.Goals as goal

pub returns : goal.returns
returns c =
    let w = c.args.window.now in let first = c.args.first in let o = c.args.origin in
    let all : c.saturating_sub-count.result ≡ w.row + 1 - first = omega (arith, c.saturating_sub-count.ensures) in
    record {
      kept = c.mark_area.ensures.kept;
      lines = λ i j u. subst (λ (n : ℕ). is_in (lines_shown o w first n) i j ≡ false) all (c.mark_area.ensures.cells i j u);
      only = λ i j u off. lines_spared c.args.marks.now c.mark_area.new.marks (lines_shown o w first c.saturating_sub-count.result) i j c.mark_area.ensures u
          (subst (λ (n : ℕ). (i < o.top + w.area.top + first) ⊎ (o.top + w.area.top + first + n ≤ i)) (sym all) (not_gone o w first i off));
    }
