use Rattle.std.proofs.Common.{◌≡◌, ℕ, suc, ◌+◌, List, ap, ◌∙◌, arith}
use Rattle.vt_term.specs.Printed.{run_start}
use Rattle.vt_states.specs.Json.{run_behind, runs_behind}
use Rattle.vt_states.proofs.rows.push_runs.Goals as goal

pub loop-last-preserved : goal.loop-last-preserved
loop-last-preserved c = record {
  first = λ k e. c.run_start-first.ensures ∙ ap (λ (n : ℕ). run_start c.args.cells.now n) (let same : c.loop-last.last ≡ k = omega (arith, e) in same);
  items = c.in_ok-push_run.ensures ∙ ap (λ (t : List ℕ). run_behind t c.args.row c.args.cells.now c.loop-last.last) c.loop-last.invariant.items
      ∙ ap (λ (n : ℕ). runs_behind c.args.items.now.items c.args.row c.args.cells.now n) (let next : suc c.loop-last.last ≡ c.loop-last.last + 1 = omega arith in next);
}
