use Rattle.std.proofs.Common.{◌∙◌, arith}
use Rattle.std.proofs.lemmas.List.{length-set}
use Rattle.cur_update.proofs.Findings.{found_next}
use Rattle.cur_update.proofs.changes.Shift.find.Goals as goal

pub loop-row-preserved : goal.loop-row-preserved
loop-row-preserved g c = record {
  long = length-set c.loop-row.columns c.loop-row.row c.columns_marked.result ∙ c.loop-row.invariant.long;
  found = λ old new is. found_next c.loop-row.columns c.lines_marked-lines.result.from c.loop-row.row c.columns_marked.result c.args.cols old new
      (omega (arith, c.loop-row-test.true, c.lines_marked-lines.ensures.within, c.loop-row.invariant.long))
      (c.loop-row.invariant.found old new is) (c.columns_marked.ensures.same old new is);
}
