use Rattle.std.proofs.Common.{◌∙◌, ◌++◌, ℕ, List, ap, sym}
use Rattle.ti_verdicts.specs.Excerpts.{deeper}
use Rattle.ti_verdicts.specs.Rows.{rows_of}
use Rattle.ti_verdicts.proofs.RowFacts.{no_rows, one_more}
use Rattle.ti_verdicts.proofs.rows.rows_of.Goals as goal
use Rattle.ti_files.specs.Shown.{shown}

pub loop-passed-init : goal.loop-passed-init
loop-passed-init c = c.new-lines.ensures.items ∙ sym (no_rows c.args.text.now c.args.region)

-- one row more follows those so far
pub loop-passed-preserved : goal.loop-passed-preserved
loop-passed-preserved c =
    c.in_ok-push_row.ensures
    ∙ (ap (λ (lines : List ℕ). lines ++ deeper (shown c.row_of-row.result.now)) c.loop-passed.invariant
    ∙ (ap (λ (row : List ℕ). rows_of c.args.text.now c.args.region c.loop-passed.passed ++ deeper (shown row)) c.row_of-row.ensures
    ∙ sym (one_more c.args.text.now c.args.region c.loop-passed.passed)))
