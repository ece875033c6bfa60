use Rattle.std.proofs.Common.{◌∙◌, sym}
use Rattle.ti_sources.proofs.OriginalFacts.{found_at, none_left, passed_at}
use Rattle.ti_sources.proofs.originals.original_at.Goals as goal

pub returns-then-eq : goal.returns-then-eq
returns-then-eq c =
    sym (found_at c.args.originals.now c.args.path.now c.loop-file.file-index c.file-item.result c.loop-file-test.true c.file-item.is (sym c.eq.ensures ∙ c.if-eq.true))
    ∙ c.loop-file.invariant

pub loop-file-preserved : goal.loop-file-preserved
loop-file-preserved c =
    sym (passed_at c.args.originals.now c.args.path.now c.loop-file.file-index c.file-item.result c.loop-file-test.true c.file-item.is (sym c.eq.ensures ∙ c.if-eq.false))
    ∙ c.loop-file.invariant

pub returns : goal.returns
returns c = sym (none_left c.args.originals.now c.args.path.now c.loop-file.file-index c.loop-file-test.false) ∙ c.loop-file.invariant
