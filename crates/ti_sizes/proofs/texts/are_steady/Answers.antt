use Rattle.std.proofs.Common.{ap, ◌∙◌}
use Rattle.vt_term.specs.Function.{function_of}
use Rattle.ti_sizes.proofs.TokenFacts.{next_steady}
use Rattle.ti_sizes.proofs.texts.are_steady.Goals as goal

pub loop-count-preserved : goal.loop-count-preserved
loop-count-preserved c = next_steady c.args.row c.args.tokens.now c.index-tokens-count.result c.loop-count.count c.greatest-size.result.rows c.greatest-size.result.cols c.start-start.result c.in-Some.effect c.function.result c.loop-count-test.true
    c.greatest-size.ensures.rows c.greatest-size.ensures.cols c.start-start.ensures c.in-Some.ensures.record
    (c.function.ensures ∙ ap function_of c.index-tokens-count.is) (c.is_steady_step.ensures c.if-not-is_steady_step.false) c.loop-count.invariant
