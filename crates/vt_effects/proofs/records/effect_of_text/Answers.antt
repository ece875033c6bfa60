use Rattle.vt_term.specs.Scanned.{IsTokenAt}
use Rattle.vt_effects.proofs.Texts.{reached_none, reached_more, reached_all, runs_if_some}
use Rattle.vt_effects.proofs.records.effect_of_text.Goals as goal

pub loop-end-init : goal.loop-end-init
loop-end-init c = rw c.unchanged.ensures (reached_none c.args.size.rows c.args.size.cols c.args.start.now c.args.text.now)

pub loop-end-preserved : goal.loop-end-preserved
loop-end-preserved c =
    let token : IsTokenAt c.args.text.now c.loop-end.at c.in-Ok-Some.end c.next.new.self = rw c.in-Ok-Some.field-0-is at c.in-Ok-Some.ensures.token in
    reached_more c.args.size.rows c.args.size.cols c.args.start.now c.args.text.now c.loop-end.at c.in-Ok-Some.end c.next.new.self _ c.loop-end.effect c.further-effect.result c.loop-end.invariant token c.function.ensures c.further-effect.ensures

pub returns-in-Ok-None-clause-record : goal.returns-in-Ok-None-clause-record
returns-in-Ok-None-clause-record c = reached_all c.args.size.rows c.args.size.cols c.args.start.now c.args.text.now c.loop-end.at c.loop-end.effect c.loop-end.invariant (c.in-Ok-None.ensures.end c.in-Ok-None.field-0-is)

pub returns-in-Ok-None-clause-runs : goal.returns-in-Ok-None-clause-runs
returns-in-Ok-None-clause-runs c = runs_if_some c.args.size.rows c.args.size.cols c.args.start.now c.args.text.now c.loop-end.effect
    (reached_all c.args.size.rows c.args.size.cols c.args.start.now c.args.text.now c.loop-end.at c.loop-end.effect c.loop-end.invariant (c.in-Ok-None.ensures.end c.in-Ok-None.field-0-is))
