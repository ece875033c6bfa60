use Rattle.std.proofs.Common.{sym, ◌∙◌}
use Rattle.ti_conforms.proofs.Settlements.{staying_next, among_next}
use Rattle.ti_conforms.proofs.closures.Charsets.outside_from.Goals as goal

pub loop-change-preserved : goal.loop-change-preserved
loop-change-preserved c = record {
  stays = staying_next c.args.self.now c.args.changes.now c.args.charset c.designated-left.result c.loop-change.change-index _ c.loop-change-test.true c.designated-left.ensures (sym c.if-not-has.false ∙ c.has.ensures) c.loop-change.invariant.stays;
  among = among_next c.args.changes.now c.args.charset c.designated-left.result c.loop-change.change-index _ c.loop-change-test.true c.designated-left.ensures c.loop-change.invariant.among;
}
