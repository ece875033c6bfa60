use Rattle.std.proofs.Common.{rules, arith}
use Rattle.ti_conforms.proofs.Values.{values_more, passed}
use Rattle.ti_conforms.proofs.sends.values.Goals as goal

pub loop-number-preserved : goal.loop-number-preserved
loop-number-preserved c = record {
  items = c.loop-number.invariant.items;
  few = c.loop-number.invariant.few;
  size = omega (arith, c.push.ensures.len, c.loop-number.invariant.size);
  values = values_more c.loop-number.values.items c.push.new.self.items c.as_slice-number-items.result.now c.loop-number.number-index c.from.result 0 c.loop-number-test.true
      (passed c.loop-number.values.items c.push.new.self.items c.from.result (search rules) c.push.ensures.items) c.from.ensures c.loop-number.invariant.values;
}
