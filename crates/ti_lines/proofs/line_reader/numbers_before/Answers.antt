use Rattle.std.proofs.Common.{◌-◌, ◌+◌, ℕ, List, sym, ap, ◌∙◌, arith}
use Rattle.ti_lines.specs.RowLines as spec
use Rattle.ti_lines.proofs.NumbersRead.{next_number}
use Rattle.ti_lines.proofs.line_reader.numbers_before.Goals as goal

pub loop-preserved : goal.loop-preserved
loop-preserved c = record {
  pushed = omega (arith, c.push.ensures.len);
  same = ap (λ (items : List ℕ). spec.numbers_before (c.args.count - (c.loop.counter + 1)) items c.in_ok-word.behind.now) c.push.ensures.items
      ∙ sym (next_number c.args.count c.loop.counter c.loop.numbers.items c.loop.rest.now c.in_ok-word.word.now c.in_ok-word.behind.now c.in_ok-number_at.field-0 (omega arith) (sym c.in_ok-word.ensures.value) (sym c.in_ok-number_at.ensures))
      ∙ c.loop.invariant.same;
}
