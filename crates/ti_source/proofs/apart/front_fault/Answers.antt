use Rattle.std.proofs.Common.{◌∙◌, sym, arith}
use Rattle.ti_source.proofs.Stretching.{front_end, front_found, front_passed}
use Rattle.ti_source.proofs.apart.front_fault.Goals as goal

pub returns-then-begins_entry : goal.returns-then-begins_entry
returns-then-begins_entry c =
    front_end c.loop-line.number _ c.in-Some.line.now c.loop-line.rest.now c.in-Some.behind.now c.in-Some.ensures.found (sym c.begins_entry.ensures ∙ c.if-begins_entry.true) c.loop-line.invariant.fault

pub returns-then-not-is_passed : goal.returns-then-not-is_passed
returns-then-not-is_passed c =
    front_found c.loop-line.number _ c.in-Some.line.now c.loop-line.rest.now c.in-Some.behind.now c.in-Some.ensures.found (sym c.begins_entry.ensures ∙ c.if-begins_entry.false) (sym c.is_passed.ensures ∙ c.if-not-is_passed.true) c.loop-line.invariant.fault

pub loop-line-preserved : goal.loop-line-preserved
loop-line-preserved c = record {
  number = omega (arith, c.in-Some.ensures.shorter, c.loop-line.invariant.number);
  fault = front_passed c.loop-line.number _ c.in-Some.line.now c.loop-line.rest.now c.in-Some.behind.now c.in-Some.ensures.found (sym c.begins_entry.ensures ∙ c.if-begins_entry.false) (sym c.is_passed.ensures ∙ c.if-not-is_passed.false) c.loop-line.invariant.fault;
}
