use Rattle.std.proofs.Common.{below_more, sym, ◌∙◌, arith}
use Rattle.ti_faults.specs.Mended.{Switching, First}
use Rattle.ti_faults.proofs.Mends.{some_choice}
use Rattle.ti_faults.proofs.mended.Mended.best.Goals as goal

-- the first choice leaves neither `smacs` nor `rmacs` at fault
pub returns-then-switches_sets : goal.returns-then-switches_sets
returns-then-switches_sets c = Switching 0 (some_choice c.args.entry.now c.args.nos.now) c.in_ok-first.ensures (sym c.switches_sets.ensures ∙ c.if-switches_sets.true) (λ earlier lt. absurd (omega (arith, lt)))

-- the first choice failed
pub loop-number-init : goal.loop-number-init
loop-number-init c = below_more _ 0 (λ k lt. absurd (omega (arith, lt))) (record {
  tried = c.in_ok-first.first;
  mended = c.in_ok-first.ensures;
  fails = sym c.switches_sets.ensures ∙ c.if-switches_sets.false;
})

-- neither is at fault, and each choice before failed
pub returns-then-switches_sets-2 : goal.returns-then-switches_sets-2
returns-then-switches_sets-2 c = Switching c.loop-number.number (omega arith) c.in_ok-mended.ensures (sym c.switches_sets-in-loop-number.ensures ∙ c.if-switches_sets-2.true) c.loop-number.invariant

-- one more choice failed
pub loop-number-preserved : goal.loop-number-preserved
loop-number-preserved c = below_more _ _ c.loop-number.invariant (record {
  tried = c.in_ok-mended.mended;
  mended = c.in_ok-mended.ensures;
  fails = sym c.switches_sets-in-loop-number.ensures ∙ c.if-switches_sets-2.false;
})

-- all choices failed
pub returns : goal.returns
returns c = First c.in_ok-first.ensures (λ number lt. c.loop-number.invariant number (omega (arith, lt)))
