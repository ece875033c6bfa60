use Rattle.std.proofs.Common.{◌≡◌, ◌<◌, ◌++◌, None, Some, ap, arith, drop, length, take, ◌∙◌}
use Rattle.std.proofs.lemmas.Grind.{common_steps}
use Rattle.ti_parm.specs.Delays.{behind_delay}
use Rattle.ti_parm.proofs.Strips.{strip-ended, strip-kept, strip-past}
use Rattle.ti_parm.proofs.delays.strip_from.Goals as goal

pub loop-read-preserved-in-Some : goal.loop-read-preserved-in-Some
loop-read-preserved-in-Some c =
    let bytes = c.loop-read.bytes.items in
    let some : c.loop-read.read < length bytes = grind (arith, common_steps) in
    let delay : behind_delay (drop c.loop-read.read bytes) ≡ Some (drop c.in-Some.after bytes) = rw (← c.as_slice.ensures.value) c.in-Some.ensures.delay in
    record {
      ordered = grind (arith, common_steps);
      within = grind (arith, common_steps);
      stripped = ap (λ t. take c.loop-read.kept bytes ++ t) (strip-past bytes c.loop-read.read c.in-Some.after some delay) ∙ c.loop-read.invariant.stripped;
    }

pub loop-read-preserved : goal.loop-read-preserved
loop-read-preserved c =
    let bytes = c.loop-read.bytes.items in
    let some : c.loop-read.read < length bytes = grind (arith, common_steps) in
    let none : behind_delay (drop c.loop-read.read bytes) ≡ None = rw (← c.as_slice.ensures.value) c.in-None.ensures.none in
    record {
      ordered = grind (arith, common_steps);
      within = grind (arith, common_steps);
      stripped = strip-kept bytes c.loop-read.kept c.loop-read.read c.index.result.now c.loop-read.invariant.ordered some c.index.ensures none ∙ c.loop-read.invariant.stripped;
    }

pub returns : goal.returns
returns c = c.truncate.ensures.items ∙ (strip-ended c.loop-read.bytes.items c.loop-read.kept c.loop-read.read (grind (arith, common_steps)) ∙ c.loop-read.invariant.stripped)
