use Rattle.std.proofs.Common.{◌≡◌, ◌+◌, ◌*◌, ◌∙◌, ap, min, sym, arith}
use Rattle.ti_parm.specs.Codes.{number_on}
use Rattle.ti_parm.proofs.Numbers.{behind_digits-digit, number_on-capped, number_on-digit}
use Rattle.ti_parm.proofs.number.number.Goals as goal

pub loop-digit-preserved : goal.loop-digit-preserved
loop-digit-preserved c =
    let rest = c.loop-digit.rest.now in
    let more = c.in-Some.more.now in
    let next = 10 * c.loop-digit.value + c.in-Some.digit in
    let value : c.min-value.result ≡ min 2147483648 next = omega arith in
    record {
      small = omega arith;
      value =
          ap (λ n. min 2147483648 (number_on n more)) value
          ∙ number_on-capped 2147483648 next more
          ∙ sym (ap (min 2147483648) (number_on-digit c.loop-digit.value c.in-Some.digit rest more c.in-Some.ensures.digit))
          ∙ c.loop-digit.invariant.value;
      within = let shorter = c.in-Some.ensures.shorter in omega arith;
      rest = sym (behind_digits-digit c.in-Some.digit rest more c.in-Some.ensures.digit) ∙ c.loop-digit.invariant.rest;
    }
