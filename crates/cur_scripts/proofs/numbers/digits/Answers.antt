use Rattle.std.proofs.Common.{sym, ◌∙◌, arith}
use Rattle.cur_scripts.proofs.Caps.{digit_at}
use Rattle.cur_scripts.proofs.numbers.digits.Goals as goal

pub loop-byte-preserved : goal.loop-byte-preserved
loop-byte-preserved c =
    let more = digit_at c.loop-byte.number c.in_ok-digit.digit c.loop-byte.byte-index c.args.text.now (omega arith) (sym c.digit_in.ensures.value ∙ c.in_ok-digit.was) in
    record {
      range = c.capped-number.ensures.range;
      rest = rw (c.capped-number.ensures.value) (more ∙ c.loop-byte.invariant.rest);
    }
