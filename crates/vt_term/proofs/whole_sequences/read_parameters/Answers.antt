use Rattle.std.proofs.Common.{◌∙◌, ◌<◌, length, inl, inr, arith}
use Rattle.std.proofs.lemmas.List.{length-set}
use Rattle.vt_term.proofs.AtOnce.{semicolon_more, digit_more, numeral_more}
use Rattle.vt_term.proofs.whole_sequences.read_parameters.Goals as goal
use Rattle.vt_term.proofs.whole_sequences.read_parameters.Goals.{in-59, in-48-to-57}

pub loop-at-preserved : goal.loop-at-preserved
loop-at-preserved c =
    let lt : c.loop-at.at < length c.args.bytes.now = omega (arith, c.loop-at-test.true, c.min-at-end.ensures) in
    elim c.match-byte.branch [
      | in-59 w ↦ rw (w.numbers-is, w.count-is, w.number-is) (record {
        len = length-set c.loop-at.numbers c.loop-at.count c.loop-at.number ∙ c.loop-at.invariant.len;
        within = omega (arith, w.if-count-numbers.true, length-set c.loop-at.numbers c.loop-at.count c.loop-at.number);
        numeral = numeral_more c.args.bytes.now c.loop-at.at lt (inl w.in-59.is) c.loop-at.invariant.numeral;
        read = semicolon_more c.args.bytes.now c.loop-at.at c.loop-at.numbers c.loop-at.count c.loop-at.number lt w.in-59.is c.loop-at.invariant.within c.loop-at.invariant.read;
      })
      | in-48-to-57 w ↦ rw (w.numbers-is, w.count-is, w.number-is, w.with_digit.ensures) (record {
        len = c.loop-at.invariant.len;
        within = c.loop-at.invariant.within;
        numeral = numeral_more c.args.bytes.now c.loop-at.at lt (inr (omega arith, omega arith)) c.loop-at.invariant.numeral;
        read = digit_more c.args.bytes.now c.loop-at.at _ c.loop-at.number lt (omega arith) (omega arith) c.loop-at.invariant.read;
      })
    ]
