use Rattle.std.proofs.Common.{◌<◌, ◌/◌, ◌-◌, ◌∙◌, arith, length-set}
use Rattle.ti_parm.proofs.Decimals.{digits_before-all, digits_before-more, digits_before-last, place-left}
use Rattle.ti_parm.proofs.digits.digits_at_end.Goals as goal

pub loop-left-init : goal.loop-left-init
loop-left-init c = record {
  whole = c.told-buffer;
  from = omega arith;
  to = omega arith;
  small = omega arith;
  digits = digits_before-all c.args.base c.args.upper c.args.number c.args.buffer.now c.told-buffer;
}

pub returns-then-left-eq0-clause-digits : goal.returns-then-left-eq0-clause-digits
returns-then-left-eq0-clause-digits c =
    digits_before-last c.loop-left.buffer c.loop-left.start c.args.base c.args.upper c.loop-left.left c.glyph.result c.glyph.ensures (omega arith) (omega arith) c.if-left-eq0.true
    ∙ c.loop-left.invariant.digits

pub loop-left-preserved : goal.loop-left-preserved
loop-left-preserved c =
    let more : 0 < c.loop-left.left / c.args.base = omega arith in
    let room = place-left c.loop-left.start c.args.base c.loop-left.left c.requires.0 c.loop-left.invariant.from c.loop-left.invariant.small more in
    record {
      whole = omega (arith, length-set c.loop-left.buffer (c.loop-left.start - 1) c.glyph.result);
      from = room.0;
      to = omega arith;
      small = room.1;
      digits = digits_before-more c.loop-left.buffer c.loop-left.start c.args.base c.args.upper c.loop-left.left c.glyph.result c.glyph.ensures (omega arith) (omega arith) more ∙ c.loop-left.invariant.digits;
    }
