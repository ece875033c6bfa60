use Rattle.std.proofs.Common.{◌<◌, length, sym, arith}
use Rattle.vt_screen.proofs.Runs.{is_character, all_step, one_further}
use Rattle.vt_screen.proofs.displays.characters_before.Goals as goal

pub loop-k-preserved : goal.loop-k-preserved
loop-k-preserved c =
    let within : c.loop-k.k < length c.args.bytes.now = omega (arith, c.loop-k-test.true, c.min-end.ensures) in
    let below : c.loop-k.k < c.args.limit = omega (arith, c.loop-k-test.true, c.min-end.ensures) in
    record {
      printed = all_step c.loop-k.k c.args.bytes.now within c.loop-k.invariant.printed (is_character _ (sym c.if-not-is_printed.ensures));
      count = one_further c.args.limit c.loop-k.k c.args.bytes.now below within (sym c.if-not-is_printed.ensures) c.loop-k.invariant.count;
    }
