use Rattle.std.proofs.Common.{◌∙◌, sym, arith}
use Rattle.ti_parm.proofs.FormatFacts.{behind_flags-flag, flags_on-flag}
use Rattle.ti_parm.proofs.formats.flags_ahead.Goals as goal

pub loop-more-preserved : goal.loop-more-preserved
loop-more-preserved c =
    let text = c.loop-more.rest.now in
    let behind = c.in-Some.behind.now in
    let shorter = c.in-Some.ensures.shorter in
    record {
      flags = sym (flags_on-flag c.loop-more.flags c.in-Some.more text behind c.in-Some.ensures.flag) ∙ c.loop-more.invariant.flags;
      rest = sym (behind_flags-flag c.loop-more.flags c.in-Some.more text behind c.in-Some.ensures.flag) ∙ c.loop-more.invariant.rest;
      within = omega arith;
    }
