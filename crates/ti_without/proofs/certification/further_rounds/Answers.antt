use Rattle.std.proofs.Common.{List, sym, ap, subst, ◌∙◌}
use Rattle.ti_caps.specs.Entry.{Content}
use Rattle.ti_checker.specs.No.{IsNo}
use Rattle.ti_without.specs.Without.{IsStop}
use Rattle.ti_without.specs.Less.{caps_of, less}
use Rattle.ti_without.specs.Rounds.{NoRound}
use Rattle.ti_without.specs.declared.left_out.LeftOut.{LeftOut}
use Rattle.ti_without.proofs.Ends.{found_by, further_is, further_rounds}
use Rattle.ti_without.proofs.certification.further_rounds.Goals as goal

pub loop-further-init : goal.loop-further-init
loop-further-init c = record { refused = c.requires.refused; is = c.requires.is; rounds = c.requires.rounds }

pub loop-further-preserved : goal.loop-further-preserved
loop-further-preserved c = record {
  refused = c.in-Err-certify.ensures.refused;
  is = further_is c.args.entry.now c.args.size.rows c.args.size.cols c.loop-further.smaller c.in-Ok.further c.loop-further.invariant.is c.in-Ok.ensures.further;
  rounds = further_rounds c.args.entry.now c.args.size.rows c.args.size.cols c.loop-further.smaller c.in-Ok.further c.loop-further.invariant.is c.loop-further.invariant.rounds c.in-Ok.ensures.further;
}

pub returns-in-Err-clause-end : goal.returns-in-Err-clause-end
returns-in-Err-clause-end c = record {
  left = c.loop-further.smaller.left.items;
  rounds = c.loop-further.invariant.rounds;
  stop = subst (λ (x : Content). IsStop x c.args.size.rows c.args.size.cols c.in-Err.stop) c.loop-further.invariant.is c.in-Err.ensures.stop;
}

pub returns-in-Ok-certify-clause-found : goal.returns-in-Ok-certify-clause-found
returns-in-Ok-certify-clause-found c =
    found_by c.args.entry.now c.in-Ok.further.entry c.args.size.rows c.args.size.cols _
    (further_is c.args.entry.now c.args.size.rows c.args.size.cols c.loop-further.smaller c.in-Ok.further c.loop-further.invariant.is c.in-Ok.ensures.further)
    (further_rounds c.args.entry.now c.args.size.rows c.args.size.cols c.loop-further.smaller c.in-Ok.further c.loop-further.invariant.is c.loop-further.invariant.rounds c.in-Ok.ensures.further)
    (record {
      own = c.in-Ok-certify.ensures.own;
      conforms = c.in-Ok-certify.ensures.conforms;
      rows_are = c.in-Ok-certify.ensures.rows;
      cols_are = c.in-Ok-certify.ensures.cols;
      sends = c.in-Ok-certify.ensures.sends;
      partners = c.in-Ok-certify.ensures.acsc;
      resyncs = c.in-Ok-certify.ensures.resyncs;
    })
