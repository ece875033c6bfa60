use Rattle.ti_without.proofs.Ends.{first_is, first_rounds, found_by}
use Rattle.ti_without.proofs.certification.by_faults.Goals as goal

pub further_rounds-requires-clause-rounds : goal.further_rounds-requires-clause-rounds
further_rounds-requires-clause-rounds c =
    first_rounds c.args.entry.now c.args.size.rows c.args.size.cols c.in_ok-smaller.smaller c.in_ok-smaller-2.smaller c.args.nos.now c.in_ok-smaller.ensures.entry c.in_ok-smaller.ensures.left c.requires.faults c.requires.can c.in_ok-smaller-2.ensures

pub returns-in-Ok-clause-found : goal.returns-in-Ok-clause-found
returns-in-Ok-clause-found c =
    found_by c.args.entry.now c.in_ok-smaller-2.smaller.entry c.args.size.rows c.args.size.cols _
    (first_is c.args.entry.now c.args.size.rows c.args.size.cols c.in_ok-smaller.smaller c.in_ok-smaller-2.smaller c.args.nos.now c.in_ok-smaller.ensures.entry c.in_ok-smaller.ensures.left c.requires.faults c.requires.can c.in_ok-smaller-2.ensures)
    (first_rounds c.args.entry.now c.args.size.rows c.args.size.cols c.in_ok-smaller.smaller c.in_ok-smaller-2.smaller c.args.nos.now c.in_ok-smaller.ensures.entry c.in_ok-smaller.ensures.left c.requires.faults c.requires.can c.in_ok-smaller-2.ensures)
    (record {
      own = c.in-Ok.ensures.own;
      conforms = c.in-Ok.ensures.conforms;
      rows_are = c.in-Ok.ensures.rows;
      cols_are = c.in-Ok.ensures.cols;
      sends = c.in-Ok.ensures.sends;
      partners = c.in-Ok.ensures.acsc;
      resyncs = c.in-Ok.ensures.resyncs;
    })
