use Rattle.std.proofs.Common.{List, sym, ap}
use Rattle.ti_without.specs.Less.{caps_of, less}
use Rattle.ti_without.specs.Rounds.{NoRound}
use Rattle.ti_without.specs.declared.left_out.LeftOut.{LeftOut}
use Rattle.ti_without.proofs.Ends.{found_by}
use Rattle.ti_without.proofs.certification.certify_without.Goals as goal

pub returns-in-Ok-clause-found : goal.returns-in-Ok-clause-found
returns-in-Ok-clause-found c =
    found_by c.args.entry.now c.args.entry.now c.args.size.rows c.args.size.cols _
    (ap (λ (l : List LeftOut). less c.args.entry.now (caps_of l)) (sym c.new.ensures.items)) (NoRound c.new.result.items c.new.ensures.items)
    (record {
      own = c.in-Ok.ensures.own;
      conforms = c.in-Ok.ensures.conforms;
      rows_are = c.in-Ok.ensures.rows;
      cols_are = c.in-Ok.ensures.cols;
      sends = c.in-Ok.ensures.sends;
      partners = c.in-Ok.ensures.acsc;
      resyncs = c.in-Ok.ensures.resyncs;
    })
