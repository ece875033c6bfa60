use Rattle.std.proofs.Common.{◌≡◌}
use Rattle.ti_checker.specs.No.{IsNo}
use Rattle.ti_without.specs.Going.{present}
use Rattle.ti_without.specs.Less.{caps_of, less}
use Rattle.ti_without.specs.Rounds.{AreRounds}
use Rattle.ti_without.proofs.certification.further_rounds.Given as goal

abbrev pub invariant-loop-further : goal.invariant-loop-further
invariant-loop-further l = record {
  refused : IsNo l.smaller.entry l.size.rows l.size.cols l.no;
  is : l.smaller.entry ≡ less l.entry (caps_of l.smaller.left.items);
  rounds : AreRounds l.entry l.size.rows l.size.cols l.smaller.left.items;
}

abbrev pub decreases-loop-further : goal.decreases-loop-further
decreases-loop-further l = present l.smaller.entry
