use Rattle.ti_checker.proofs.ProbeStarts.{numbered_starts}
use Rattle.ti_checker.proofs.trials.shown_by.Goals as goal

pub breaks-requires-clause-starts : goal.breaks-requires-clause-starts
breaks-requires-clause-starts c = numbered_starts c.args.size.rows c.args.size.cols c.args.number c.args.row c.probe_by-probe.result c.start.result c.of.result c.probe_by-probe.ensures c.start.ensures c.of.ensures c.args.size.limits c.requires

pub returns-then-breaks-clause-shown : goal.returns-then-breaks-clause-shown
returns-then-breaks-clause-shown c = record {
  starts = numbered_starts c.args.size.rows c.args.size.cols c.args.number c.args.row c.probe_by-probe.result c.start.result c.of.result c.probe_by-probe.ensures c.start.ensures c.of.ensures c.args.size.limits c.requires;
  unwanted = c.breaks.ensures.unwanted c.if-breaks.true;
}
