use Rattle.ti_checker.specs.Kept.{unnamed}
use Rattle.ti_checker.proofs.Sent.{is_found}
use Rattle.ti_checker.proofs.switches.together_of.Goals as goal

pub returns-clause-found : goal.returns-clause-found
returns-clause-found c = is_found c.args.entry.now c.args.size.rows c.args.size.cols (unnamed c.args.left_out.now) c.args.seen.now.reach c.args.seen.now.changes.items c.deref.result.now c.in_ok-resync.resync c.in_ok-smacs.smacs c.in_ok-begins.begins c.args.size.limits c.requires.stand
    c.requires.seen c.deref.ensures.value
    (record { smcup = c.in_ok-resync.ensures.smcup; enacs = c.in_ok-resync.ensures.enacs; sgr0 = c.in_ok-resync.ensures.sgr0; rmacs = c.in_ok-resync.ensures.rmacs; smacs_is = c.in_ok-smacs.ensures })
    c.in_ok-begins.ensures.yes c.in_ok-begins.ensures.no
