use Rattle.ti_checker.specs.Kept.{unnamed}
use Rattle.ti_checker.proofs.OnlyMemory.{kept_memory}
use Rattle.ti_checker.proofs.Settled.{unsent_changes, sent_changes}
use Rattle.ti_checker.proofs.switches.change_of.Goals as goal

pub returns-in-Ok : goal.returns-in-Ok
returns-in-Ok c =
    sent_changes c.args.entry.now c.args.size.rows c.args.size.cols (unnamed c.args.left_out.now) c.args.row c.in-Ok.found.tokens.items c.in-Ok.found.change c.requires.range
    (record { sent = c.in-Some.ensures.sent; string = c.in-Some.string.now; there = c.in-Some.ensures.there; is = c.in-Ok.ensures.change })

pub returns-in-None : goal.returns-in-None
returns-in-None c = unsent_changes c.args.entry.now c.args.size.rows c.args.size.cols (unnamed c.args.left_out.now) c.args.row c.requires.range c.in-None.ensures.none

pub out_of_memory-requires : goal.out_of_memory-requires
out_of_memory-requires c = kept_memory c.args.entry.now c.args.size.rows c.args.size.cols (unnamed c.args.left_out.now) c.args.row c.in-Some.string.now c.in-Err.cause c.requires.stand c.requires.range c.in-Some.ensures.sent c.in-Some.ensures.there c.in-Err.ensures.faulty
