use Rattle.ti_checker.specs.Kept.{unnamed}
use Rattle.ti_checker.proofs.OnlyMemory.{kept_memory}
use Rattle.ti_checker.proofs.Together.{unsendable}
use Rattle.ti_checker.proofs.resync.sent_for.Goals as goal

pub out_of_memory-requires : goal.out_of_memory-requires
out_of_memory-requires c = kept_memory c.args.entry.now c.args.size.rows c.args.size.cols (unnamed c.args.left_out.now) c.args.row c.in-Some.string.now c.in-Err.cause c.requires.stand c.requires.range c.in-Some.ensures.sent c.in-Some.ensures.there
    (unsendable c.args.size.rows c.args.size.cols c.in-Some.string.now c.args.row c.in-Err.cause c.in-Err.ensures.unsent)
