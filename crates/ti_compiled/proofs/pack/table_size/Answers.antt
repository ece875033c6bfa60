use Rattle.std.proofs.Common.{arith}
use Rattle.ti_compiled.specs.Written.{strings_of}
use Rattle.ti_compiled.proofs.Rows.{size_end}
use Rattle.ti_compiled.proofs.pack.table_size.Goals as goal

pub returns-clause-value : goal.returns-clause-value
returns-clause-value c =
    size_end (strings_of c.args.entry.now) c.loop-position.position c.args.count c.loop-position.size c.loop-position.invariant.size (omega arith) c.requires.count
