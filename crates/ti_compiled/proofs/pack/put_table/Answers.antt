use Rattle.std.proofs.Common.{arith}
use Rattle.std.specs.Prelude.{is_some}
use Rattle.ti_compiled.specs.Written.{strings_of, string_cell}
use Rattle.ti_compiled.proofs.Rows.{put_end}
use Rattle.ti_compiled.proofs.pack.put_table.Goals as goal

pub returns : goal.returns
returns c =
    put_end string_cell is_some (strings_of c.args.entry.now) c.loop-position.position c.args.count c.args.out.now.items c.loop-position.out.items
    c.loop-position.invariant (omega arith) c.requires.count
