use Rattle.std.proofs.Common.{refl}
use Rattle.ti_conforms.proofs.Sendable.{texts_more}
use Rattle.ti_cert.specs.Table.{table_of}
use Rattle.ti_cert.proofs.verification.add_all.Goals as goal

pub loop-row-preserved : goal.loop-row-preserved
loop-row-preserved c = texts_more (table_of c.args.table.now).line_of c.args.text.now.items c.loop-row.text.items c.add.new.text.items c.args.rows.now c.loop-row.row-index _ _ c.loop-row-test.true refl c.in_ok-add.ensures c.loop-row.invariant
