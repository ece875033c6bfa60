use Rattle.ti_cert.specs.Table.{table_of}
use Rattle.ti_sizes.proofs.Opens.{right_everywhere}
use Rattle.ti_sizes.proofs.verdicts.check_sizes.Goals as goal

pub returns-in-Ok-clause-yes : goal.returns-in-Ok-clause-yes
returns-in-Ok-clause-yes c =
    let e = c.in_ok-table.ensures in
    right_everywhere c.args.entry.now (table_of c.in_ok-table.table) e.fit (record { rows = e.rows; cols = e.cols }) e.judged e.sends c.in-Ok.ensures e.certificate
