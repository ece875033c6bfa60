use Rattle.std.proofs.Common.{sym, subst}
use Rattle.ti_conforms.specs.Entries.{EntryAgrees}
use Rattle.ti_cert.specs.Certification.{HasText}
use Rattle.ti_cert.specs.Strings.{row_string}
use Rattle.ti_cert.specs.Table.{CheckedTable, table_of}
use Rattle.ti_cert.specs.Verified.{Resyncs}
use Rattle.ti_cert.proofs.Accepted.{verified, is_verified, agrees_at, resyncs}
use Rattle.ti_cert.proofs.certification.certify.Goals as goal

pub new-requires : goal.new-requires
new-requires c = is_verified c.args.entry.now c.in_ok-table.table c.args.size.rows c.args.size.cols c.args.size.limits c.in_ok-check_fit.ensures c.in_ok-table.ensures.judged c.in_ok-table.ensures.looks c.in_ok-table.ensures.lines c.in_ok-table.ensures.rows c.in_ok-table.ensures.cols c.in_ok-table.ensures.few

pub returns-clause-text : goal.returns-clause-text
returns-clause-text c = subst (λ (t : CheckedTable). HasText c.args.size.rows c.args.size.cols t) (sym c.in_ok-new.ensures) c.in_ok-table.ensures.text

pub returns-clause-conforms : goal.returns-clause-conforms
returns-clause-conforms c = verified c.args.entry.now c.in_ok-table.table c.args.size.rows c.args.size.cols c.in_ok-check_fit.ensures c.in_ok-table.ensures.judged c.in_ok-table.ensures.lines c.in_ok-table.ensures.rows c.in_ok-table.ensures.cols

pub returns-clause-sends : goal.returns-clause-sends
returns-clause-sends c = subst (λ (t : CheckedTable). EntryAgrees c.args.size.rows c.args.size.cols c.args.entry.now (λ row. row_string t.known.strings row)) (sym c.in_ok-new.ensures)
    (agrees_at c.args.entry.now c.in_ok-table.table c.args.size.rows c.args.size.cols c.in_ok-table.ensures.lines c.in_ok-table.ensures.rows c.in_ok-table.ensures.cols)

pub returns-clause-resyncs : goal.returns-clause-resyncs
returns-clause-resyncs c = subst (λ (t : CheckedTable). Resyncs (table_of t)) (sym c.in_ok-new.ensures)
    (resyncs c.in_ok-table.table (is_verified c.args.entry.now c.in_ok-table.table c.args.size.rows c.args.size.cols c.args.size.limits c.in_ok-check_fit.ensures c.in_ok-table.ensures.judged c.in_ok-table.ensures.looks c.in_ok-table.ensures.lines c.in_ok-table.ensures.rows c.in_ok-table.ensures.cols c.in_ok-table.ensures.few))
