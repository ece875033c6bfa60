use Rattle.std.proofs.Common.{subst}
use Rattle.ti_rows.specs.Names.{order}
use Rattle.ti_conforms.specs.Agreement.{SomeLine}
use Rattle.ti_cert.specs.Strings.{row_string}
use Rattle.ti_cert.specs.declared.table.Table.TheInside.{Inside}
use Rattle.ti_cert.specs.Table.{CheckedTable}
use Rattle.ti_cert.proofs.table.TableLinesByRow.has_any.Goals as goal

pub returns-clause-some : goal.returns-clause-some
returns-clause-some c = λ h. subst (λ (t : CheckedTable). SomeLine (λ row. row_string t.known.strings row) (order c.args.row)) c.self.view_is
    (subst (λ (i : Inside). SomeLine (λ row. row_string i.known.strings row) (order c.args.row)) c.self-inside.view_is (c.has.ensures.some h))
