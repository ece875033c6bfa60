use Rattle.std.specs.Prelude.{option_copied}
use Rattle.ti_cert.specs.Table.{table_of}
use Rattle.ti_cert.proofs.RowFacts.{line_found, line_holds}
use Rattle.ti_cert.proofs.verification.Checked.bytes.Goals as goal

pub returns-in-Some-clause-line : goal.returns-in-Some-clause-line
returns-in-Some-clause-line c = line_found (table_of c.args.self.now) c.args.cap c.args.params.now c.in-Some.row (option_copied c.row_bytes.result) c.in-Some.ensures.found c.row_bytes.ensures.line

pub returns-in-Some-clause-right : goal.returns-in-Some-clause-right
returns-in-Some-clause-right c = line_holds (table_of c.args.self.now) c.args.cap c.args.params.now c.in-Some.row c.row_bytes.result c.in-Some.ensures.found c.row_bytes.ensures.line c.row_bytes.ensures.right

pub returns-in-None-clause-line : goal.returns-in-None-clause-line
returns-in-None-clause-line c = λ row is. absurd (c.in-None.ensures.none row is)
