use Rattle.std.proofs.Common.{sym}
use Rattle.ti_lines.proofs.LinesRead.{no_line, no_name, found_written, found_each}
use Rattle.ti_lines.proofs.line_reader.read_row_line.Goals as goal

pub returns-in-None-clause-each : goal.returns-in-None-clause-each
returns-in-None-clause-each c = λ line h. absurd (no_line c.args.text.now line (sym c.in-None.ensures.value) h)

pub returns-in-None-named-clause-each : goal.returns-in-None-named-clause-each
returns-in-None-named-clause-each c = λ line h. absurd (no_name c.args.text.now c.in-Some.name.now c.in-Some.rest.now line (sym c.in-Some.ensures.value) c.in-None-named.ensures.none h)

pub returns-in-Some-named-clause-found : goal.returns-in-Some-named-clause-found
returns-in-Some-named-clause-found c = found_written c.args.text.now c.in-Some.name.now c.in-Some.rest.now c.in-Some-named.first c.line_of.result (sym c.in-Some.ensures.value) c.in-Some-named.ensures.name c.line_of.ensures

pub returns-in-Some-named-clause-each : goal.returns-in-Some-named-clause-each
returns-in-Some-named-clause-each c = found_each c.args.text.now c.in-Some.name.now c.in-Some.rest.now c.in-Some-named.first c.line_of.result (sym c.in-Some.ensures.value) c.in-Some-named.ensures.name c.line_of.ensures
