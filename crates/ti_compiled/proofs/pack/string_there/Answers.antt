use Rattle.std.proofs.Common.{◌∙◌}
use Rattle.ti_compiled.proofs.Rows.{string_row_at}
use Rattle.ti_compiled.proofs.pack.string_there.Goals as goal

pub returns-clause-value : goal.returns-clause-value
returns-clause-value c = c.get_string.ensures ∙ string_row_at c.args.entry.now c.cap_at.result c.args.position c.cap_at.ensures.place
