use Rattle.std.proofs.Common.{◌∙◌}
use Rattle.ti_compiled.proofs.Rows.{number_row_at}
use Rattle.ti_compiled.proofs.pack.number_there.Goals as goal

pub returns : goal.returns
returns c = c.get_number.ensures ∙ number_row_at c.args.entry.now c.cap_at.result c.args.position c.cap_at.ensures.place c.requires
