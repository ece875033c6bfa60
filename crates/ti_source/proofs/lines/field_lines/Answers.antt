use Rattle.std.proofs.Common.{◌∙◌}
use Rattle.ti_source.proofs.FieldLines.{lines_of_none, lines_of_some}
use Rattle.ti_source.proofs.lines.field_lines.Goals as goal

pub returns-in-None : goal.returns-in-None
returns-in-None c = c.new.ensures.items ∙ lines_of_none c.args.text.now c.args.entry c.in-None.ensures.none

pub returns-in_ok-lines-in-Some : goal.returns-in_ok-lines-in-Some
returns-in_ok-lines-in-Some c = c.in_ok-lines-in-Some.ensures ∙ lines_of_some c.args.text.now c.args.entry _ c.in-Some.ensures.found
