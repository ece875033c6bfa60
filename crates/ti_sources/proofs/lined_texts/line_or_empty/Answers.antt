use Rattle.ti_sources.proofs.NumberedLines.{line_there, no_line}
use Rattle.ti_sources.proofs.lined_texts.line_or_empty.Goals as goal

pub returns-in-Some : goal.returns-in-Some
returns-in-Some c = line_there c.args.lines.now c.args.place c.get.result c.in-Some.line c.get.ensures.lookup c.in-Some.is

pub returns-in-None : goal.returns-in-None
returns-in-None c = no_line c.args.lines.now c.args.place c.get.result c.get.ensures.lookup c.in-None.is
