use Rattle.ti_lines.proofs.Texts.{text_is, text_only}
use Rattle.ti_lines.proofs.laws.text_is_cut.Goals as goal

pub returns-clause-is : goal.returns-clause-is
returns-clause-is c = text_is

pub returns-clause-only : goal.returns-clause-only
returns-clause-only c = λ text last lines h. text_only lines last text h
