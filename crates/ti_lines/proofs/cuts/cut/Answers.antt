use Rattle.std.proofs.Common.{◌∙◌, ◌+◌, ap}
use Rattle.std.proofs.lemmas.List.{take_rest}
use Rattle.ti_lines.proofs.CutFacts.{around, cut_found}
use Rattle.ti_lines.proofs.cuts.cut.Goals as goal

pub returns-in-None-clause-value : goal.returns-in-None-clause-value
returns-in-None-clause-value c = ap (around c.args.text.now) c.in-None.ensures.value ∙ cut_found c.args.byte c.args.text.now

pub returns-in-Some-clause-value : goal.returns-in-Some-clause-value
returns-in-Some-clause-value c = rw (take_rest c.args.text.now (c.in-Some.at + 1)) (ap (around c.args.text.now) c.in-Some.ensures.value ∙ cut_found c.args.byte c.args.text.now)
