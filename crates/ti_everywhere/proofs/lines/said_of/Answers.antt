use Rattle.std.proofs.Common.{ap}
use Rattle.ti_surveys.specs.Told.{Told, told_of}
use Rattle.ti_surveys.specs.declared.said.Said.{Said}
use Rattle.ti_everywhere.specs.Lines.{Says}
use Rattle.ti_everywhere.proofs.Results.{map_ok}
use Rattle.ti_everywhere.proofs.lines.said_of.Goals as goal

pub returns : goal.returns
returns c = λ entry h. map_ok c.of_line.result _ (λ (said : Said). Says entry (told_of said))
    (λ said e. record { answer = c.counted.result; is_true = c.counted.ensures entry h; answers = ap (λ (t : Told). t.answers) e; places = ap (λ (t : Told). t.places) e })
    c.of_line.ensures
