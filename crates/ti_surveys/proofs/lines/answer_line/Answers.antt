use Rattle.ti_surveys.specs.Told.{told_of}
use Rattle.ti_surveys.proofs.Answering.{as_no}
use Rattle.ti_surveys.proofs.lines.answer_line.Goals as goal

-- the refusal is the certifier's
pub returns-in-Err : goal.returns-in-Err
returns-in-Err g c =
    as_no told_of (g.C.Certifier.certifies c.args.asked.now.certifier.now c.args.entry.now c.args.asked.now.size.rows c.args.asked.now.size.cols)
    (g.C.Certifier.refuses c.args.asked.now.certifier.now c.args.entry.now c.args.asked.now.size.rows c.args.asked.now.size.cols) c.args.name.now c.in-Err.no c.no_line.result c.in-Err.ensures.refuses
    c.no_line.ensures.claims c.no_line.ensures.says
