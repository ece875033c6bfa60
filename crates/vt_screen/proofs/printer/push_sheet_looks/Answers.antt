use Rattle.vt_screen.proofs.Prints.{looks_joined}
use Rattle.vt_screen.proofs.printer.push_sheet_looks.Goals as goal

pub returns : goal.returns
returns c = looks_joined _ _ _ c.parts.result.0.now c.parts.result.1.now _ c.in_ok-push_looks.ensures c.in_ok-push_looks-2.ensures c.parts.ensures
