use Rattle.cur_windows.proofs.TouchedFacts.{shows_full}
use Rattle.cur_windows.proofs.desks.Desk.noutrefresh_lines.Goals as goal

pub noutrefresh_lines_marked-requires-clause-touched : goal.noutrefresh_lines_marked-requires-clause-touched
noutrefresh_lines_marked-requires-clause-touched c = shows_full c.unknown-touched.result c.args.self.now c.args.screen.now.grid c.unknown-touched.ensures
