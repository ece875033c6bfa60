use Rattle.cur_drawing.proofs.RefusalFacts as refusing
use Rattle.cur_pads.proofs.drawing_laws.refusals_change_nothing.Goals as goal

pub returns-clause-addch : goal.returns-clause-addch
returns-clause-addch c = refusing.added

pub returns-clause-insch : goal.returns-clause-insch
returns-clause-insch c = refusing.insert_char

pub returns-clause-hline : goal.returns-clause-hline
returns-clause-hline c = refusing.horizontal

pub returns-clause-vline : goal.returns-clause-vline
returns-clause-vline c = refusing.vertical

pub returns-clause-border : goal.returns-clause-border
returns-clause-border c = refusing.bordered

pub returns-clause-bkgd : goal.returns-clause-bkgd
returns-clause-bkgd c = refusing.change_background

pub returns-clause-scroll : goal.returns-clause-scroll
returns-clause-scroll c = refusing.scroll_by
