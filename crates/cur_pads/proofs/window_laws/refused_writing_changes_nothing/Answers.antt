use Rattle.cur_drawing.specs.Calls as calls
use Rattle.cur_drawing.proofs.RefusalFacts as refusing
use Rattle.cur_windows.proofs.Supports as backing
use Rattle.cur_pads.proofs.window_laws.refused_writing_changes_nothing.Goals as goal

pub returns-clause-addch : goal.returns-clause-addch
returns-clause-addch c = λ d n put. backing.on_window_but d n (calls.added put) (refusing.added put)

pub returns-clause-bkgd : goal.returns-clause-bkgd
returns-clause-bkgd c = λ d n put. backing.on_window d n (calls.change_background put) (refusing.change_background put)

pub returns-clause-insch : goal.returns-clause-insch
returns-clause-insch c = λ d n put. backing.on_grid d n (calls.insert_char put) (refusing.insert_char put)

pub returns-clause-hline : goal.returns-clause-hline
returns-clause-hline c = λ d n put count. backing.on_grid d n (calls.horizontal put count) (refusing.horizontal put count)

pub returns-clause-vline : goal.returns-clause-vline
returns-clause-vline c = λ d n put count. backing.on_grid d n (calls.vertical put count) (refusing.vertical put count)

pub returns-clause-border : goal.returns-clause-border
returns-clause-border c = λ d n border. backing.on_grid d n (calls.bordered border) (refusing.bordered border)

pub returns-clause-scroll : goal.returns-clause-scroll
returns-clause-scroll c = λ d n count. backing.on_grid d n (calls.scroll_by count) (refusing.scroll_by count)
