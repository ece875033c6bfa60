use Rattle.cur_drawing.proofs.Stability as staying
use Rattle.cur_pads.proofs.drawing_laws.erasing_stays_inside.Goals as goal

pub returns-clause-erase : goal.returns-clause-erase
returns-clause-erase c = staying.erased

pub returns-clause-clear : goal.returns-clause-clear
returns-clause-clear c = staying.cleared

pub returns-clause-delch : goal.returns-clause-delch
returns-clause-delch c = staying.delete_char

pub returns-clause-insertln : goal.returns-clause-insertln
returns-clause-insertln c = staying.insert_line

pub returns-clause-deleteln : goal.returns-clause-deleteln
returns-clause-deleteln c = staying.delete_line

pub returns-clause-clrtoeol : goal.returns-clause-clrtoeol
returns-clause-clrtoeol c = staying.clear_line

pub returns-clause-clrtobot : goal.returns-clause-clrtobot
returns-clause-clrtobot c = staying.clear_bottom

pub returns-clause-scroll : goal.returns-clause-scroll
returns-clause-scroll c = staying.scroll_by
