use Rattle.vt_effects.proofs.Basics.{clear_record, cup_record, sgr0_record, home_record, el_record}
use Rattle.vt_effects.proofs.laws.basic_records.Goals as goal

pub returns-clause-clear : goal.returns-clause-clear
returns-clause-clear c = λ rows cols start z. clear_record rows cols start z

pub returns-clause-cup : goal.returns-clause-cup
returns-clause-cup c = λ rows cols row col start z h k. cup_record rows cols row col start z h k

pub returns-clause-sgr0 : goal.returns-clause-sgr0
returns-clause-sgr0 c = λ rows cols start z. sgr0_record rows cols start

pub returns-clause-home : goal.returns-clause-home
returns-clause-home c = λ rows cols start z. home_record rows cols start z

pub returns-clause-el : goal.returns-clause-el
returns-clause-el c = λ rows cols start z. el_record rows cols start
