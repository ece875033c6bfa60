use Rattle.cur_moves.proofs.MoveFacts.{straight_way}
use Rattle.cur_moves.proofs.moves.straight.Goals as goal

pub returns-clause-way : goal.returns-clause-way
returns-clause-way g c = λ from. straight_way (g.C.Certificate.table c.args.checked.now) c.requires.checked from c.args.row c.args.col c.requires.row c.requires.col
