use Rattle.cur_paint.proofs.pieces.differs_in.Given as goal

abbrev pub invariant-loop-n : goal.invariant-loop-n
invariant-loop-n g l = Unit {0}
