use Rattle.std.proofs.Common.{arith}
use Rattle.ti_diffs.proofs.PieceFacts.{all_passed, next_behind}
use Rattle.ti_diffs.proofs.pieces.pieces_of.Goals as goal

pub loop-passed-preserved : goal.loop-passed-preserved
loop-passed-preserved c =
    next_behind c.args.old.now c.args.new.now c.behind.result.now c.behind-in-loop-passed.result.now c.loop-passed.passed c.loop-passed.added
    c.old_lines-passed.result c.new_lines-added.result c.loop-passed.pieces.items c.push.new.self.items c.first_piece-piece.result c.behind.ensures c.behind-in-loop-passed.ensures
    c.old_lines-passed.ensures c.new_lines-added.ensures c.in_ok-push.ensures.items c.first_piece-piece.ensures.front c.first_piece-piece.ensures.within
    c.loop-passed.invariant.0 c.loop-passed.invariant.1 c.loop-passed.invariant.2

pub returns : goal.returns
returns c = all_passed c.args.old.now c.args.new.now c.loop-passed.passed c.loop-passed.added c.loop-passed.pieces.items
    (omega (arith, c.if-passed-old.false)) (omega (arith, c.if-added-new.false)) c.loop-passed.invariant.2
