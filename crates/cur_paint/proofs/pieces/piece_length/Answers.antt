use Rattle.std.proofs.Common.{arith}
use Rattle.cur_paint.specs.Differ.{span}
use Rattle.cur_paint.proofs.SpanFacts.{gaps_wider, piece_short}
use Rattle.cur_paint.proofs.pieces.piece_length.Goals as goal

pub returns-then-start-same-clause-bytes : goal.returns-then-start-same-clause-bytes
returns-then-start-same-clause-bytes g c old new row from same =
    let start = c.piece_end-start.result in
    piece_short (g.C.Certificate.table c.args.checked.now) (span old new row from start) 0 start (c.piece_end-start.ensures.few old new row from same) (omega arith)

pub returns-clause-bytes : goal.returns-clause-bytes
returns-clause-bytes g c old new row from same =
    let n = c.piece_end.result in
    piece_short (g.C.Certificate.table c.args.checked.now) (span old new row from n) c.min-few.result n (c.piece_end.ensures.few old new row from same)
    (omega (arith, c.min-few.ensures, c.line_bytes.ensures.short))

pub piece_end-requires-clause-before : goal.piece_end-requires-clause-before
piece_end-requires-clause-before g c = gaps_wider c.args.same.now c.min-few.result c.piece_end-start.result c.piece_end-start.ensures.few
