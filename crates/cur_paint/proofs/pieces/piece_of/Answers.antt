use Rattle.std.proofs.Common.{◌+◌, ◌-◌, length-take, arith}
use Rattle.cur_steps.specs.declared.inks.Cells.{Cells}
use Rattle.cur_paint.proofs.SpanFacts.{are_of, same_by}
use Rattle.cur_paint.proofs.pieces.piece_of.Goals as goal

pub returns-clause-cells : goal.returns-clause-cells
returns-clause-cells g c k lt =
    let new = g.N.Picture.cells c.args.screens.now.new.now in
    let rest : Cells = record { row = c.args.cells.row; from = c.args.cells.from + 1; count = c.args.cells.count - 1 } in
    are_of new rest c.args.cells.from c.text_like-count.result c.args.ink c.text_like-count.new.text c.requires.ink c.text_like-count.ensures.found.characters k
    (omega (arith, lt, c.piece_length.ensures.within, length-take c.text_like-count.result c.shows_text.new.shown))

pub returns-clause-bytes : goal.returns-clause-bytes
returns-clause-bytes g c =
    let old = g.O.Picture.cells c.args.screens.now.old.now in
    let new = g.N.Picture.cells c.args.screens.now.new.now in
    let rest : Cells = record { row = c.args.cells.row; from = c.args.cells.from + 1; count = c.args.cells.count - 1 } in
    let n = c.text_like-count.result in
    let text = c.text_like-count.new.text in
    let are = are_of new rest c.args.cells.from n c.args.ink text c.requires.ink c.text_like-count.ensures.found.characters in
    c.piece_length.ensures.bytes old new rest.row rest.from (same_by old new rest c.args.ink n text c.shows_text.new.shown are c.shows_text.ensures.found)
