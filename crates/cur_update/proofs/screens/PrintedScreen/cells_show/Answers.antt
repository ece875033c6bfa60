use Rattle.std.proofs.Common.{◌∙◌, arith, length, refl}
use Rattle.std.proofs.lemmas.List.{get_or_read_under, length-set}
use Rattle.cur_drawing.specs.Cells.{space}
use Rattle.cur_update.proofs.Notes.{note_more}
use Rattle.cur_update.proofs.screens.PrintedScreen.cells_show.Goals as goal

pub loop-n-preserved : goal.loop-n-preserved
loop-n-preserved c = record {
  size = length-set c.loop-n.shown c.loop-n.n c.shows_cell.result ∙ c.loop-n.invariant.size;
  found = note_more c.args.self.now.means.now c.args.self.now.screen.now c.args.line.now c.args.ink c.args.text.now c.loop-n.shown c.loop-n.n c.index-line-n.result c.shows_cell.result
      (omega (arith, c.loop-n-test.true, c.requires.room, c.loop-n.invariant.size)) c.loop-n.invariant.found (get_or_read_under c.args.line.now c.loop-n.n (length c.args.line.now) c.index-line-n.result space c.index-line-n.is c.loop-n-test.true refl) c.shows_cell.ensures;
}
