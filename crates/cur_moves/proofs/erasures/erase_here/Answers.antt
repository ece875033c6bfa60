use Rattle.std.proofs.Common.{refl}
use Rattle.cur_moves.specs.Erasures.{erased}
use Rattle.cur_moves.proofs.Blanks.{erasure_limit, erasure_paints, turns_erased}
use Rattle.cur_moves.proofs.erasures.erase_here.Goals as goal

pub returns : goal.returns
returns g c =
    let t = g.C.Certificate.table c.args.checked.now in
    let b = c.args.pen.now.belief in
    let e = c.args.erasure in
    record {
      belief = refl;
      step = λ h. rw c.row_of_part.ensures at c.send_line.ensures.step t.longest.erasure h (erased e.part e.at.row e.at.col h) b b (erasure_paints e.part) (erasure_limit t e.part) (turns_erased t h b e.part e.at.row e.at.col c.requires.col c.requires.place c.requires.brush);
    }
