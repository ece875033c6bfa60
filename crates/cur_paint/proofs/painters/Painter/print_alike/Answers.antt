use Rattle.std.proofs.Common.{◌+◌, refl, ap}
use Rattle.cur_steps.specs.Inks.{mixed}
use Rattle.cur_steps.specs.declared.beliefs.Belief.{Belief}
use Rattle.cur_steps.specs.declared.inks.Ink.{Ink}
use Rattle.cur_paint.proofs.Mixtures.{like_alike}
use Rattle.cur_paint.proofs.ModeFacts.{so}
use Rattle.cur_paint.proofs.Painting.{itself, mends_by}
use Rattle.cur_paint.proofs.painters.Painter.print_alike.Goals as goal

pub print_text-requires-clause-alike : goal.print_text-requires-clause-alike
print_text-requires-clause-alike g c k lt =
    let new = g.N.Picture.cells c.args.self.now.screens.now.new.now in
    like_alike c.args.self.now.pen.now.belief (new c.args.cells.row (c.args.cells.from + k)) c.args.ink _ (c.if-is_led_on.ensures.alike refl) (c.requires.alike k lt)

pub print_text-requires-clause-bytes : goal.print_text-requires-clause-bytes
print_text-requires-clause-bytes g c k lt = ap (λ (x : Ink). x.byte) (c.requires.alike k lt)

pub returns-then-is_led_on : goal.returns-then-is_led_on
returns-then-is_led_on g c =
    let t = g.C.Certificate.table c.args.self.now.screens.now.checked.now in
    let old = g.O.Picture.cells c.args.self.now.screens.now.old.now in
    let new = g.N.Picture.cells c.args.self.now.screens.now.new.now in
    let row = c.args.cells.row in
    let after = c.args.cells.from + c.args.cells.count in
    record {
      mends = mends_by c.args.cells.count (mixed old new row after) (c.print_text.ensures.step old) c.requires.bytes (itself t (mixed old new row after)) (so c.print_text.result _ (ap (λ (x : Belief). x.mode) c.print_text.ensures.belief)) (record { screens = refl; pen = refl });
    }
