use Rattle.std.proofs.Common.{ℕ, ◌≤◌, length}
use Rattle.cur_steps.specs.declared.inks.Ink.{Ink}
use Rattle.cur_steps.specs.Inks.{blank_ink}
use Rattle.cur_paint.proofs.Bounds.{fresh_enough}
use Rattle.ti_rows.specs.declared.rows.Row.TheVariants.{Clear}
use Rattle.cur_paint.proofs.Agreeing.{IsThere, there}
use Rattle.cur_paint.proofs.Renewals.{draws_fresh, draws_lost, draws_known, draws_clear}
use Rattle.cur_paint.proofs.painters.Painter.draw.Goals as goal

pub returns-in-Known-true-clause-draws : goal.returns-in-Known-true-clause-draws
returns-in-Known-true-clause-draws g c =
    let t = g.C.Certificate.table c.args.self.now.screens.now.checked.now in
    let old = g.O.Picture.cells c.args.self.now.screens.now.old.now in
    let new = g.N.Picture.cells c.args.self.now.screens.now.new.now in
    let k : IsThere (t.line_of Clear) = there (t.line_of Clear) c.requires.can.paints.scene.checked.clears in
    let short : length k.bytes ≤ length t.resync = (c.requires.can.paints.scene.checked.lines Clear k.bytes k.is).short in
    let blank : ℕ → ℕ → Ink = λ i j. blank_ink in
    draws_clear c.in-Known-true.is-0 c.in-Known-true.is-1 k.is (fresh_enough t (length k.bytes) blank new short) (c.clear_first.ensures.step k.bytes k.is old) c.requires.can.paints.cursor c.clear_first.ensures.set

pub returns-in-Known-false-clause-draws : goal.returns-in-Known-false-clause-draws
returns-in-Known-false-clause-draws g c = draws_known c.in-Known-false.is-0 c.in-Known-false.is-1 c.mend.ensures.draws

pub returns-in-Fresh-default-clause-draws : goal.returns-in-Fresh-default-clause-draws
returns-in-Fresh-default-clause-draws g c = draws_fresh c.in-Fresh-default.is-0 c.repaint.ensures.step c.requires.can.paints.cursor c.repaint.ensures.set

pub returns-in-Lost-default-clause-draws : goal.returns-in-Lost-default-clause-draws
returns-in-Lost-default-clause-draws g c = draws_lost c.in-Lost-default.is-0 c.repaint-in-Lost-default.ensures.step c.requires.can.paints.cursor c.repaint-in-Lost-default.ensures.set
