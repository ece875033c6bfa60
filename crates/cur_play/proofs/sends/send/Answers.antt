use Rattle.std.proofs.Common.{ap, refl}
use Rattle.cur_paint.specs.Finish.{finish_text}
use Rattle.cur_update.specs.Painters.{Painted}
use Rattle.cur_play.proofs.MarkFacts.{same_cells}
use Rattle.cur_play.proofs.sends.send.Goals as goal

pub returns-in-Bell-clause-puts : goal.returns-in-Bell-clause-puts
returns-in-Bell-clause-puts g c = rw c.in-Bell.is (c.ring.ensures.puts c.args.screen.now)

pub returns-in-Ok-clause-puts : goal.returns-in-Ok-clause-puts
returns-in-Ok-clause-puts g c = rw c.in-End.is (
  finish_text (g.C.Certificate.table c.args.painter.now.checked) c.args.painter.now.session.status,
  record { sends = c.in-Ok.ensures.finishes; all = refl; shown = ap (λ (p : Painted _). p.shown) c.in-Ok.ensures.others },
)

pub returns-in-Err-clause-puts : goal.returns-in-Err-clause-puts
returns-in-Err-clause-puts g c = rw c.in-End.is (
  c.in-Err.ensures.finishes.front,
  record { sends = c.in-Err.ensures.finishes; all = refl; shown = ap (λ (p : Painted _). p.shown) c.in-Err.ensures.others },
)

pub returns-in-Bell-clause-marked : goal.returns-in-Bell-clause-marked
returns-in-Bell-clause-marked g c = same_cells c.args.marks.now _ c.args.screen.now c.args.painter.now.shown c.args.screen.now c.ring.ensures.shown refl c.requires.marked
