use Rattle.std.proofs.Common.{rules}
use Rattle.hello.proofs.Shown.{greets}
use Rattle.hello.proofs.greeting.greet.Goals as goal

pub returns : goal.returns
returns g c = record {
  shown = greets g.W.Wire.went c.args.wire.now c.update.new.wire g.C.Certificate.table g.C.Certificate.partners c.args.checked c.in_ok-painter.painter c.update.new.self.session
      c.unwrap-size.result.rows c.unwrap-size.result.cols c.in_ok-screen.screen c.in_ok-painter.ensures.certificate c.in_ok-painter.ensures.fresh c.in_ok-painter.ensures.mode (search (rules, c.new.ensures.value, c.unwrap-size.ensures, c.rows.ensures.value)) (search (rules, c.new.ensures.value, c.unwrap-size.ensures, c.cols.ensures.value))
      c.in_ok-screen.ensures.greeting c.in_ok-update.ensures.refreshes;
}
