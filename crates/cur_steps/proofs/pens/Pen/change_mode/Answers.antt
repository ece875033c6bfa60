use Rattle.std.proofs.Common.{Some}
use Rattle.cur_steps.specs.Beliefs.{Belief}
use Rattle.cur_steps.proofs.Turns.{mode_set}
use Rattle.cur_steps.proofs.pens.Pen.change_mode.Goals as goal

pub returns-clause-step : goal.returns-clause-step
returns-clause-step g c h =
    let t = g.C.Certificate.table c.args.checked.now in
    let b = c.args.self.now.belief in
    let d : Belief = record b { mode = Some c.args.mode } in
    rw c.row_of_mode.ensures at c.send_line_of.ensures.text b d (λ x. mode_set t c.args.mode c.requires.lines x b c.requires.shown) h
