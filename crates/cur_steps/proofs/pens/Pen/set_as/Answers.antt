use Rattle.std.proofs.Common.{Some}
use Rattle.cur_steps.specs.Beliefs.{Passes, set_row}
use Rattle.cur_steps.proofs.Actions.{acts_nothing}
use Rattle.cur_steps.proofs.Turns.{set_chosen, set_limit, set_paints, set_absent}
use Rattle.cur_steps.proofs.pens.Pen.set_as.Goals as goal

pub returns-then-is_active-clause-step : goal.returns-then-is_active-clause-step
returns-then-is_active-clause-step g c h =
    let t = g.C.Certificate.table c.args.checked.now in
    let b = c.args.self.now.belief in
    acts_nothing g.W.Wire.went g.W.Wire.failures g.met.W.Wire.lawful c.args.self.now.wire t c.requires.checked _ h h b b (λ s x. x)

pub returns-clause-step : goal.returns-clause-step
returns-clause-step g c h =
    let t = g.C.Certificate.table c.args.checked.now in
    let b = c.args.self.now.belief in
    let set = c.args.graphic in
    let passes : Passes t (set_row set) h b (record b { graphic = Some set }) = record { turns = λ there. set_chosen t h b set; stays = λ none. set_absent t c.requires.checked set c.requires.lines none h b } in
    c.send_line_of.ensures.step t.longest.sets h b (record b { graphic = Some set }) (rw c.row_of_set.ensures (set_paints set)) (rw c.row_of_set.ensures (set_limit t set)) (rw c.row_of_set.ensures passes)
