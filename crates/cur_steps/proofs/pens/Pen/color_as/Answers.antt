use Rattle.std.proofs.Common.{◌≡◌, Some, true, sym, ◌∙◌}
use Rattle.ti_rows.specs.declared.rows.Row.TheVariants.{Op}
use Rattle.ti_conforms.specs.Certified.{has}
use Rattle.cur_steps.specs.Beliefs.{Belief}
use Rattle.cur_steps.specs.Grounds.{color_limit, color_of, with_color}
use Rattle.cur_steps.proofs.Actions.{acts_nothing}
use Rattle.cur_steps.proofs.Sameness.{color_equal}
use Rattle.cur_steps.proofs.Turns.{color_kept, color_paints, color_set, color_within, colored_has}
use Rattle.cur_steps.proofs.pens.Pen.color_as.Goals as goal

pub returns-then-same-clause-step : goal.returns-then-same-clause-step
returns-then-same-clause-step g c h =
    let t = g.C.Certificate.table c.args.checked.now in
    let b = c.args.self.now.belief in
    let x = c.args.ground in
    let d : Belief = record b { brush = with_color x c.args.wanted b.brush } in
    let same : color_of x b.brush ≡ c.args.wanted = sym c.color_of.ensures ∙ color_equal c.color_of.result c.args.wanted (sym c.same_color-same.ensures.value ∙ c.if-same.true) in
    rw c.with_color-self.ensures (acts_nothing g.W.Wire.went g.W.Wire.failures g.met.W.Wire.lawful c.args.self.now.wire t c.requires.checked _ h h b d (color_kept t x h b c.args.wanted same))

pub returns-in_default-clause-step : goal.returns-in_default-clause-step
returns-in_default-clause-step g c h =
    let t = g.C.Certificate.table c.args.checked.now in
    let b = c.args.self.now.belief in
    let x = c.args.ground in
    let d : Belief = record b { brush = with_color x c.args.wanted b.brush } in
    rw c.with_color-self.ensures (acts_nothing g.W.Wire.went g.W.Wire.failures g.met.W.Wire.lawful c.args.self.now.wire t c.requires.checked _ h h b d (color_kept t x h b c.args.wanted (c.requires.now c.in_default.is ∙ sym c.in_default.is)))

pub returns-clause-step : goal.returns-clause-step
returns-clause-step g c h =
    let t = g.C.Certificate.table c.args.checked.now in
    let b = c.args.self.now.belief in
    let x = c.args.ground in
    let color = c.in-Some.color in
    let d : Belief = record b { brush = with_color x (Some color) b.brush } in
    let known : has t Op ≡ true = colored_has (has t Op) color (λ e. sym c.in-Some.is ∙ c.requires.colors e) in
    rw c.with_color-self.ensures (rw c.in-Some.is (c.send_line_of.ensures.step (color_limit t x) h b d (rw c.row_of_color.ensures (color_paints x color)) (rw c.row_of_color.ensures (color_within t x color))
    (rw c.row_of_color.ensures (color_set t c.requires.checked known x h b color))))
