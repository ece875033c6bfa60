use Rattle.std.proofs.Common.{◌≡◌, ◌+◌, ◌≤◌, None, false, length, ap, arith}
use Rattle.std.proofs.lemmas.Result.{err_from_is_err_and}
use Rattle.cur_steps.proofs.Stops.{steps_fail, steps_next, steps_wider, on_ok_map}
use Rattle.ti_rows.specs.declared.rows.Row.TheVariants.{Sgr, Sgr0}
use Rattle.ti_conforms.specs.Certified.{IsLost, has, text_of, lengths, singles}
use Rattle.cur_steps.specs.Pieces.{IsPaint}
use Rattle.cur_steps.specs.Inks.{no_attributes}
use Rattle.cur_steps.specs.Beliefs.{Agrees, Belief}
use Rattle.cur_steps.proofs.Answers.{has_none}
use Rattle.cur_steps.proofs.SetFacts.{set_forgotten}
use Rattle.cur_steps.proofs.SingleFacts.{sgr_absent, singly_dressed}
use Rattle.cur_steps.proofs.pens.Pen.attributes_singly.Goals as goal

pub returns-in_err-strip-clause-step : goal.returns-in_err-strip-clause-step
returns-in_err-strip-clause-step g c h =
    let e = err_from_is_err_and c.from_residual.result c.from_residual.ensures.1 in
    let t = g.C.Certificate.table c.args.checked.now in
    let b = c.args.self.now.belief in
    let none : has t (Sgr no_attributes) ≡ false = sgr_absent t c.requires.checked.attributes c.args.wanted (has_none t (Sgr c.args.wanted) c.requires.sgr) in
    let short : length (text_of t Sgr0) + lengths t singles ≤ t.longest.sgr = (c.requires.checked.singles none).short in
    rw e.1 (steps_fail g.W.Wire.went g.W.Wire.failures c.args.self.now.wire c.strip.new.self.wire _ _ (IsPaint t) (length (text_of t Sgr0)) t.longest.sgr (IsLost t) (Agrees t h b) (Agrees t h c.strip.new.self.belief) (Agrees t h c.strip.new.self.belief)
    (omega (arith, short)) (c.in_err-strip.ensures.step h))

pub returns-clause-brush : goal.returns-clause-brush
returns-clause-brush g c =
    on_ok_map c.add_singles.result _ _ (singly_dressed c.args.wanted (record c.strip.new.self.belief { graphic = None }) c.add_singles.new.self.belief (ap (λ (x : Belief). x.brush) c.strip.ensures.belief)) c.add_singles.ensures.belief

pub returns-clause-step : goal.returns-clause-step
returns-clause-step g c h =
    let t = g.C.Certificate.table c.args.checked.now in
    let b = c.args.self.now.belief in
    let none : has t (Sgr no_attributes) ≡ false = sgr_absent t c.requires.checked.attributes c.args.wanted (has_none t (Sgr c.args.wanted) c.requires.sgr) in
    let short : length (text_of t Sgr0) + lengths t singles ≤ t.longest.sgr = (c.requires.checked.singles none).short in
    let d : Belief = record c.strip.new.self.belief { graphic = None } in
    steps_next g.W.Wire.went g.W.Wire.failures g.met.W.Wire.lawful c.args.self.now.wire c.strip.new.self.wire c.add_singles.new.self.wire _ c.add_singles.result (IsPaint t) (length (text_of t Sgr0)) (lengths t singles) t.longest.sgr (IsLost t)
    (Agrees t h b) (Agrees t h c.strip.new.self.belief) (Agrees t h c.add_singles.new.self.belief) short (c.in_ok-strip.ensures.step h)
    (steps_wider g.W.Wire.went g.W.Wire.failures c.strip.new.self.wire c.add_singles.new.self.wire c.add_singles.result (IsPaint t) (lengths t singles) (lengths t singles) (IsLost t) (Agrees t h d) (Agrees t h c.add_singles.new.self.belief) (Agrees t h c.strip.new.self.belief) (Agrees t h c.add_singles.new.self.belief)
    (omega arith) (set_forgotten t h c.strip.new.self.belief) (λ s x. x) (c.add_singles.ensures.step h))
