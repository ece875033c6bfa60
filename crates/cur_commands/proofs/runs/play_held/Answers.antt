use Rattle.std.proofs.Common.{◌≡◌, ◌∙◌, arith}
use Rattle.cur_commands.proofs.RunFacts.{held_over, through}
use Rattle.cur_commands.proofs.runs.play_held.Goals as goal

pub returns-then-held-gt0-clause-failure : goal.returns-then-held-gt0-clause-failure
returns-then-held-gt0-clause-failure g c =
    c.flush.ensures.holds.told (c.in_ok-run_paced.ensures.ran.ran.sent.told (λ lt. absurd (omega (arith, lt, c.requires.unfailed)))) c.if-held-gt0.true

pub returns-then-held-gt0-clause-same : goal.returns-then-held-gt0-clause-same
returns-then-held-gt0-clause-same g c = c.flush.ensures.holds.same ∙ c.in_ok-run_paced.ensures.ran.ran.sent.same

pub returns-clause-ran : goal.returns-clause-ran
returns-clause-ran g c =
    let none : c.flush.new.self.failures ≡ 0 = omega (arith, c.if-held-gt0.false) in
    let run = c.in_ok-run_paced.ensures.ran in
    let over = held_over g.O.Output.contents g.O.Output.has_failed (λ a. a.output) (λ a. a.buffer.now) (λ a. a.failures) (g.C.Certificate.table c.args.checked) (g.C.Certificate.partners c.args.checked)
    c.args.held.now c.run_paced.new.wire c.flush.new.self c.args.calls.now run.log run.ran c.flush.ensures.holds none c.requires.nothing c.flush.ensures.emptied in
    record { log = run.log; ran = over; through = through (g.C.Certificate.table c.args.checked) (g.C.Certificate.partners c.args.checked) _ _ c.args.calls.now run.log over }

pub returns-clause-same : goal.returns-clause-same
returns-clause-same g c = c.flush.ensures.holds.same ∙ c.in_ok-run_paced.ensures.ran.ran.sent.same
