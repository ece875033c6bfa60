use Rattle.std.proofs.Common.{arith}
use Rattle.cur_commands.proofs.RunFacts.{taken_over, through}
use Rattle.cur_commands.proofs.shows.play_in_memory.Goals as goal

pub returns-clause-ran : goal.returns-clause-ran
returns-clause-ran g c =
    taken_over (λ a. a.bytes.items) (λ a. a.failures) (g.C.Certificate.table c.args.checked) (g.C.Certificate.partners c.args.checked) c.args.taken.now c.run.new.wire c.args.calls.now c.in_ok-log.log.entries.items
    c.in_ok-log.ensures.ran (omega (arith, c.if-taken-gt0.false))

pub returns-clause-through : goal.returns-clause-through
returns-clause-through g c = through (g.C.Certificate.table c.args.checked) (g.C.Certificate.partners c.args.checked) _ _ c.args.calls.now c.in_ok-log.log.entries.items (returns-clause-ran g c)
