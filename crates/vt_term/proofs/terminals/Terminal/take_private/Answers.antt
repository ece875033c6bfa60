use Rattle.std.proofs.Common.{◌∙◌, ap}
use Rattle.vt_screen.proofs.Keeps.{act_kept}
use Rattle.vt_term.specs.Screen.{State}
use Rattle.vt_term.proofs.Keeps.{of_private_acts}
use Rattle.vt_term.proofs.AtOnce.{private_runs}
use Rattle.vt_term.proofs.terminals.Terminal.take_private.Goals as goal

pub returns-in-Some-clause-runs : goal.returns-in-Some-clause-runs
returns-in-Some-clause-runs c = rw (c.act.ensures, c.of_private_numbers-function.ensures, ← c.self.view_is)
    (private_runs c.self.inside.display c.self.inside.parser c.args.bytes.now _ c.in-Some.found.at c.in-Some.found.last (ap (λ (s : State). s.rest) c.self.view_is ∙ c.requires) c.in-Some.ensures.short c.in-Some.ensures.read)

pub returns-in-Some-clause-rows : goal.returns-in-Some-clause-rows
returns-in-Some-clause-rows c = rw (c.act.ensures, c.of_private_numbers-function.ensures, ← c.self.view_is) (act_kept _ _ (of_private_acts c.in-Some.found.last _) c.size.ensures.screen).rows

pub returns-in-Some-clause-cols : goal.returns-in-Some-clause-cols
returns-in-Some-clause-cols c = rw (c.act.ensures, c.of_private_numbers-function.ensures, ← c.self.view_is) (act_kept _ _ (of_private_acts c.in-Some.found.last _) c.size.ensures.screen).cols
