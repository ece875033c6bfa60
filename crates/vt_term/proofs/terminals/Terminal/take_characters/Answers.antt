use Rattle.std.proofs.Common.{◌∙◌, ap, take}
use Rattle.vt_screen.proofs.Runs.{all_printed_kept}
use Rattle.vt_term.specs.Screen.{State}
use Rattle.vt_term.proofs.AtOnce.{characters_run}
use Rattle.vt_term.proofs.terminals.Terminal.take_characters.Goals as goal

pub returns-clause-runs : goal.returns-clause-runs
returns-clause-runs c = rw (c.print_front.ensures.screen, ← c.self.view_is)
    (characters_run c.self.inside.display c.self.inside.parser (take c.print_front.result c.args.bytes.now) (ap (λ (s : State). s.rest) c.self.view_is ∙ c.requires) c.print_front.ensures.printed)

pub returns-clause-rows : goal.returns-clause-rows
returns-clause-rows c = rw (c.print_front.ensures.screen, ← c.self.view_is) (all_printed_kept _ _ c.print_front.ensures.printed c.size.ensures.screen).rows

pub returns-clause-cols : goal.returns-clause-cols
returns-clause-cols c = rw (c.print_front.ensures.screen, ← c.self.view_is) (all_printed_kept _ _ c.print_front.ensures.printed c.size.ensures.screen).cols
