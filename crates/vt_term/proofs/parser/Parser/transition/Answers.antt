use Rattle.vt_term.proofs.Transitions.{transition_outside_holds}
use Rattle.vt_term.proofs.parser.Parser.transition.Goals as goal

pub returns-in-Outside-clause-transition : goal.returns-in-Outside-clause-transition
returns-in-Outside-clause-transition c =
    let at = rw c.in-Outside.is at c.self.invariant.at in
    rw (← c.self.view_is, at) (transition_outside_holds c.args.byte c.transition_outside.result c.transition_outside.ensures)
