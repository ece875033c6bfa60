use Rattle.std.proofs.Common.{inl, [], ◌∷◌, ◌++◌, refl, sym}
use Rattle.std.proofs.lemmas.List.{append-nil}
use Rattle.vt_term.proofs.Sequences.{empty_open, escape_open}
use Rattle.vt_term.proofs.Drops.{restart_runs, cancel_runs}
use Rattle.vt_term.proofs.Keeps.{step_kept, token_acts}
use Rattle.vt_term.proofs.Splits.{fits_nothing}
use Rattle.vt_term.proofs.terminals.Terminal.accept.Goals as goal

pub returns-in-Ends-clause-accepts : goal.returns-in-Ends-clause-accepts
returns-in-Ends-clause-accepts c = rw (c.clear.ensures, c.act.ensures, c.function.ensures, ← c.self.view_is) (record {
  tokens = (c.self.inside.parser ++ c.args.byte ∷ []) ∷ [];
  splits = ([], sym (append-nil (c.self.inside.parser ++ c.args.byte ∷ [])), inl c.in-Ends.ensures.transition, (refl, empty_open));
  screen = refl;
})

pub returns-in-Fails-clause-accepts : goal.returns-in-Fails-clause-accepts
returns-in-Fails-clause-accepts c = rw (c.clear-in-Fails.ensures, ← c.self.view_is) (
  (λ other k. fits_nothing c.self.inside.parser [] c.self.inside.parser c.args.byte (refl, c.self.invariant) c.in-Fails.ensures.transition (record { tokens = k.tokens; rest = other.rest; splits = k.splits })),
  refl,
)

pub act-requires : goal.act-requires
act-requires c = rw c.function.ensures (token_acts (c.self.inside.parser ++ c.args.byte ∷ []))

pub returns-in-Ends-clause-rows : goal.returns-in-Ends-clause-rows
returns-in-Ends-clause-rows c = rw (c.act.ensures, c.function.ensures, ← c.self.view_is) (step_kept (c.self.inside.parser ++ c.args.byte ∷ []) c.self.inside.display c.size.ensures.screen).rows

pub returns-in-Ends-clause-cols : goal.returns-in-Ends-clause-cols
returns-in-Ends-clause-cols c = rw (c.act.ensures, c.function.ensures, ← c.self.view_is) (step_kept (c.self.inside.parser ++ c.args.byte ∷ []) c.self.inside.display c.size.ensures.screen).cols

pub open-requires-in-Restarts : goal.open-requires-in-Restarts
open-requires-in-Restarts c = rw c.clear-in-Restarts.ensures (escape_open c.args.byte c.in-Restarts.ensures.transition.1)

pub invariant_of-self-in-Restarts : goal.invariant_of-self-in-Restarts
invariant_of-self-in-Restarts c = rw (c.open-in-Restarts.ensures, c.clear-in-Restarts.ensures) (escape_open c.args.byte c.in-Restarts.ensures.transition.1)

pub invariant_of-self-in-Cancels : goal.invariant_of-self-in-Cancels
invariant_of-self-in-Cancels c = rw c.clear-in-Cancels.ensures empty_open

pub returns-in-Restarts-clause-accepts : goal.returns-in-Restarts-clause-accepts
returns-in-Restarts-clause-accepts c = rw (c.open-in-Restarts.ensures, c.clear-in-Restarts.ensures, ← c.self.view_is)
    (restart_runs (record { screen = c.self.inside.display; rest = c.self.inside.parser }) c.args.byte c.self.invariant c.in-Restarts.ensures.transition.0 c.in-Restarts.ensures.transition.1)

pub returns-in-Cancels-clause-accepts : goal.returns-in-Cancels-clause-accepts
returns-in-Cancels-clause-accepts c = rw (c.clear-in-Cancels.ensures, ← c.self.view_is)
    (cancel_runs (record { screen = c.self.inside.display; rest = c.self.inside.parser }) c.args.byte c.self.invariant c.in-Cancels.ensures.transition.0 c.in-Cancels.ensures.transition.1)
