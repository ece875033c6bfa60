-- The end of a run, under weaker conditions.
use Rattle.std.proofs.Common.{◌≡◌, ℕ, List, [], sym, subst}
use Rattle.vt_term.specs.Screen.{State, IsOfSize}
use Rattle.vt_term.specs.Text.{IsOpen}
use Rattle.vt_term.proofs.Sequences.{empty_open}
use Rattle.vt_term.proofs.Runs.{runs_nothing, run_keeps}
use Rattle.vt_term.specs.Ends.{Ends}

-- the state does not change
pub stays : (s : State) (A : State → Type 0) → s.rest ≡ [] → A s → Ends s [] A
stays s A rest h = record { after = s; runs = runs_nothing s (subst IsOpen (sym rest) empty_open); there = h }

pub ends_as : (s : State) (bytes : List ℕ) (A B : State → Type 0) → ((t : State) → A t → B t) → Ends s bytes A → Ends s bytes B
ends_as s bytes A B f e = record { after = e.after; runs = e.runs; there = f e.after e.there }

-- a run preserves the size
pub ends_sized : (rows cols : ℕ) (s : State) (bytes : List ℕ) (A B : State → Type 0) → IsOfSize rows cols s → ((t : State) → IsOfSize rows cols t → A t → B t) → Ends s bytes A → Ends s bytes B
ends_sized rows cols s bytes A B size f e = record { after = e.after; runs = e.runs; there = f e.after (run_keeps rows cols s e.after bytes size e.runs) e.there }
