-- The state after a stream.
use Rattle.std.specs.Prelude.{ℕ, List, Option, None, Some}
use Rattle.vt_term.specs.Screen.{State, reset}
use Rattle.vt_term.specs.Run.{Runs, Sticks}
use Rattle.vt_term.specs.declared.terminals.Stuck.{Stuck}

-- the state of a terminal of this size that was reset and ran the bytes: all of them, or those before the byte that
-- fits nothing
abbrev pub Leaves : ℕ → ℕ → List ℕ → Option Stuck → State → Type 0
Leaves rows cols bytes None after = Runs (reset rows cols) bytes after
Leaves rows cols bytes (Some stuck) after = Sticks (reset rows cols) bytes stuck.at after
