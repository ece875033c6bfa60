-- A terminal that shows the greeting (X/Open Curses Issue 7, refresh).
use Rattle.std.specs.Prelude.{ℕ, List, Option}
use Rattle.curses.specs.Terminals.Screen.{State}
use Rattle.curses.specs.Windows.VirtualScreen.{Screen}
use Rattle.curses.specs.Terminals.Ends.{Ends}
use Rattle.curses.specs.Terminals.Certified.{Table}
use Rattle.curses.specs.Painters.modes.{Normal}
use Rattle.curses.specs.Painters.Update.{IsFresh, Shows}
use Rattle.curses.specs.Painters.Inks.{ink_at}
use Rattle.curses.specs.Painters.Painters.{wanted_of}
use Rattle.hello.specs.Greeting.{IsGreeting}

-- The bytes sent make every terminal with which a session may begin show the greeting: its cells, and a visible
-- cursor in its place.
pub record Greets {W : Type 0} (went : W → W → List ℕ → Type 0) (old new : W) (t : Table)
    (partners : ℕ → Option ℕ) : Type 0 where
  pub screen : Screen
  pub greeting : IsGreeting t.rows t.cols screen
  pub bytes : List ℕ
  pub sent : went old new bytes
  pub shows : (s : State) → IsFresh t s → Ends s bytes (Shows t (ink_at t partners screen) (wanted_of screen Normal))
