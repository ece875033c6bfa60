-- The first refresh shows the greeting.
use Rattle.std.proofs.Common.{◌≡◌, ℕ, List, Option, sym, subst}
use Rattle.curses.specs.Terminals.Screen.{State}
use Rattle.curses.specs.Windows.VirtualScreen.{Screen}
use Rattle.curses.specs.Terminals.Certified.{Table}
use Rattle.curses.specs.Painters.{Cursor, Ink, Mode, Knowledge, Status}
use Rattle.curses.specs.Painters.modes.{Normal}
use Rattle.curses.specs.Painters.Update.{Fits, IsFresh, Refreshed}
use Rattle.curses.specs.Painters.statuses.{Fresh}
use Rattle.curses.specs.Painters.Inks.{ink_at}
use Rattle.curses.specs.Painters.Painters.{Painted, wanted_of}
use Rattle.hello.specs.Greeting.{IsGreeting}
use Rattle.hello.specs.Displays.{Greets}

fresh_fits : (t : Table) (shown : ℕ → ℕ → Ink) (status : Status) (c : Cursor) (s : State) → status ≡ Fresh → IsFresh t s → Fits t shown status c s
fresh_fits t shown status c s e h = subst (λ (x : Status). Fits t shown x c s) (sym e) h

sized : (rows cols : ℕ) (t : Table) (v : Screen) → rows ≡ t.rows → cols ≡ t.cols → IsGreeting rows cols v → IsGreeting t.rows t.cols v
sized rows cols t v e f h = subst (λ (n : ℕ). IsGreeting t.rows n v) f (subst (λ (n : ℕ). IsGreeting n cols v) e h)

pub greets : {W C : Type 0} (went : W → W → List ℕ → Type 0) (old new : W) (table : C → Table) (partners : C → ℕ → Option ℕ) (checked : C) (p : Painted C) (after : Knowledge) (rows cols : ℕ) (v : Screen)
    → p.checked ≡ checked → p.session.status ≡ Fresh → p.mode ≡ Normal → rows ≡ (table checked).rows → cols ≡ (table checked).cols → IsGreeting rows cols v
    → Refreshed went old new (table p.checked) (ink_at (table p.checked) (partners p.checked) p.shown) (ink_at (table p.checked) (partners p.checked) v) (wanted_of v p.mode) p.session after
    → Greets went old new (table checked) (partners checked)
greets {W} {C} went old new table partners checked p after rows cols v same fresh normal rows_same cols_same greeting refreshed =
    let of_checked : Refreshed went old new (table checked) (ink_at (table checked) (partners checked) p.shown) (ink_at (table checked) (partners checked) v) (wanted_of v p.mode) p.session after
    = subst (λ (k : C). Refreshed went old new (table k) (ink_at (table k) (partners k) p.shown) (ink_at (table k) (partners k) v) (wanted_of v p.mode) p.session after) same refreshed in
    let done : Refreshed went old new (table checked) (ink_at (table checked) (partners checked) p.shown) (ink_at (table checked) (partners checked) v) (wanted_of v Normal) p.session after
    = subst (λ (m : Mode). Refreshed went old new (table checked) (ink_at (table checked) (partners checked) p.shown) (ink_at (table checked) (partners checked) v) (wanted_of v m) p.session after) normal of_checked in
    record {
      screen = v;
      greeting = sized rows cols (table checked) v rows_same cols_same greeting;
      bytes = done.bytes;
      sent = done.sent;
      shows = λ s first. done.lawful.shows s (fresh_fits (table checked) (ink_at (table checked) (partners checked) p.shown) p.session.status p.session.cursor s fresh first);
    }
