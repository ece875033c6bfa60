-- (Serves the code alone.) The calls that draw the greeting.
use Rattle.std.specs.Prelude.{Ok, Err, codes, pos}
use Rattle.curses.specs.Windows.Calls.{added_all, bordered, box_of, drawn_line}
use Rattle.curses.specs.Windows.Options.{move_to}
use Rattle.curses.specs.Windows.Desks.{State, DeskStep, on_cursor, on_grid, on_window}
use Rattle.curses.specs.Windows.Creations.{newwin}

-- the next step is done only if the call before it wasn't refused
abbrev pub and_then : DeskStep → (State → DeskStep) → DeskStep
and_then (d, Ok u) next = next d
and_then (d, Err e) next = (d, Err e)

abbrev pub written : State → DeskStep
written d =
    and_then (on_grid d 1 (bordered (box_of (drawn_line 120) (drawn_line 113)))) (λ boxed.
    and_then (on_cursor boxed 1 (move_to (pos 1) (pos 2))) (λ moved.
    on_window moved 1 (added_all (codes "Hello, world!"))))

abbrev pub greeting : State → DeskStep
greeting d = and_then (newwin d 1 (pos 3) (pos 17) (pos 1) (pos 4)) written
