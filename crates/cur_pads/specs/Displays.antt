-- Showing a part of a pad (X/Open Curses Issue 7, pnoutrefresh).
use Rattle.std.specs.Prelude.{ℕ, Ok, ℤ, pos, negsuc}
use Rattle.cur_drawing.specs.declared.refusals.Refusal.TheVariants.{OutOfScreen, OutOfWindow}
use Rattle.cur_drawing.specs.Calls.{place}
use Rattle.cur_windows.specs.Copies.{in_order}
use Rattle.cur_windows.specs.Desks.{State}
use Rattle.cur_drawing.specs.Spans.{rectangle}
use Rattle.cur_windows.specs.Pads.{part_shown}
use Rattle.cur_screens.specs.VirtualScreen.{Screen}
use Rattle.cur_windows.specs.Refreshes.{Refresh, if_shown}
use Rattle.cur_pads.specs.Creations.{pad_of}
use Rattle.cur_pads.specs.Ranges.{between, from}

-- a first row or column: a negative number counts as 0
abbrev pub start : ℤ → ℕ
start (pos n) = n
start (negsuc n) = 0

abbrev pub done : State × Screen → Refresh
done (d, v) = (d, v, Ok tt)

-- pnoutrefresh: the pad's cells from (pr, pc) on are copied to the screen's rows sr to er and columns sc to ec, ends
-- included
abbrev pub pnoutrefresh : State → Screen → ℕ → ℤ → ℤ → ℤ → ℤ → ℤ → ℤ → Refresh
pnoutrefresh d v n pr pc sr sc er ec =
    if_shown (pad_of d n) d v (λ s. if_shown (in_order (pos (start sr)) er (pos (start sc)) ec) d v (λ u.
    if_shown (rectangle (between (start sr) er d.rows) (between (start sc) ec d.cols) OutOfScreen) d v (λ to.
    if_shown (rectangle (from (start pr) to.rows s.window.area.rows)
    (from (start pc) to.cols s.window.area.cols) OutOfWindow) d v (λ part.
    done (part_shown d v n s part (place to.top to.left))))))
