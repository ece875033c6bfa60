-- The questions of programs about a window (X/Open Curses Issue 7, getyx, getmaxyx, inch).
use Rattle.std.specs.Prelude.{ℕ, ℤ, pos, nat_lt, ◌≡◌, ◌&&◌, length, Option, Some, None, Result, Ok, Err, if◌then◌else◌}
use Rattle.cur_drawing.specs.declared.refusals.Refusal.{Refusal}
use Rattle.cur_drawing.specs.declared.refusals.Refusal.TheVariants.{OutOfWindow}
use Rattle.cur_drawing.specs.declared.windows.Window.{Window}
use Rattle.cur_drawing.specs.Cells.{Content}
use Rattle.cur_drawing.specs.Grids.{Grid, cell_at, line_at}
use Rattle.curses_c.specs.Codes.{refusal_code}
use Rattle.curses_c.specs.declared.held.Held.{Held}
use Rattle.curses_c.specs.declared.queries.Standing.{Standing}

abbrev pub cursor_in : Result Window Refusal → Result (ℕ × ℕ) Refusal
cursor_in (Ok w) = Ok (w.row, w.col)
cursor_in (Err e) = Err e

abbrev pub standing : Content → Standing
standing c = record { byte = c.byte; attrs = c.attrs; pair = c.pair }

-- a cell of a window, which has this many lines and columns
abbrev pub cell_seen : Result Grid Refusal → ℕ → ℕ → Result Standing Refusal
cell_seen (Ok cells) row col =
    if nat_lt row (length cells) && nat_lt col (length (line_at cells row)) then Ok (standing (cell_at cells row col))
    else Err OutOfWindow
cell_seen (Err e) row col = Err e

-- an answer, if there is one, is written, and nothing else changes
abbrev pub Tells : {A : Type 0} → Result A Refusal → A → A → ℤ → Type 0
Tells (Ok x) old new code = (new ≡ x) × (code ≡ pos 0)
Tells (Err r) old new code = (new ≡ old) × (code ≡ refusal_code r)

-- a question changes nothing that a handle holds
abbrev pub Asks : {A : Type 0} → (Held → Result A Refusal) → Option Held → Option Held → A → A → ℤ → Type 0
Asks answer (Some h) k old new code = (k ≡ Some h) × Tells (answer h) old new code
Asks answer None k old new code = (k ≡ None) × (new ≡ old) × (code ≡ pos 20)
