-- The table of calls in alphabetical order: each row has a name (X/Open Curses Issue 7) and its arguments.
use Rattle.std.specs.Prelude.{ℕ, ◌&&◌, nat_le, Bool, false, bytes_eq, codes, List, [], ◌∷◌, Option, None, if◌then◌else◌}
use Rattle.cur_scripts.specs.declared.calls.Call.{Call}
use Rattle.cur_scripts.specs.declared.groups.AttrsCall.TheVariants.{Attron, Attroff, Attrset}
use Rattle.cur_scripts.specs.declared.groups.CellCall.TheVariants.{Addch, Insch, Bkgdset, Bkgd}
use Rattle.cur_scripts.specs.declared.groups.FlagCall.TheVariants.{Scrollok, Leaveok, Clearok, Idlok}
use Rattle.cur_scripts.specs.declared.groups.LayCall.TheVariants.{Overlay, Overwrite}
use Rattle.cur_scripts.specs.declared.groups.LineCall.TheVariants.{Hline, Vline}
use Rattle.cur_scripts.specs.declared.groups.NumberCall.TheVariants.{Scroll, ColorSet}
use Rattle.cur_scripts.specs.declared.groups.NumbersCall.TheVariants.{Move, Mvwin, Setscrreg, Touchline}
use Rattle.cur_scripts.specs.declared.groups.PadCall.TheVariants.{Pnoutrefresh, Prefresh}
use Rattle.cur_scripts.specs.declared.groups.PartCall.TheVariants.{Subwin, Derwin, Subpad}
use Rattle.cur_scripts.specs.declared.groups.PlainCall.TheVariants.{Delch, Insertln, Deleteln, Clrtoeol}
use Rattle.cur_scripts.specs.declared.groups.PlainCall.TheVariants.{Clrtobot, Erase}
use Rattle.cur_scripts.specs.declared.groups.PlainCall.TheVariants.{Clear, Touchwin, Delwin}
use Rattle.cur_scripts.specs.declared.groups.ScreenCall.TheVariants.{Doupdate, Endwin}
use Rattle.cur_scripts.specs.declared.groups.ShowCall.TheVariants.{Noutrefresh, Refresh}
use Rattle.cur_scripts.specs.Arguments.{addstr, attributes, bare, beep, cell, copywin, curs_set, draw_border, draw_box}
use Rattle.cur_scripts.specs.Arguments.{dupwin, flag, init_pair, lay, line, newpad, newwin, number, numbers, part}
use Rattle.cur_scripts.specs.Arguments.{plain, show, show_pad}
use Rattle.cur_scripts.specs.Cuts.{words_of, ◌>>=◌}
use Rattle.cur_scripts.specs.Words.{first_word, front_word, words_after}

-- a name, and the call with this name that has given words as its arguments
abbrev pub Row : Type 0
Row = List ℕ × (List (List ℕ) → Option Call)

-- the call with a name and arguments, by the first row of that name
abbrev pub call_in : List Row → List ℕ → List (List ℕ) → Option Call
call_in [] name words = None
call_in (row ∷ rows) name words = if bytes_eq name row.0 then row.1 words else call_in rows name words

abbrev pub table : List Row
table =
    (codes "addch", cell Addch) ∷ (codes "addstr", addstr) ∷ (codes "attroff", attributes Attroff) ∷
    (codes "attron", attributes Attron) ∷ (codes "attrset", attributes Attrset) ∷
    (codes "beep", beep) ∷ (codes "bkgd", cell Bkgd) ∷ (codes "bkgdset", cell Bkgdset) ∷
    (codes "border", draw_border) ∷ (codes "box", draw_box) ∷
    (codes "clear", plain Clear) ∷ (codes "clearok", flag Clearok) ∷
    (codes "clrtobot", plain Clrtobot) ∷ (codes "clrtoeol", plain Clrtoeol) ∷
    (codes "color_set", number ColorSet) ∷ (codes "copywin", copywin) ∷
    (codes "curs_set", curs_set) ∷
    (codes "delch", plain Delch) ∷ (codes "deleteln", plain Deleteln) ∷
    (codes "delwin", plain Delwin) ∷ (codes "derwin", part Derwin) ∷
    (codes "doupdate", bare Doupdate) ∷ (codes "dupwin", dupwin) ∷
    (codes "endwin", bare Endwin) ∷ (codes "erase", plain Erase) ∷
    (codes "hline", line Hline) ∷
    (codes "idlok", flag Idlok) ∷ (codes "init_pair", init_pair) ∷ (codes "insch", cell Insch) ∷
    (codes "insertln", plain Insertln) ∷
    (codes "leaveok", flag Leaveok) ∷
    (codes "move", numbers Move) ∷ (codes "mvwin", numbers Mvwin) ∷
    (codes "newpad", newpad) ∷ (codes "newwin", newwin) ∷ (codes "noutrefresh", show Noutrefresh) ∷
    (codes "overlay", lay Overlay) ∷ (codes "overwrite", lay Overwrite) ∷
    (codes "pnoutrefresh", show_pad Pnoutrefresh) ∷ (codes "prefresh", show_pad Prefresh) ∷
    (codes "refresh", show Refresh) ∷
    (codes "scroll", number Scroll) ∷ (codes "scrollok", flag Scrollok) ∷
    (codes "setscrreg", numbers Setscrreg) ∷ (codes "subpad", part Subpad) ∷
    (codes "subwin", part Subwin) ∷
    (codes "touchline", numbers Touchline) ∷ (codes "touchwin", plain Touchwin) ∷
    (codes "vline", line Vline) ∷ []

abbrev pub call_with : List ℕ → List (List ℕ) → Option Call
call_with name words = call_in table name words

-- the call of a line
abbrev pub call_of : List ℕ → Option Call
call_of line = do
  a ← first_word (words_of line)
  call_with a.0 a.1

-- (Serves the code alone.) whether a name begins with a letter from one letter to another
abbrev pub begins_within : ℕ → ℕ → List ℕ → Bool
begins_within first last [] = false
begins_within first last (b ∷ name) = nat_le first b && nat_le b last

-- (Serves the code alone.) the rows of the names that begin with these letters
abbrev pub rows_within : ℕ → ℕ → List Row → List Row
rows_within first last [] = []
rows_within first last (row ∷ rows) =
    if begins_within first last row.0 then row ∷ rows_within first last rows else rows_within first last rows

-- (Serves the code alone.) the rows of the table under these letters
abbrev pub under : ℕ → ℕ → List Row
under first last = rows_within first last table

-- (Serves the code alone.) the call of a line, by its first word, among these rows
abbrev pub call_under : List Row → List ℕ → Option Call
call_under rows line = call_in rows (front_word line) (words_after line)
