-- The changes by a run, in words.
use Rattle.std.specs.Prelude.{ℕ, ◌+◌, ◌==◌, ◌&&◌, ◌||◌, Bool, not, List, [], ◌∷◌, ◌++◌}
use Rattle.std.specs.Prelude.{if◌then◌else◌, codes, length}
use Rattle.std.specs.Fmt.{decimal}
use Rattle.std.specs.List.{list_all}
use Rattle.vt_term.specs.Grid.{Grid}
use Rattle.vt_term.specs.Look.{Look}
use Rattle.vt_term.specs.Screen.{Screen, Settings, settings_of}
use Rattle.ti_words.specs.Starts.{at_rest, cursor_text, has_look, place_text, same_settings, settings_text}
use Rattle.ti_words.specs.declared.changes.Change.{Change}

-- ---- the cells

-- whether a cell shows anything but this character plainly
abbrev pub is_other : ℕ → Look → Bool
is_other fill cell = not (cell.byte == fill) || (cell.graphic || has_look cell.rendition)

abbrev pub change_at : ℕ → ℕ → Look → Change
change_at row col cell = record { row = row; col = col; byte = cell.byte }

-- the cell at this place, if it has changed
abbrev pub change_if : ℕ → ℕ → ℕ → Look → List Change
change_if fill row col cell = if is_other fill cell then change_at row col cell ∷ [] else []

-- the changed ones of these cells, which are the line `row` from the column `col` on
abbrev pub changes_in : ℕ → ℕ → ℕ → List Look → List Change
changes_in fill row col [] = []
changes_in fill row col (cell ∷ cells) = change_if fill row col cell ++ changes_in fill row (col + 1) cells

-- the changed cells of these lines, which are the screen's from `row` on, in reading order
abbrev pub changes_from : ℕ → ℕ → Grid → List Change
changes_from fill row [] = []
changes_from fill row (line ∷ lines) = changes_in fill row 0 line ++ changes_from fill (row + 1) lines

abbrev pub are_blank : List Change → Bool
are_blank changes = list_all (λ change. change.byte == 32) changes

abbrev pub last_of : Change → List Change → Change
last_of last [] = last
last_of last (next ∷ others) = last_of next others

abbrev pub now_text : List Change → List ℕ
now_text changes = if are_blank changes then codes "blank" else codes "other than before"

-- the place of a changed cell, and by a verb what the changed cells are now
abbrev pub cell_text : List ℕ → Change → List ℕ → List ℕ → List ℕ
cell_text front cell are now = front ++ (place_text cell.row cell.col ++ (are ++ now))

abbrev pub one_text : Change → List ℕ → List ℕ
one_text one now = cell_text (codes "the cell at ") one (codes " is ") now

unfoldable pub count_text : ℕ → List ℕ
count_text count = decimal count ++ codes " cells from "

abbrev pub first_text : ℕ → Change → List ℕ
first_text count first = count_text count ++ place_text first.row first.col

abbrev pub last_text : Change → List ℕ → List ℕ
last_text last now = cell_text (codes " to ") last (codes " are ") now

abbrev pub several_text : List Change → Change → Change → List ℕ
several_text changes first last = first_text (length changes) first ++ last_text last (now_text changes)

-- how many cells have changed, the first and the last one, and whether all are blank
abbrev pub changed_text : List Change → List ℕ
changed_text [] = codes "no cell has changed"
changed_text (one ∷ []) = one_text one (now_text (one ∷ []))
changed_text (first ∷ second ∷ others) =
    several_text (first ∷ second ∷ others) first (last_of first (second ∷ others))

-- ---- both

abbrev pub is_unchanged : List Change → Settings → Settings → Bool
is_unchanged changes before now = (length changes == 0) && same_settings now before

-- the cells, the cursor and the settings
abbrev pub all_text : ℕ → Settings → List Change → Settings → List ℕ
all_text height before changes now =
    changed_text changes ++ (cursor_text now.row now.col ++ settings_text before (at_rest height) now)

-- these cells have changed, and the settings from those before to these, on a terminal of this height
abbrev pub outcome_text : ℕ → Settings → List Change → Settings → List ℕ
outcome_text height before changes now =
    if is_unchanged changes before now then codes "nothing changes" else all_text height before changes now

-- the changes by a run that began with these settings, each cell showing the character `fill`, and ended on this screen
abbrev pub seen_text : Settings → Screen → ℕ → List ℕ
seen_text before end fill = outcome_text end.rows before (changes_from fill 0 end.grid) (settings_of end)
