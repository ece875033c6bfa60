-- The line of a text that has a call.
use Rattle.std.specs.Prelude.{ℕ, ◌+◌, get_or, List, [], ◌∷◌, if◌then◌else◌}
use Rattle.cur_scripts.specs.Cuts.{lines_of}
use Rattle.cur_scripts.specs.Texts.{is_skipped}

-- the numbers of the lines that aren't skipped, the first line having this one
abbrev pub call_lines : ℕ → List (List ℕ) → List ℕ
call_lines number [] = []
call_lines number (line ∷ lines) =
    if is_skipped line then call_lines (number + 1) lines else number ∷ call_lines (number + 1) lines

-- the line, from 1, of the call at this place, from 0; 0 if there are fewer calls
abbrev pub line_of : List ℕ → ℕ → ℕ
line_of text place = get_or (call_lines 1 (lines_of text)) place 0
