-- The laws of joined texts.
use Rattle.std.specs.Prelude.{◌≡◌, ℕ, List, length}
use Rattle.ti_sources.specs.Joins.{joined_lines, joined_text}
use Rattle.ti_source.specs.Layout.{lines_of}

-- reading the joined text gives the joined lines
abbrev pub LinesAreJoined : Type 0
LinesAreJoined = (text : List ℕ) → lines_of (joined_text text) ≡ joined_lines (lines_of text)

-- the joined text has as many lines as the text
abbrev pub LinesAreKept : Type 0
LinesAreKept = (text : List ℕ) → length (lines_of (joined_text text)) ≡ length (lines_of text)
