-- The lines that print the notes on an entry.
use Rattle.std.specs.Prelude.{ℕ, List, [], ◌∷◌, ◌++◌, codes}
use Rattle.std.specs.List.{flat_map}
use Rattle.ti_caps.specs.Table.{name_at}
use Rattle.ti_checker.specs.declared.note_list.CheckNote.{CheckNote}
use Rattle.ti_lines.specs.Hex.{hex_text}

-- the word `note`, the capability, and the bytes in hexadecimal
abbrev pub note_line : CheckNote → List ℕ
note_line note = codes "note " ++ (name_at note.cap ++ 32 ∷ (hex_text note.bytes ++ 10 ∷ []))

abbrev pub notes_text : List CheckNote → List ℕ
notes_text notes = flat_map note_line notes
