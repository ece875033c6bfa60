-- The text that a file is read as if fields of a source may continue on further lines.
use Rattle.std.specs.Prelude.{ℕ, ◌≡◌, ◌==◌, ◌&&◌, ◌||◌, not, nat_eq, nat_le, Bool, false, List, [], ◌∷◌, codes, length}
use Rattle.std.specs.Prelude.{if◌then◌else◌}
use Rattle.std.specs.List.{starts_with}
use Rattle.std.specs.Prelude.{option_map}
use Rattle.ti_files.specs.Contents.{Held, longest_file}
use Rattle.ti_files.specs.declared.files.NewFile.{NewFile}
use Rattle.ti_source.specs.Layout.{lines_of}
use Rattle.ti_sources.specs.Joins.{joined_text, none_continues}

-- a compiled file begins with a magic number (term(5)): octal 432, or 1036 for numbers of 32 bits
abbrev pub is_compiled : List ℕ → Bool
is_compiled (a ∷ b ∷ rest) = (a == 26 && b == 1) || (a == 30 && b == 2)
is_compiled _ = false

-- a certificate begins with this word
abbrev pub is_certificate : List ℕ → Bool
is_certificate bytes = starts_with nat_eq bytes (codes "ticert ")

-- everything else that is no longer than a source may be is taken as a source
abbrev pub is_source : List ℕ → Bool
is_source bytes = nat_le (length bytes) longest_file && not (is_compiled bytes) && not (is_certificate bytes)

-- a source of which a field continues on the next line
abbrev pub is_wrapped : List ℕ → Bool
is_wrapped bytes = is_source bytes && not (none_continues (lines_of bytes))

-- what the bytes of a file are read as: such a source is joined, and everything else stays as it is
unfoldable pub read_as : List ℕ → List ℕ
read_as bytes = if is_wrapped bytes then joined_text bytes else bytes

-- the same files, each read so
abbrev pub joined_held : Held → Held
joined_held held = record { at = λ path. option_map read_as (held.at path); with_paths = held.with_paths }

-- the same files, of which those at these paths are the files of `--with`
abbrev pub held_beside : List (List ℕ) → Held → Held
held_beside paths held = record { at = held.at; with_paths = paths }

-- (Serves the code alone.) each of these files is read as just its bytes
unfoldable pub AreReadSo : List NewFile → Type 0
AreReadSo [] = Unit {0}
AreReadSo (file ∷ files) = (read_as file.bytes.items ≡ file.bytes.items) × AreReadSo files
