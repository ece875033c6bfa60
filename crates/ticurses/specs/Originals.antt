-- Files that were read before a command reads them.
use Rattle.std.specs.Prelude.{ℕ, List, [], ◌∷◌, Option, Some, None, Bool, true, false, ◌&&◌, ◌+◌, if◌then◌else◌}
use Rattle.std.specs.Prelude.{string_bytes}
use Rattle.std.specs.Str.{bytes_eq}
use Rattle.ti_files.specs.Contents.{AreFirstBytesOf, Held, longest_file}
use Rattle.ti_files.specs.declared.files.NewFile.{NewFile}
use Rattle.ticurses.specs.declared.originals.Original.{Original}

-- the bytes that were read at this path first
abbrev pub bytes_read : List Original → List ℕ → Option (List ℕ)
bytes_read [] path = None
bytes_read (original ∷ others) path =
    if bytes_eq original.path.now path then Some original.bytes.items else bytes_read others path

-- the bytes that were read, or else those that are held
abbrev pub or_held : Option (List ℕ) → Option (List ℕ) → Option (List ℕ)
or_held (Some bytes) held = Some bytes
or_held None held = held

-- the same files, where the bytes at the paths of these are those that were read; there are no files of `--with`
abbrev pub held_before : List Original → Held → Held
held_before originals held = record {
  at = λ path. or_held (bytes_read originals path) (held.at path);
  with_paths = [];
}

-- each has the first bytes of its file, one more than a source may have or all of them, where these are known
unfoldable pub WereRead : Held → List Original → Type 0
WereRead held [] = Unit {0}
WereRead held (original ∷ others) =
    AreFirstBytesOf (held.at original.path.now) (longest_file + 1) original.bytes.items × WereRead held others

-- (Serves the code alone.) nothing was read at the path of any of these files
abbrev pub is_unread : Option (List ℕ) → Bool
is_unread None = true
is_unread (Some bytes) = false

abbrev pub are_unread : List Original → List NewFile → Bool
are_unread originals [] = true
are_unread originals (file ∷ files) =
    is_unread (bytes_read originals (string_bytes file.path)) && are_unread originals files
