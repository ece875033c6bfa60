-- The contents of a command's files, as far as they are known.
use Rattle.std.specs.Prelude.{◌≡◌, ◌≢◌, ◌≤◌, ℕ, List, [], ◌∷◌, Option, Some, None, IfSome, length, string_bytes, take}
use Rattle.ti_files.specs.declared.files.NewFile.{NewFile}

-- the files of a command: the bytes at each path, if they are known, and the paths of the files of `--with`, whose
-- entries those of a source may use
pub record Held : Type 0 where
  pub at : List ℕ → Option (List ℕ)
  pub with_paths : List (List ℕ)

-- files of which nothing is known, without `--with`
abbrev pub nothing_held : Held
nothing_held = record { at = λ path. None; with_paths = [] }

-- `bytes` are the known ones, if they are known
abbrev pub AreBytesOf : Option (List ℕ) → List ℕ → Type 0
AreBytesOf known bytes = IfSome known (λ held. bytes ≡ held)

-- the reader has the known bytes left, if they are known
abbrev pub IsLeft : Option (List ℕ) → Option (List ℕ) → Type 0
IsLeft known left = IfSome known (λ held. left ≡ Some held)

-- `bytes` are the first `count` of the known ones, or all of them if there are fewer
abbrev pub AreFirstBytesOf : Option (List ℕ) → ℕ → List ℕ → Type 0
AreFirstBytesOf known count bytes = IfSome known (λ held. bytes ≡ take count held)

-- the most bytes of a source file, of a file for `feed`, and of a file in a survey
abbrev pub longest_file : ℕ
longest_file = 16777216

-- a file's bytes, at most `limit` of them, for which `P` holds
pub record HasBytes (held : Option (List ℕ)) (limit : ℕ) (P : List ℕ → Type 0) : Type 0 where
  pub bytes : List ℕ
  pub whole : AreBytesOf held bytes
  pub short : length bytes ≤ limit
  pub holds : P bytes

-- the path holds these bytes now, and every other path what it held before
pub record Stored (before after : Held) (path bytes : List ℕ) : Type 0 where
  pub there : AreBytesOf (after.at path) bytes
  pub others : (other : List ℕ) → other ≢ path → after.at other ≡ before.at other
  pub with_kept : after.with_paths ≡ before.with_paths

-- each of these paths holds its bytes
unfoldable pub AreStored : Held → List NewFile → Type 0
AreStored held [] = Unit {0}
AreStored held (file ∷ files) = AreBytesOf (held.at (string_bytes file.path)) file.bytes.items × AreStored held files

-- the path is that of none of these files
unfoldable pub IsNoneOf : List ℕ → List NewFile → Type 0
IsNoneOf path [] = Unit {0}
IsNoneOf path (file ∷ files) = (path ≢ string_bytes file.path) × IsNoneOf path files

-- each of these paths holds its bytes now, and every other path what it held before
pub record StoredAll (before after : Held) (files : List NewFile) : Type 0 where
  pub there : AreStored after files
  pub others : (other : List ℕ) → IsNoneOf other files → after.at other ≡ before.at other
  pub with_kept : after.with_paths ≡ before.with_paths
