-- The files of a command, as files whose entries are put together.
use Rattle.std.specs.Prelude.{ℕ, ◌≡◌, true, false, List, ◌∷◌, not, string_bytes}
use Rattle.std.specs.List.{AllZip}
use Rattle.ti_commands.specs.Further.{Together}
use Rattle.ti_fixes.specs.Files.{Sheet, all_raws}
use Rattle.ti_sources.specs.Files.{is_compiled}
use Rattle.ti_sources.specs.declared.files.FurtherFile.{FurtherFile}

-- a file of `--with`, of which nothing has changed
pub record IsSheetOf (file : FurtherFile) (sheet : Sheet) : Type 0 where
  pub path : sheet.path ≡ string_bytes file.path
  pub bytes : sheet.bytes ≡ file.bytes.items
  pub unchanged : sheet.is_changed ≡ false

-- a source file, of which nothing has changed
pub record IsSourceSheet (at text : List ℕ) (sheet : Sheet) : Type 0 where
  pub path : sheet.path ≡ at
  pub bytes : sheet.bytes ≡ text
  pub source : sheet.is_source ≡ true
  pub unchanged : sheet.is_changed ≡ false

-- the source itself, and then the files of `--with`, of which nothing has changed; they have all these entries
pub record AreSheetsOf (path text : List ℕ) (all : Together) (sheets : List Sheet) : Type 0 where
  pub own : Sheet
  pub others : List Sheet
  pub are : sheets ≡ own ∷ others
  pub source : IsSourceSheet path text own
  pub each : AllZip IsSheetOf all.files others
  pub raws : all_raws sheets ≡ all.raws
