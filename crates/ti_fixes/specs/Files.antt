-- Files whose entries are put together, before and after fields of them were given strings.
use Rattle.std.specs.Prelude.{ℕ, ◌≡◌, ◌≢◌, ◌-◌, nat_lt, Bool, true, List, [], ◌∷◌, if◌then◌else◌, length, map}
use Rattle.std.specs.Prelude.{string_bytes}
use Rattle.std.specs.List.{flat_map}
use Rattle.ti_fixes.specs.Changes.{GivesAll}
use Rattle.ti_fixes.specs.declared.changes.Change.{Change}
use Rattle.ti_fixes.specs.declared.files.Text.{Text}
use Rattle.ti_source.specs.declared.types.RawEntry.{RawEntry}

-- a file: its path, its bytes, the entries as which it is read, whether it is a source, and whether a field of it was
-- given another string
pub record Sheet : Type 0 where
  pub path : List ℕ
  pub bytes : List ℕ
  pub raws : List RawEntry
  pub is_source : Bool
  pub is_changed : Bool

-- the entries of all files, one after another
abbrev pub all_raws : List Sheet → List RawEntry
all_raws sheets = flat_map (λ (sheet : Sheet). sheet.raws) sheets

-- the change, if it is of one of the first `count` entries
abbrev pub own_change : ℕ → Change → List Change
own_change count change = if nat_lt change.place count then change ∷ [] else []

-- the change of an entry after the first `count` ones, by its place after them
abbrev pub later_change : ℕ → Change → List Change
later_change count change =
    if nat_lt change.place count then []
    else (record { place = change.place - count; cap = change.cap; string = change.string }) ∷ []

abbrev pub own_changes : ℕ → List Change → List Change
own_changes count changes = flat_map (own_change count) changes

abbrev pub later_changes : ℕ → List Change → List Change
later_changes count changes = flat_map (later_change count) changes

-- a source in which fields were given the strings of these changes, and nothing else has changed
pub record IsChangedFile (changes : List Change) (old new : Sheet) : Type 0 where
  pub some : changes ≢ []
  pub source : old.is_source ≡ true
  pub gives : GivesAll old.bytes old.raws changes new.bytes new.raws
  pub path : new.path ≡ old.path
  pub source_still : new.is_source ≡ true
  pub changed : new.is_changed ≡ true

-- the file with the changes of its entries: it is the same if there are none
pub data GivesFile (changes : List Change) (old new : Sheet) : Type 0 where
  Same : changes ≡ [] → new ≡ old → GivesFile changes old new
  Changed : IsChangedFile changes old new → GivesFile changes old new

-- The files with all changes, each of them in the file that has its entry. Places count through all files.
abbrev pub GivesFiles : List Change → List Sheet → List Sheet → Type 0
GivesFiles changes [] [] = changes ≡ []
GivesFiles changes (old ∷ olds) (new ∷ news) =
    GivesFile (own_changes (length old.raws) changes) old new
    × GivesFiles (later_changes (length old.raws) changes) olds news
GivesFiles changes _ _ = ⊥

-- ---- for private clauses: the files without their memory

abbrev pub sheet_of : Text → Sheet
sheet_of text = record {
  path = string_bytes text.path;
  bytes = text.bytes.items;
  raws = text.raws.items;
  is_source = text.is_source;
  is_changed = text.is_changed;
}

abbrev pub sheets : List Text → List Sheet
sheets texts = map sheet_of texts
