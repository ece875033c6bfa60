-- A source text in which several fields were given strings, and what it is read as.
use Rattle.std.specs.Prelude.{ℕ, ◌≡◌, ◌<◌, ◌==◌, List, [], ◌∷◌, Some, Ok, if◌then◌else◌, length, slice_get}
use Rattle.std.specs.List.{AllByRecursion, fold}
use Rattle.ti_fixes.specs.Given.{with_given}
use Rattle.ti_fixes.specs.Texts.{IsWritten}
use Rattle.ti_fixes.specs.declared.changes.Change.{Change}
use Rattle.ti_source.specs.Raw.{IsRaw}
use Rattle.ti_source.specs.Source.{source_of}
use Rattle.ti_source.specs.declared.types.Field.{Field}
use Rattle.ti_source.specs.declared.types.RawEntry.{RawEntry}

-- the text in which the fields of the changes were written, one after another
unfoldable pub IsWrittenBy : List Change → List ℕ → List ℕ → Type 0
IsWrittenBy [] old new = new ≡ old
IsWrittenBy (change ∷ changes) old new =
    (between : List ℕ) × IsWritten change.cap change.string old between × IsWrittenBy changes between new

-- the fields of the entry at a place, after a change of some entry
abbrev pub changed : ℕ → List Field → Change → List Field
changed place fields change =
    if change.place == place then with_given change.cap change.string fields else fields

-- the fields of the entry at a place, after all changes
abbrev pub changed_by : List Change → ℕ → List Field → List Field
changed_by changes place fields = fold (changed place) fields changes

-- an entry, on its line, whose fields are those before with the changes for its place; its notes don't matter
pub record IsChangedBy (changes : List Change) (place : ℕ) (old new : RawEntry) : Type 0 where
  pub line : old.line ≡ new.line
  pub names : old.names ≡ new.names
  pub fields : new.fields ≡ changed_by changes place old.fields

-- the entry at a place has the changes for it
abbrev pub IsChangedAt : List Change → List RawEntry → List RawEntry → ℕ → Type 0
IsChangedAt changes olds news place =
    (old new : RawEntry) → slice_get olds place ≡ Some old → slice_get news place ≡ Some new
    → IsChangedBy changes place old new

-- each entry has the changes for its place
pub record AreChangedBy (changes : List Change) (olds news : List RawEntry) : Type 0 where
  pub as_many : length news ≡ length olds
  pub each : (place : ℕ) → place < length olds → IsChangedAt changes olds news place

-- Nothing of the text has changed but these fields; and the text is read as the entries before, with these fields.
pub record GivesAll (text : List ℕ) (raws : List RawEntry) (changes : List Change) (after : List ℕ)
    (afters : List RawEntry) : Type 0 where
  pub written : IsWrittenBy changes text after
  pub reads : source_of after ≡ Ok afters
  pub fit : AllByRecursion IsRaw afters
  pub given : AreChangedBy changes raws afters
