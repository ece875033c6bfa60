-- The place of a hint in a source text: the entry, its line, and the field on that line.
use Rattle.std.specs.Prelude.{◌≡◌, ◌⊎◌, ◌+◌, ◌<◌, ◌≤◌, ℕ, List, [], ◌∷◌, ◌++◌, IfSome, length, slice_get}
use Rattle.ti_sources.specs.Columns.{columns_of_part, line_in}
use Rattle.ti_sources.specs.declared.columns.Columns.{Columns}
use Rattle.ti_hints.specs.declared.hints.EntryLine.{EntryLine}
use Rattle.ti_hints.specs.declared.hints.FieldHint.{FieldHint}
use Rattle.ti_source.specs.Marks.{comma}
use Rattle.ti_source.specs.declared.types.RawEntry.{RawEntry}

-- a field begins where the line does, or behind a comma
abbrev pub MayPrecede : List ℕ → Type 0
MayPrecede front = (front ≡ []) ⊎ ((before : List ℕ) × (front ≡ before ++ comma ∷ []))

-- and ends at a comma, or where the line does
abbrev pub MayFollow : List ℕ → Type 0
MayFollow behind = (behind ≡ []) ⊎ ((after : List ℕ) × (behind ≡ comma ∷ after))

-- a field of the line, without the white space before it, has these columns
pub record IsFieldOn (line : List ℕ) (columns : Columns) : Type 0 where
  pub front : List ℕ
  pub part : List ℕ
  pub behind : List ℕ
  pub whole : line ≡ front ++ (part ++ behind)
  pub begins : MayPrecede front
  pub ends : MayFollow behind
  pub columns_are : columns ≡ columns_of_part (length front) part

-- the line is one of the entry at a place: its names are on that line or before it, and those of the next entry behind
-- it
pub record IsLineOf (raws : List RawEntry) (place number : ℕ) : Type 0 where
  pub from : IfSome (slice_get raws place) (λ raw. raw.line ≤ number)
  pub before : IfSome (slice_get raws (place + 1)) (λ next. number < next.line)

-- the hint is about the entry at a place of a text with these lines, and about a field on one of its lines
pub record IsHintOf (lines : List (List ℕ)) (raws : List RawEntry) (place : ℕ) (hint : FieldHint) : Type 0 where
  pub entry : hint.entry ≡ place
  pub line : IsLineOf raws place hint.line
  pub field : IfSome hint.columns (IsFieldOn (line_in lines hint.line))

-- ---- for private clauses

-- the hint is about a field on this line of an entry
pub record IsOn (line : EntryLine) (hint : FieldHint) : Type 0 where
  pub entry_is : hint.entry ≡ line.place
  pub number_is : hint.line ≡ line.number
  pub field : IfSome hint.columns (IsFieldOn line.text.now)

-- the rest of the line has this number of bytes before it, up to where a field may begin
pub record IsRest (line : List ℕ) (passed : ℕ) (rest : List ℕ) : Type 0 where
  pub front : List ℕ
  pub whole : line ≡ front ++ rest
  pub long : length front ≡ passed
  pub begins : MayPrecede front
