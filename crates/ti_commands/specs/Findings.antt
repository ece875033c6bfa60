-- The entry that an ENTRY word gives, by the contents of its file.
use Rattle.std.specs.Prelude.{◌≡◌, ◌≢◌, ◌<◌, ◌≤◌, ◌⊎◌, ℕ, List, [], ◌∷◌, ◌++◌, Result, Ok, Err, codes, length}
use Rattle.std.specs.Prelude.{slice_index}
use Rattle.std.specs.Fmt.{decimal}
use Rattle.std.specs.List.{flat_map}
use Rattle.ti_caps.specs.Entry.{Content}
use Rattle.ti_compiled.specs.Contents.{fit_of, read_of}
use Rattle.ti_resolve.specs.Resolved.{IsResolved, IsResolvedAt}
use Rattle.ti_resolve.specs.Walk.{walk_at, walk_of}
use Rattle.ti_resolve.specs.declared.faults.ResolveFault.TheVariants as resolve_faults
use Rattle.ti_source.specs.Source.{FailsBy, source_of}
use Rattle.ti_source.specs.declared.types.FaultKind.TheVariants as fault_kinds
use Rattle.ti_source.specs.declared.types.Note.{Note}
use Rattle.ti_source.specs.declared.types.NoteKind.{NoteKind}
use Rattle.ti_source.specs.declared.types.NoteKind.TheVariants.{UnknownName, Duplicate, OddEscape}
use Rattle.ti_source.specs.declared.types.RawEntry.{RawEntry}
use Rattle.ti_files.specs.Failures.{IsFileFailure}
use Rattle.ti_files.specs.Contents.{AreBytesOf, HasBytes, Held, longest_file}
use Rattle.ti_commands.specs.Further.{ArePutTogether, FailsFurther, Together}
use Rattle.ti_files.specs.declared.failure.Failure.{Failure}
use Rattle.ti_files.specs.declared.failure.Failure.TheVariants.{Refused, NoMemory}
use Rattle.ti_files.specs.declared.failure.CommandRefusal.{CommandRefusal}
use Rattle.ti_files.specs.declared.failure.CommandRefusal.TheVariants.{Source, Resolve, Pack}

abbrev pub note_name : NoteKind → List ℕ
note_name UnknownName = codes "UnknownName"
note_name Duplicate = codes "Duplicate"
note_name OddEscape = codes "OddEscape"

-- a line for each note, in the order of the file
abbrev pub note_line : Note → List ℕ
note_line note = codes "note line " ++ (decimal note.line ++ (codes ": " ++ (note_name note.kind ++ 10 ∷ [])))

abbrev pub notes_text : List RawEntry → List ℕ
notes_text raws = flat_map (λ raw. flat_map note_line raw.notes) raws

-- the word has no colon, and is the path of a compiled file
abbrev pub IsPath : List ℕ → Type 0
IsPath word = (i : ℕ) → i < length word → slice_index word i ≢ 58

-- the word is FILE:NAME, split at its last colon
pub record IsPathAndName (word path name : List ℕ) : Type 0 where
  pub spelled : word ≡ path ++ 58 ∷ name
  pub last : IsPath name

-- the entry of this name, or the reason why there is none
abbrev pub ResolvesTo : List RawEntry → List ℕ → Result Content CommandRefusal → Type 0
ResolvesTo raws name (Ok entry) = IsResolved raws name entry
ResolvesTo raws name (Err (Resolve fault)) = (walk_of raws name ≡ Err fault) × (fault ≢ resolve_faults.NoMemory)
ResolvesTo raws name (Err _) = ⊥

-- the entry at this place, or the reason why it has none
abbrev pub ResolvesAt : List RawEntry → ℕ → Result Content CommandRefusal → Type 0
ResolvesAt raws place (Ok entry) = IsResolvedAt raws place entry
ResolvesAt raws place (Err (Resolve fault)) = (walk_at raws place ≡ Err fault) × (fault ≢ resolve_faults.NoMemory)
ResolvesAt raws place (Err _) = ⊥

abbrev pub FitsTo : Content → Result Content CommandRefusal → Type 0
FitsTo packed (Ok entry) = fit_of packed ≡ Ok entry
FitsTo packed (Err (Pack fault)) = fit_of packed ≡ Err fault
FitsTo packed (Err _) = ⊥

-- the entry of this name in a source text with the files of `--with`, and the notes of the text
pub record IsOfSource (held : Held) (bytes name notes : List ℕ) (entry : Result Content CommandRefusal) : Type 0 where
  pub own : List RawEntry
  pub reads : source_of bytes ≡ Ok own
  pub tells : notes ≡ notes_text own
  pub all : Together
  pub together : ArePutTogether held own all
  pub gives : ResolvesTo all.raws name entry

-- A source text in the file at a path, its entries and those of the files of `--with`, and the one of this name. A name
-- leads to the first entry that has it, in the order of the files.
pub record IsOfText (held : Held) (path name text : List ℕ) (all : Together)
    (entry : Result Content CommandRefusal) : Type 0 where
  pub whole : AreBytesOf (held.at path) text
  pub short : length text ≤ longest_file
  pub own : List RawEntry
  pub reads : source_of text ≡ Ok own
  pub together : ArePutTogether held own all
  pub gives : ResolvesTo all.raws name entry

-- the entry of a compiled file
pub record IsOfFile (bytes notes : List ℕ) (entry : Result Content CommandRefusal) : Type 0 where
  pub packed : Content
  pub reads : read_of bytes ≡ Ok packed
  pub tells : notes ≡ []
  pub gives : FitsTo packed entry

-- the word's notes, and its entry or the refusal of it
abbrev pub Finds : Held → List ℕ → List ℕ → Result Content CommandRefusal → Type 0
Finds held word notes entry =
    ((path : List ℕ) × (name : List ℕ) × IsPathAndName word path name
    × HasBytes (held.at path) longest_file (λ bytes. IsOfSource held bytes name notes entry))
    ⊎ (IsPath word × HasBytes (held.at word) 131072 (λ bytes. IsOfFile bytes notes entry))

-- the source text has a fault
abbrev pub IsSourceFailure : List ℕ → Failure → Type 0
IsSourceFailure bytes (Refused (Source fault)) =
    FailsBy fault.kind fault (source_of bytes) × (fault.kind ≢ fault_kinds.NoMemory)
IsSourceFailure bytes NoMemory = Unit {0}
IsSourceFailure bytes _ = ⊥

-- the compiled file has a fault
abbrev pub IsPackFailure : List ℕ → Failure → Type 0
IsPackFailure bytes (Refused (Pack fault)) = read_of bytes ≡ Err fault
IsPackFailure bytes NoMemory = Unit {0}
IsPackFailure bytes _ = ⊥

-- the text is a source, but a file of `--with` gives no entries, for this reason
pub record IsFurtherFailure (held : Held) (bytes : List ℕ) (failure : Failure) : Type 0 where
  pub own : List RawEntry
  pub reads : source_of bytes ≡ Ok own
  pub further : FailsFurther held held.with_paths failure

-- the file at a path can't be read, or its content has a fault, or else a file of `--with` has one
abbrev pub FailsInSource : Held → List ℕ → Failure → Type 0
FailsInSource held path failure =
    IsFileFailure path failure
    ⊎ HasBytes (held.at path) longest_file
    (λ bytes. IsSourceFailure bytes failure ⊎ IsFurtherFailure held bytes failure)

abbrev pub FailsInFile : Held → List ℕ → Failure → Type 0
FailsInFile held path failure =
    IsFileFailure path failure ⊎ HasBytes (held.at path) 131072 (λ bytes. IsPackFailure bytes failure)

abbrev pub FailsToFind : Held → List ℕ → Failure → Type 0
FailsToFind held word failure =
    ((path : List ℕ) × (name : List ℕ) × IsPathAndName word path name × FailsInSource held path failure)
    ⊎ (IsPath word × FailsInFile held word failure)

-- the word gives no entry, for this reason
abbrev pub LacksEntry : Held → List ℕ → Failure → Type 0
LacksEntry held word failure =
    FailsToFind held word failure ⊎ ((refusal : CommandRefusal) × (notes : List ℕ) × (failure ≡ Refused refusal)
    × Finds held word notes (Err refusal))
