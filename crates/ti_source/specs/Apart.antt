-- The entries of a terminfo(5) source text, each read by itself: an entry that can't be read hides no other.
use Rattle.std.specs.Prelude.{ℕ, ◌+◌, ◌≡◌, List, [], ◌∷◌, map, length, Option, Some, None, Result, Ok, Err}
use Rattle.std.specs.Prelude.{if◌then◌else◌, nat_lt}
use Rattle.ti_source.specs.declared.types.FaultKind.{FaultKind}
use Rattle.ti_source.specs.declared.types.FaultKind.TheVariants.{NoName, TooLong}
use Rattle.ti_source.specs.declared.types.RawEntry.{RawEntry}
use Rattle.ti_source.specs.declared.types.SourceFault.{SourceFault}
use Rattle.ti_source.specs.Fields.{add_cut, entry_on, new_entry}
use Rattle.ti_source.specs.Layout.{cut_of, lines_of}
use Rattle.ti_source.specs.Lines.{begins_entry}
use Rattle.ti_source.specs.Source.{fault_at, is_passed, source_of}

-- ---- the lines of an entry

-- the line on which an entry begins, with its number, and the lines after it up to the next one that begins an entry
pub record Stretch : Type 0 where
  pub number : ℕ
  pub first : List ℕ
  pub further : List (List ℕ)

-- the lines before the first entry, and those of each entry
pub record Stretches : Type 0 where
  pub ahead : List (List ℕ)
  pub entries : List Stretch

abbrev pub no_stretches : Stretches
no_stretches = record { ahead = []; entries = [] }

abbrev pub stretch_at : ℕ → List ℕ → List (List ℕ) → Stretch
stretch_at number first further = record { number = number; first = first; further = further }

unfoldable pub onto_stretches : ℕ → List ℕ → Stretches → Stretches
onto_stretches number line behind =
    if begins_entry line then record { ahead = []; entries = stretch_at number line behind.ahead ∷ behind.entries }
    else record { ahead = line ∷ behind.ahead; entries = behind.entries }

-- the lines from this number on
abbrev pub stretches_from : ℕ → List (List ℕ) → Stretches
stretches_from number [] = no_stretches
stretches_from number (line ∷ lines) = onto_stretches number line (stretches_from (number + 1) lines)

-- ---- an entry by itself

-- a step on a line, and the next one; a fault of the first gets the line's number
abbrev pub on_line : {A B : Type 0} → ℕ → Result A FaultKind → (A → Result B SourceFault) → Result B SourceFault
on_line number (Err kind) behind = Err (fault_at number kind)
on_line number (Ok x) behind = behind x

-- a line that is ignored, or that continues the entry
unfoldable pub add_line : ℕ → List ℕ → RawEntry → Result RawEntry FaultKind
add_line number line raw = if is_passed line then Ok raw else add_cut number raw (cut_of line)

abbrev pub further_of : ℕ → List (List ℕ) → RawEntry → Result RawEntry SourceFault
further_of number [] raw = Ok raw
further_of number (line ∷ lines) raw = on_line number (add_line number line raw) (further_of (number + 1) lines)

-- the entry of its lines, or the first fault in them
abbrev pub entry_alone : Stretch → Result RawEntry SourceFault
entry_alone s = on_line s.number (entry_on s.number s.first) (further_of (s.number + 1) s.further)

abbrev pub first_field : List (List ℕ) → List ℕ → List ℕ
first_field [] last = last
first_field (names ∷ parts) last = names

-- the names of an entry that can't be read: the first field of its first line, whether a comma ends it or not
unfoldable pub names_on : List ℕ → List ℕ
names_on line = first_field (cut_of line).ended (cut_of line).last

-- an entry and its fault; if it can't be read, it has only its names
pub record Alone : Type 0 where
  pub raw : RawEntry
  pub fault : Option SourceFault

abbrev pub was_read : RawEntry → Alone
was_read raw = record { raw = raw; fault = None }

abbrev pub alone_by : Stretch → Result RawEntry SourceFault → Alone
alone_by s (Ok raw) = was_read raw
alone_by s (Err fault) = record { raw = new_entry s.number (names_on s.first); fault = Some fault }

abbrev pub alone : Stretch → Alone
alone s = alone_by s (entry_alone s)

-- ---- a text

-- a line that would continue an entry before the first one is a fault
abbrev pub front_fault : ℕ → List (List ℕ) → Option SourceFault
front_fault number [] = None
front_fault number (line ∷ lines) =
    if is_passed line then front_fault (number + 1) lines else Some (fault_at number NoName)

abbrev pub apart_by : Option SourceFault → List Stretch → Result (List Alone) SourceFault
apart_by (Some fault) stretches = Err fault
apart_by None stretches = Ok (map alone stretches)

abbrev pub apart_in : Stretches → Result (List Alone) SourceFault
apart_in s = apart_by (front_fault 1 s.ahead) s.entries

-- the entries of a text one by one, unless it is too long or has a fault before the first of them
unfoldable pub apart_of : List ℕ → Result (List Alone) SourceFault
apart_of text =
    if nat_lt 16777216 (length text) then Err (fault_at 0 TooLong) else apart_in (stretches_from 1 (lines_of text))

-- `raws` are the entries of the text, and `faults` their faults
pub record IsApart (text : List ℕ) (raws : List RawEntry) (faults : List (Option SourceFault)) : Type 0 where
  pub ones : List Alone
  pub reads : apart_of text ≡ Ok ones
  pub raws_are : raws ≡ map (λ one. one.raw) ones
  pub faults_are : faults ≡ map (λ one. one.fault) ones

-- ---- the result of reading the whole text

abbrev pub with_alone : RawEntry → Option SourceFault → Result (List RawEntry) SourceFault
    → Result (List RawEntry) SourceFault
with_alone raw (Some fault) rest = Err fault
with_alone raw None (Ok raws) = Ok (raw ∷ raws)
with_alone raw None (Err fault) = Err fault

-- all entries, or the fault of the first that can't be read
abbrev pub together : List Alone → Result (List RawEntry) SourceFault
together [] = Ok []
together (one ∷ others) = with_alone one.raw one.fault (together others)

abbrev pub all_together : Result (List Alone) SourceFault → Result (List RawEntry) SourceFault
all_together (Ok ones) = together ones
all_together (Err fault) = Err fault

-- reading the text as a whole is reading its entries one by one, up to the first fault
abbrev pub WholeIsTogether : Type 0
WholeIsTogether = (text : List ℕ) → source_of text ≡ all_together (apart_of text)

-- a text without a fault gives the same entries, each of which can be read
abbrev pub FaultlessIsApart : Type 0
FaultlessIsApart = (text : List ℕ) (raws : List RawEntry) → source_of text ≡ Ok raws
    → apart_of text ≡ Ok (map was_read raws)
