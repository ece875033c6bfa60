-- An entry can be made from each raw entry that reading returns.
use Rattle.std.proofs.Common.{◌≡◌, ℕ, ◌+◌, ◌*◌, ◌-◌, ◌^◌, ◌<◌, zero, suc, Bool, true, false, not, ◌&&◌, List, [], ◌∷◌, ◌++◌, length, Option, Some, None, Result, Ok, Err, refl, ap, ◌∙◌, subst, arith}
use Rattle.std.specs.Prelude.{if◌then◌else◌, ◌==◌, nat_le, nat_lt, option_map, option_and_then, option_to_list}
use Rattle.std.specs.List.{AllByRecursion, list_all, list_any}
use Rattle.std.proofs.lemmas.Bool.{and_parts, or_parts, leb-true}
use Rattle.std.proofs.lemmas.Bool.Decides.{nat_tests}
use Rattle.ti_caps.specs.declared.fits.Opener.{Opener}
use Rattle.ti_caps.specs.declared.fits.Opener.TheVariants.{Nothing}
use Rattle.ti_caps.specs.declared.types.Kind.{Kind}
use Rattle.ti_caps.specs.declared.types.Kind.TheVariants as kinds
use Rattle.ti_caps.specs.declared.value.Value.TheVariants as values
use Rattle.ti_caps.specs.Fits.{opener_after, ends_at_comma, is_one_field, begins_names}
use Rattle.ti_caps.specs.Table.{place_in, kind_of}
use Rattle.ti_source.specs.declared.escapes.Piece.{Piece}
use Rattle.ti_source.specs.declared.layout.Mark.{Mark}
use Rattle.ti_source.specs.declared.layout.Mark.TheVariants.{At, Hash, Equals}
use Rattle.ti_source.specs.declared.parts.Reading.{Reading}
use Rattle.ti_source.specs.declared.parts.Reading.TheVariants.{Skipped, Unknown, Says}
use Rattle.ti_source.specs.declared.types.Field.{Field}
use Rattle.ti_source.specs.declared.types.Field.TheVariants.{Set, Cancel, Include}
use Rattle.ti_source.specs.declared.types.FaultKind.{FaultKind}
use Rattle.ti_source.specs.declared.types.FaultKind.TheVariants as faults
use Rattle.ti_source.specs.declared.types.Note.{Note}
use Rattle.ti_source.specs.declared.types.RawEntry.{RawEntry}
use Rattle.ti_source.specs.declared.types.SourceFault.{SourceFault}
use Rattle.ti_source.specs.Escapes.{stored, plain, letter_from, letter_value, letter_piece, third_at, second_at, escape_at, control_of, control_at, piece_at, is_octal, Decoding, put_first, decoding_from, decoding_of}
use Rattle.ti_source.specs.Fields.{◌>>=◌, is_use, flag_reading, number_reading, decoded_reading, string_reading, known_reading, named_reading, marked_reading, split_reading, is_skipped, reading_of, is_long, bounded_reading, ended_reading, with_reading, with_said, with_notes, repeats, cap_of, add_field, add_last, add_fields, add_cut, begins_unnamed, is_no_name, new_entry, named_entry, begun_by, entry_on}
use Rattle.ti_caps.specs.Table.{is_kind}
use Rattle.ti_source.specs.Layout.{is_white, skip_white, trim_end, ends_field, Cut, put_field, onto_ended, cut_from, cut_of, Marked, marked_in, lines_of}
use Rattle.ti_source.specs.Numbers.{ranged, spelled_number, number_of}
use Rattle.ti_source.specs.Raw.{FitsField, IsRaw}
use Rattle.ti_source.specs.Source.{Progress, all_of, is_comment, is_passed, begins_white, continued, begun, read_line, fault_at, lines_behind, read_lines, no_progress, source_of}
use Rattle.ti_source.proofs.Decodings.{either_way}

-- a property of each result that isn't a fault
abbrev pub OnAnswer : {A E : Type 0} → (A → Type 0) → Result A E → Type 0
OnAnswer P (Ok x) = P x
OnAnswer P (Err e) = Unit {0}

onward : {A B : Type 0} (P : A → Type 0) (Q : B → Type 0) (r : Result A FaultKind) (f : A → Result B FaultKind) → OnAnswer P r → ((x : A) → P x → OnAnswer Q (f x)) → OnAnswer Q (r >>= f)
onward P Q (Ok x) f p q = q x p
onward P Q (Err e) f p q = tt

pub chosen : {A : Type 0} (P : A → Type 0) (t : Bool) (x y : A) → (t ≡ true → P x) → (t ≡ false → P y) → P (if t then x else y)
chosen P true x y p q = p refl
chosen P false x y p q = q refl

-- no piece means a byte 0
NotZero : Piece → Type 0
NotZero piece = (piece.byte == 0) ≡ false

stored_not_zero : (b : ℕ) → (stored b == 0) ≡ false
stored_not_zero b = chosen (λ x. (x == 0) ≡ false) (b == 0) 128 b (λ _. refl) (λ e. e)

abbrev OnPiece : Option Piece → Type 0
OnPiece None = Unit {0}
OnPiece (Some piece) = NotZero piece

plain_not_zero : (b used : ℕ) → NotZero (plain b used)
unfolding NotZero
plain_not_zero b used = stored_not_zero b

third_not_zero : (value : ℕ) (rest : List ℕ) → NotZero (third_at value rest)
third_not_zero value [] = plain_not_zero value 3
third_not_zero value (c ∷ rest) =
    either_way NotZero (is_octal c && nat_le (value * 8 + (c - 48)) 255) (plain (value * 8 + (c - 48)) 4) (plain value 3) (plain_not_zero (value * 8 + (c - 48)) 4) (plain_not_zero value 3)

second_not_zero : (value : ℕ) (rest : List ℕ) → NotZero (second_at value rest)
second_not_zero value [] = plain_not_zero value 2
second_not_zero value (c ∷ rest) =
    either_way NotZero (is_octal c) (third_at (value * 8 + (c - 48)) rest) (plain value 2) (third_not_zero (value * 8 + (c - 48)) rest) (plain_not_zero value 2)

letter_not_zero : (letter : ℕ) (value : Option ℕ) → NotZero (letter_from letter value)
unfolding NotZero
letter_not_zero letter None = stored_not_zero letter
letter_not_zero letter (Some v) = stored_not_zero v

escape_not_zero : (rest : List ℕ) → OnPiece (escape_at rest)
unfolding escape_at letter_piece
escape_not_zero [] = tt
escape_not_zero (b ∷ rest) =
    either_way OnPiece (is_octal b) (Some (second_at (b - 48) rest)) (Some (letter_piece b)) (second_not_zero (b - 48) rest) (letter_not_zero b (letter_value b))

control_not_zero : (rest : List ℕ) → OnPiece (control_at rest)
unfolding control_at
control_not_zero [] = tt
control_not_zero (b ∷ rest) = either_way OnPiece (b == 44) None (Some (plain (control_of b) 2)) tt (plain_not_zero (control_of b) 2)

piece_not_zero : (text : List ℕ) → OnPiece (piece_at text)
unfolding piece_at
piece_not_zero [] = tt
piece_not_zero (b ∷ rest) =
    either_way OnPiece (b == 92) (escape_at rest) (if b == 94 then control_at rest else Some (plain b 1)) (escape_not_zero rest)
    (either_way OnPiece (b == 94) (control_at rest) (Some (plain b 1)) (control_not_zero rest) (plain_not_zero b 1))

-- no byte of a decoded string is 0
abbrev is_set : ℕ → Bool
is_set b = not (b == 0)

abbrev OnDecoding : Option Decoding → Type 0
OnDecoding None = Unit {0}
OnDecoding (Some d) = list_all is_set d.bytes ≡ true

put_one : (p : Piece) (rest : Option Decoding) → NotZero p → OnDecoding rest → OnDecoding (option_map (put_first p) rest)
unfolding NotZero
put_one p None h k = tt
put_one p (Some d) h k = ap (λ t. not t && list_all is_set d.bytes) h ∙ k

put_set : (piece : Option Piece) (rest : Piece → Option Decoding) → OnPiece piece → ((p : Piece) → OnDecoding (rest p)) → OnDecoding (option_and_then (λ p. option_map (put_first p) (rest p)) piece)
put_set None rest h k = tt
put_set (Some p) rest h k = put_one p (rest p) h (k p)

decoding_set : (passed : ℕ) (text : List ℕ) → OnDecoding (decoding_from passed text)
unfolding decoding_from
decoding_set passed [] = refl
decoding_set (suc passed) (b ∷ rest) = decoding_set passed rest
decoding_set zero (b ∷ rest) = put_set (piece_at (b ∷ rest)) (λ p. decoding_from (p.used - 1) rest) (piece_not_zero (b ∷ rest)) (λ p. decoding_set (p.used - 1) rest)

-- the meaning of a field fits its capability, apart from the length of a string
abbrev Nearly : Reading → Type 0
Nearly (Says (Set cap (values.String bytes)) odd) = (kind_of cap ≡ kinds.String) × (list_all is_set bytes ≡ true)
Nearly (Says (Set cap values.Flag) odd) = FitsField (Set cap values.Flag)
Nearly (Says (Set cap (values.Number n)) odd) = FitsField (Set cap (values.Number n))
Nearly (Says (Cancel cap) odd) = Unit {0}
Nearly (Says (Include name) odd) = Unit {0}
Nearly Skipped = Unit {0}
Nearly Unknown = Unit {0}

pub same_kind : (a b : Kind) → is_kind a b ≡ true → a ≡ b
same_kind kinds.Flag kinds.Flag e = refl
same_kind kinds.Flag kinds.Number e = cc
same_kind kinds.Flag kinds.String e = cc
same_kind kinds.Number kinds.Flag e = cc
same_kind kinds.Number kinds.Number e = refl
same_kind kinds.Number kinds.String e = cc
same_kind kinds.String kinds.Flag e = cc
same_kind kinds.String kinds.Number e = cc
same_kind kinds.String kinds.String e = refl

flag_fits : (found : Option ℕ) → OnAnswer Nearly (flag_reading found)
flag_fits None = tt
flag_fits (Some cap) = chosen (OnAnswer Nearly) (is_kind (kind_of cap) kinds.Flag) (Ok (Says (Set cap values.Flag) 0)) (Err faults.WrongKind) (λ e. same_kind (kind_of cap) kinds.Flag e) (λ _. tt)

ranged_fits : (number : Option ℕ) → OnAnswer (λ n. n < 2 ^ 31) (ranged number)
ranged_fits None = tt
ranged_fits (Some n) = chosen (OnAnswer (λ k. k < 2 ^ 31)) (nat_le n 2147483647) (Ok n) (Err faults.NumberRange) (λ e. let h = leb-true n 2147483647 e in omega arith) (λ _. tt)

number_fits : (cap : ℕ) (value : List ℕ) → OnAnswer Nearly (number_reading cap value)
unfolding number_reading number_of
number_fits cap value =
    chosen (OnAnswer Nearly) (is_kind (kind_of cap) kinds.Number) (number_of value >>= λ n. Ok (Says (Set cap (values.Number n)) 0)) (Err faults.WrongKind)
    (λ e. onward (λ n. n < 2 ^ 31) Nearly (number_of value) (λ n. Ok (Says (Set cap (values.Number n)) 0)) (ranged_fits (spelled_number (trim_end value))) (λ n h. (same_kind (kind_of cap) kinds.Number e, h)))
    (λ _. tt)

decoded_fits : (cap : ℕ) (found : Option Decoding) → kind_of cap ≡ kinds.String → OnDecoding found → OnAnswer Nearly (decoded_reading cap found)
decoded_fits cap None e h = tt
decoded_fits cap (Some d) e h = (e, h)

string_reading_fits : (cap : ℕ) (value : List ℕ) → OnAnswer Nearly (string_reading cap value)
unfolding string_reading
string_reading_fits cap value =
    chosen (OnAnswer Nearly) (is_kind (kind_of cap) kinds.String) (decoded_reading cap (decoding_of value)) (Err faults.WrongKind)
    (λ e. decoded_fits cap (decoding_of value) (same_kind (kind_of cap) kinds.String e) (decoding_set 0 value)) (λ _. tt)

known_fits : (cap : ℕ) (mark : Mark) (value : List ℕ) → OnAnswer Nearly (known_reading cap mark value)
known_fits cap At value = tt
known_fits cap Hash value = number_fits cap value
known_fits cap Equals value = string_reading_fits cap value

named_fits : (found : Option ℕ) (mark : Mark) (value : List ℕ) → OnAnswer Nearly (named_reading found mark value)
named_fits None mark value = tt
named_fits (Some cap) mark value = known_fits cap mark value

marked_fits : (mark : Mark) (name value : List ℕ) → OnAnswer Nearly (marked_reading mark name value)
marked_fits At name value = named_fits (place_in name) At value
marked_fits Hash name value = named_fits (place_in name) Hash value
marked_fits Equals name value = either_way (OnAnswer Nearly) (is_use name) (Ok (Says (Include value) 0)) (named_reading (place_in name) Equals value) tt (named_fits (place_in name) Equals value)

split_fits : (field : List ℕ) (cut : Option Marked) → OnAnswer Nearly (split_reading field cut)
split_fits field None = flag_fits (place_in (trim_end field))
split_fits field (Some m) = marked_fits m.mark m.name m.value

reading_fits : (part : List ℕ) → OnAnswer Nearly (reading_of part)
unfolding reading_of
reading_fits part =
    either_way (OnAnswer Nearly) (is_skipped (skip_white part)) (Ok Skipped) (split_reading (skip_white part) (marked_in (skip_white part))) tt (split_fits (skip_white part) (marked_in (skip_white part)))

both : (a b : Bool) → a ≡ true → b ≡ true → (a && b) ≡ true
both a b e f = ap (λ t. t && b) e ∙ f

not_long : (n most : ℕ) → nat_lt most n ≡ false → nat_le n most ≡ true
not_long n most e = grind (arith, nat_tests)

-- the meaning of a field that a comma ends fits its capability
abbrev Fitting : Reading → Type 0
Fitting Skipped = Unit {0}
Fitting Unknown = Unit {0}
Fitting (Says field odd) = FitsField field

bounded_fits : (reading : Reading) → Nearly reading → is_long reading ≡ false → Fitting reading
bounded_fits Skipped h e = tt
bounded_fits Unknown h e = tt
bounded_fits (Says (Cancel cap) odd) h e = tt
bounded_fits (Says (Include name) odd) h e = tt
bounded_fits (Says (Set cap values.Flag) odd) h e = h
bounded_fits (Says (Set cap (values.Number n)) odd) h e = h
bounded_fits (Says (Set cap (values.String bytes)) odd) h e = (h.0, both (nat_le (length bytes) 4095) (list_all is_set bytes) (not_long (length bytes) 4095 e) h.1)

ended_fits : (part : List ℕ) → OnAnswer Fitting (ended_reading part)
unfolding ended_reading
ended_fits part =
    onward Nearly Fitting (reading_of part) bounded_reading (reading_fits part)
    (λ reading h. chosen (OnAnswer Fitting) (is_long reading) (Err faults.TooLong) (Ok reading) (λ _. tt) (λ e. bounded_fits reading h e))

one_more : (P : Field → Type 0) (fields : List Field) (field : Field) → AllByRecursion P fields → P field → AllByRecursion P (fields ++ field ∷ [])
one_more P [] field h p = (p, tt)
one_more P (f ∷ fields) field h p = (h.0, one_more P fields field h.1 p)

noted_fits : (raw : RawEntry) (notes : List Note) → IsRaw raw → IsRaw (with_notes raw notes)
noted_fits raw notes h = record { names = h.names; fields = h.fields }

said_fits : (twice : Bool) (line : ℕ) (raw : RawEntry) (field : Field) → IsRaw raw → FitsField field → IsRaw (with_said twice line raw field)
said_fits true line raw field h p = record { names = h.names; fields = h.fields }
said_fits false line raw field h p = record { names = h.names; fields = one_more FitsField raw.fields field h.fields p }

more_fits : (line : ℕ) (raw : RawEntry) (reading : Reading) → IsRaw raw → Fitting reading → IsRaw (with_reading line raw reading)
unfolding with_reading
more_fits line raw Skipped h p = h
more_fits line raw Unknown h p = record { names = h.names; fields = h.fields }
more_fits line raw (Says field odd) h p = noted_fits (with_said (repeats raw.fields (cap_of field)) line raw field) _ (said_fits (repeats raw.fields (cap_of field)) line raw field h p)

field_fits : (line : ℕ) (raw : RawEntry) (part : List ℕ) → IsRaw raw → OnAnswer IsRaw (add_field line raw part)
unfolding add_field
field_fits line raw part h = onward Fitting IsRaw (ended_reading part) (λ reading. Ok (with_reading line raw reading)) (ended_fits part) (λ reading p. more_fits line raw reading h p)

last_fits : (raw : RawEntry) (part : List ℕ) → IsRaw raw → OnAnswer IsRaw (add_last raw part)
unfolding add_last
last_fits raw part h =
    either_way (OnAnswer IsRaw) (list_all is_white part) (Ok raw) (reading_of part >>= λ reading. Err faults.OpenField) h
    (onward Nearly IsRaw (reading_of part) (λ reading. Err faults.OpenField) (reading_fits part) (λ _ _. tt))

fields_fit : (line : ℕ) (raw : RawEntry) (parts : List (List ℕ)) → IsRaw raw → OnAnswer IsRaw (add_fields line raw parts)
fields_fit line raw [] h = h
fields_fit line raw (part ∷ parts) h = onward IsRaw IsRaw (add_field line raw part) (λ next. add_fields line next parts) (field_fits line raw part h) (λ next k. fields_fit line next parts k)

pub cut_fits : (line : ℕ) (raw : RawEntry) (cut : Cut) → IsRaw raw → OnAnswer IsRaw (add_cut line raw cut)
unfolding add_cut
cut_fits line raw cut h = onward IsRaw IsRaw (add_fields line raw cut.ended) (λ next. add_last next cut.last) (fields_fit line raw cut.ended h) (λ next k. last_fits next cut.last k)

-- the first field of a line is one field, and begins like the line
abbrev StartsAs : List ℕ → List ℕ → Type 0
StartsAs [] line = Unit {0}
StartsAs (b ∷ rest) [] = ⊥
StartsAs (b ∷ rest) (c ∷ line) = b ≡ c

abbrev FrontFits : Opener → List ℕ → List (List ℕ) → Type 0
FrontFits opener line [] = Unit {0}
FrontFits opener line (names ∷ parts) = (is_one_field opener names ≡ true) × StartsAs names line

front_step : (opener : Opener) (b : ℕ) (rest : List ℕ) (t : Bool) → ends_field opener b ≡ t → (ended : List (List ℕ)) (last : List ℕ) (cut : Cut) → FrontFits (opener_after opener b) rest ended → FrontFits opener (b ∷ rest) (if t then put_field [] cut else onto_ended b ended last).ended
front_step opener b rest true e ended last cut h = ((and_parts (ends_at_comma opener) (b == 44) e).0, tt)
front_step opener b rest false e [] last cut h = tt
front_step opener b rest false e (names ∷ parts) last cut h = (ap (λ t. not t && is_one_field (opener_after opener b) names) e ∙ h.0, refl)

front_fits : (opener : Opener) (line : List ℕ) → FrontFits opener line (cut_from opener line).ended
front_fits opener [] = tt
front_fits opener (b ∷ rest) =
    front_step opener b rest (ends_field opener b) refl (cut_from (opener_after opener b) rest).ended (cut_from (opener_after opener b) rest).last (cut_from Nothing rest) (front_fits (opener_after opener b) rest)

begins_fit : (names line : List ℕ) → begins_unnamed names ≡ false → StartsAs names line → is_comment line ≡ false → begins_white line ≡ false → begins_names names ≡ true
begins_fit [] line named starts comment white = cc
begins_fit (b ∷ rest) [] named starts comment white = absurd starts
begins_fit (b ∷ rest) (c ∷ line) named starts comment white =
    both (not (b == 32)) (not (b == 35) && not (b == 124)) (ap not (ap (λ k. k == 32) starts ∙ (or_parts (c == 32) (c == 9) white).0))
    (both (not (b == 35)) (not (b == 124)) (ap not (ap (λ k. k == 35) starts ∙ comment)) (ap not named))

no_controls : (names : List ℕ) → list_any (λ b. nat_lt b 32) names ≡ false → list_all (λ b. nat_le 32 b) names ≡ true
no_controls [] e = refl
no_controls (b ∷ rest) e =
    let parts = or_parts (nat_lt b 32) (list_any (λ b. nat_lt b 32) rest) e in
    both (nat_le 32 b) (list_all (λ b. nat_le 32 b) rest) (not_long 32 b parts.0) (no_controls rest parts.1)

named_entry_fits : (number : ℕ) (names line : List ℕ) → is_one_field Nothing names ≡ true → StartsAs names line → is_comment line ≡ false → begins_white line ≡ false → OnAnswer IsRaw (named_entry number names)
unfolding named_entry is_no_name
named_entry_fits number names line one starts comment white =
    chosen (OnAnswer IsRaw) (is_no_name names) (Err faults.NoName) (if nat_lt 4095 (length names) then Err faults.TooLong else Ok (new_entry number names)) (λ _. tt)
    (λ e. let parts = or_parts (begins_unnamed names) (list_any (λ b. nat_lt b 32) names) e in
    chosen (OnAnswer IsRaw) (nat_lt 4095 (length names)) (Err faults.TooLong) (Ok (new_entry number names)) (λ _. tt)
    (λ short. record {
      names =
          both (nat_le (length names) 4095) (begins_names names && (list_all (λ b. nat_le 32 b) names && is_one_field Nothing names)) (not_long (length names) 4095 short)
          (both (begins_names names) (list_all (λ b. nat_le 32 b) names && is_one_field Nothing names) (begins_fit names line parts.0 starts comment white)
          (both (list_all (λ b. nat_le 32 b) names) (is_one_field Nothing names) (no_controls names parts.1) one));
      fields = tt;
    }))

begun_by_fits : (number : ℕ) (line : List ℕ) (ended : List (List ℕ)) (last : List ℕ) → FrontFits Nothing line ended → is_comment line ≡ false → begins_white line ≡ false → OnAnswer IsRaw (begun_by number ended last)
begun_by_fits number line [] last h comment white = either_way (OnAnswer IsRaw) (is_no_name last) (Err faults.NoName) (Err faults.OpenField) tt tt
begun_by_fits number line (names ∷ parts) last h comment white =
    onward IsRaw IsRaw (named_entry number names) (λ raw. add_cut number raw (record { ended = parts; last = last })) (named_entry_fits number names line h.0 h.1 comment white)
    (λ raw k. cut_fits number raw (record { ended = parts; last = last }) k)

pub entry_fits : (number : ℕ) (line : List ℕ) → is_comment line ≡ false → begins_white line ≡ false → OnAnswer IsRaw (entry_on number line)
unfolding entry_on cut_of
entry_fits number line comment white = begun_by_fits number line (cut_of line).ended (cut_of line).last (front_fits Nothing line) comment white

-- all progress so far
abbrev OnOpen : Option RawEntry → Type 0
OnOpen None = Unit {0}
OnOpen (Some raw) = IsRaw raw

record AllRaw (progress : Progress) : Type 0 where
  done : AllByRecursion IsRaw progress.done
  current : OnOpen progress.open_entry

with_open : (done : List RawEntry) (current : Option RawEntry) → AllByRecursion IsRaw done → OnOpen current → AllByRecursion IsRaw (done ++ option_to_list current)
with_open [] None h k = tt
with_open [] (Some raw) h k = (k, tt)
with_open (raw ∷ done) current h k = (h.0, with_open done current h.1 k)

all_fit : (progress : Progress) → AllRaw progress → AllByRecursion IsRaw (all_of progress)
all_fit progress h = with_open progress.done progress.open_entry h.done h.current

continued_fits : (number : ℕ) (line : List ℕ) (progress : Progress) (current : Option RawEntry) → AllByRecursion IsRaw progress.done → OnOpen current → OnAnswer AllRaw (continued number line progress current)
continued_fits number line progress None h k = tt
continued_fits number line progress (Some raw) h k =
    onward IsRaw AllRaw (add_cut number raw (cut_of line)) (λ next. Ok (record { done = progress.done; open_entry = Some next })) (cut_fits number raw (cut_of line) k) (λ next r. record { done = h; current = r })

begun_fits : (number : ℕ) (line : List ℕ) (progress : Progress) → AllRaw progress → is_comment line ≡ false → begins_white line ≡ false → OnAnswer AllRaw (begun number line progress)
begun_fits number line progress h comment white =
    onward IsRaw AllRaw (entry_on number line) (λ raw. Ok (record { done = all_of progress; open_entry = Some raw })) (entry_fits number line comment white) (λ raw r. record { done = all_fit progress h; current = r })

line_fits : (number : ℕ) (line : List ℕ) (progress : Progress) → AllRaw progress → OnAnswer AllRaw (read_line number line progress)
unfolding read_line
line_fits number line progress h =
    chosen (OnAnswer AllRaw) (is_passed line) (Ok progress) (if begins_white line then continued number line progress progress.open_entry else begun number line progress) (λ _. h)
    (λ e. chosen (OnAnswer AllRaw) (begins_white line) (continued number line progress progress.open_entry) (begun number line progress)
    (λ _. continued_fits number line progress progress.open_entry h.done h.current)
    (λ white. begun_fits number line progress h (or_parts (list_all is_white line) (is_comment line) e).1 white))

behind_fits : (number : ℕ) (read : Result Progress FaultKind) (behind : Progress → Result (List RawEntry) SourceFault) → OnAnswer AllRaw read → ((progress : Progress) → AllRaw progress → OnAnswer (AllByRecursion IsRaw) (behind progress)) → OnAnswer (AllByRecursion IsRaw) (lines_behind number read behind)
behind_fits number (Err kind) behind h k = tt
behind_fits number (Ok progress) behind h k = k progress h

lines_fit : (number : ℕ) (lines : List (List ℕ)) (progress : Progress) → AllRaw progress → OnAnswer (AllByRecursion IsRaw) (read_lines number lines progress)
lines_fit number [] progress h = all_fit progress h
lines_fit number (line ∷ lines) progress h =
    behind_fits number (read_line number line progress) (read_lines (number + 1) lines) (line_fits number line progress h) (λ next k. lines_fit (number + 1) lines next k)

text_fits : (text : List ℕ) → OnAnswer (AllByRecursion IsRaw) (source_of text)
unfolding source_of
text_fits text =
    either_way (OnAnswer (AllByRecursion IsRaw)) (nat_lt 16777216 (length text)) (Err (fault_at 0 faults.TooLong)) (read_lines 1 (lines_of text) no_progress) tt
    (lines_fit 1 (lines_of text) no_progress (record { done = tt; current = tt }))

-- the entries of a text can be made into entries
pub entries_fit : (text : List ℕ) (raws : List RawEntry) → source_of text ≡ Ok raws → AllByRecursion IsRaw raws
entries_fit text raws e = subst (OnAnswer (AllByRecursion IsRaw)) e (text_fits text)
