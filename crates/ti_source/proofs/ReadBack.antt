-- A printed entry is read as that entry.
use Rattle.std.proofs.Common.{◌≡◌, ℕ, ◌^◌, ◌<◌, Bool, true, false, not, ◌&&◌, ◌||◌, List, [], ◌∷◌, ◌++◌, length, Some, Ok, Err, refl, sym, ap, ◌∙◌, arith, append-nil, append_assoc}
use Rattle.std.specs.Prelude.{if◌then◌else◌, ◌==◌, nat_le, nat_lt, decimal, IsTrue}
use Rattle.std.specs.List.{AllByRecursion, list_all}
use Rattle.std.proofs.lemmas.Bool.{and_parts, not-true}
use Rattle.std.proofs.lemmas.Bool.Decides.{nat_tests}
use Rattle.std.proofs.lemmas.List.Folds.{list_all-append}
use Rattle.ti_caps.proofs.Tables.{place_in_name}
use Rattle.ti_caps.specs.declared.types.Kind.{Kind}
use Rattle.ti_caps.specs.declared.types.Kind.TheVariants as kinds
use Rattle.ti_caps.specs.declared.value.Value.{Value}
use Rattle.ti_caps.specs.declared.value.Value.TheVariants as values
use Rattle.ti_caps.specs.Entry.{FitsPlace, HasBytes}
use Rattle.ti_caps.specs.Fits.{string_fits}
use Rattle.ti_caps.specs.Table.{name_at, kind_of, place_in}
use Rattle.ti_source.specs.declared.layout.Mark.TheVariants.{Hash, Equals}
use Rattle.ti_source.specs.declared.parts.Reading.TheVariants.{Skipped, Says}
use Rattle.ti_source.specs.declared.types.FaultKind.TheVariants as faults
use Rattle.ti_source.specs.declared.types.Field.{Field}
use Rattle.ti_source.specs.declared.types.Field.TheVariants.{Set, Cancel, Include}
use Rattle.ti_source.specs.declared.types.RawEntry.{RawEntry}
use Rattle.ti_source.specs.Escapes.{decoding_of}
use Rattle.ti_source.specs.Fields.{◌>>=◌, flag_reading, number_reading, decoded_reading, string_reading, named_reading, split_reading, trimmed_reading, reading_of, is_long, bounded_reading, ended_reading, is_told, with_notes, with_field, with_said, with_reading, add_field, add_last, add_cut}
use Rattle.ti_caps.specs.Table.{is_kind}
use Rattle.ti_source.specs.Layout.{onto_line, begins_feed, lines_of, is_white, onto_cut, cut_of, marked_in}
use Rattle.ti_source.specs.Numbers.{number_of}
use Rattle.ti_source.specs.Prints.{string_text, value_text, field_text}
use Rattle.ti_source.specs.Source.{Progress, is_passed, begins_white, continued, begun, read_line}
use Rattle.ti_source.proofs.Entries.{no_notes}
use Rattle.ti_source.proofs.Spellings.{both_true, is_inline, Passes, passes_both, onto_all, StringByte, string_reads}
use Rattle.ti_source.proofs.Words.{is_word, word_passes, word_inline, word_skips, word_read, word_marked, word_unmarked, word_trimmed, name_word, decimal_is, number_reads, word_byte}

-- a line without line breaks in it
pub whole_line : (line rest : List ℕ) → list_all is_inline line ≡ true → lines_of (line ++ (10 ∷ rest)) ≡ line ∷ lines_of rest
whole_line [] rest e = refl
whole_line (b ∷ line) rest e =
    let parts = and_parts (is_inline b) (list_all is_inline line) e in
    let both = and_parts (not (b == 10)) (not (b == 13)) parts.0 in
    let behind = line ++ (10 ∷ rest) in
    ap (λ t. if t then [] ∷ lines_of behind else (if (b == 13) && begins_feed behind then lines_of behind else onto_line b (lines_of behind))) (not-true (b == 10) both.0)
    ∙ (ap (λ t. if t && begins_feed behind then lines_of behind else onto_line b (lines_of behind)) (not-true (b == 13) both.1)
    ∙ ap (onto_line b) (whole_line line rest parts.1))

-- the text before the comma of a field's line, and the line
unfoldable pub body_of : Field → List ℕ
body_of (Set place value) = 9 ∷ (name_at place ++ value_text value)
body_of (Cancel place) = []
body_of (Include name) = []

unfoldable pub line_of : Field → List ℕ
line_of field = body_of field ++ 44 ∷ []

unfoldable pub printed : Field → List ℕ
printed (Set place value) = field_text place value
printed (Cancel place) = []
printed (Include name) = []

pub printed_line : (place : ℕ) (value : Value) → field_text place value ≡ line_of (Set place value) ++ 10 ∷ []
unfolding field_text line_of body_of
printed_line place value =
    ap (λ xs. 9 ∷ xs)
    (sym (append_assoc (name_at place) (value_text value) (44 ∷ 10 ∷ []))
    ∙ sym (append_assoc (name_at place ++ value_text value) (44 ∷ []) (10 ∷ [])))

string_bytes_fit : (bytes : List ℕ) → list_all (λ b. not (b == 0)) bytes ≡ true → AllByRecursion (λ b. b < 256) bytes → AllByRecursion StringByte bytes
string_bytes_fit [] e h = tt
string_bytes_fit (b ∷ bytes) e h =
    let parts = and_parts (not (b == 0)) (list_all (λ b. not (b == 0)) bytes) e in
    let set : (b == 0) ≡ false = not-true (b == 0) parts.0 in
    let low : 0 < b = grind (arith, nat_tests) in
    ((low, h.0), string_bytes_fit bytes parts.1 h.1)

pub text_bytes : (bytes : List ℕ) → IsTrue (string_fits bytes) → AllByRecursion (λ b. b < 256) bytes → AllByRecursion StringByte bytes
text_bytes bytes e h = string_bytes_fit bytes (and_parts (nat_le (length bytes) 4095) (list_all (λ b. not (b == 0)) bytes) e).1 h

-- the text of a value neither breaks the line nor ends the field
pub record IsQuiet (xs : List ℕ) : Type 0 where
  pub inside : list_all is_inline xs ≡ true
  pub passes : Passes xs

quiet_both : (xs ys : List ℕ) → IsQuiet xs → IsQuiet ys → IsQuiet (xs ++ ys)
quiet_both xs ys p q = record {
  inside = list_all-append is_inline xs ys ∙ both_true (list_all is_inline xs) (list_all is_inline ys) p.inside q.inside;
  passes = passes_both xs ys p.passes q.passes;
}

quiet_word : (xs : List ℕ) → is_word xs ≡ true → IsQuiet xs
quiet_word xs e = record { inside = word_inline xs e; passes = word_passes xs e }

quiet_byte : (b : ℕ) (xs : List ℕ) → IsQuiet (b ∷ []) → IsQuiet xs → IsQuiet (b ∷ xs)
quiet_byte b xs p q = quiet_both (b ∷ []) xs p q

quiet_value : (place : ℕ) (value : Value) → FitsPlace place (Some value) → HasBytes (Some value) → IsQuiet (value_text value)
quiet_value place values.Flag h k = record { inside = refl; passes = λ rest. refl }
quiet_value place (values.Number n) h k = quiet_byte 35 (decimal n) (record { inside = refl; passes = λ rest. refl }) (quiet_word (decimal n) (decimal_is n (omega (arith, h.1))).word)
quiet_value place (values.String bytes) h k =
    let t = string_reads bytes (text_bytes bytes h.1 k) in
    quiet_byte 61 (string_text bytes) (record { inside = refl; passes = λ rest. refl }) (record { inside = t.inside; passes = t.passes })

pub quiet_body : (place : ℕ) (value : Value) → place < 497 → FitsPlace place (Some value) → HasBytes (Some value) → IsQuiet (9 ∷ (name_at place ++ value_text value))
quiet_body place value inside h k =
    quiet_byte 9 (name_at place ++ value_text value) (record { inside = refl; passes = λ rest. refl })
    (quiet_both (name_at place) (value_text value) (quiet_word (name_at place) (name_word place inside).word) (quiet_value place value h k))

-- the line of a field has that field and nothing after its comma
onto_front : (xs ys : List ℕ) (more : List (List ℕ)) (last : List ℕ) → onto_all xs (record { ended = ys ∷ more; last = last }) ≡ record { ended = (xs ++ ys) ∷ more; last = last }
onto_front [] ys more last = refl
onto_front (b ∷ xs) ys more last = ap (onto_cut b) (onto_front xs ys more last)

one_field : (xs : List ℕ) → Passes xs → cut_of (xs ++ 44 ∷ []) ≡ record { ended = xs ∷ []; last = [] }
unfolding cut_of
one_field xs p = p (44 ∷ []) ∙ (onto_front xs [] [] [] ∙ ap (λ ys. record { ended = ys ∷ []; last = [] }) (append-nil xs))

is_kind_same : (kind : Kind) → is_kind kind kind ≡ true
is_kind_same kinds.Flag = refl
is_kind_same kinds.Number = refl
is_kind_same kinds.String = refl

pub of_kind : (place : ℕ) (kind : Kind) → kind_of place ≡ kind → is_kind (kind_of place) kind ≡ true
of_kind place kind e = ap (λ k. is_kind k kind) e ∙ is_kind_same kind

-- a field's text means that field
flag_says : (place : ℕ) → kind_of place ≡ kinds.Flag → flag_reading (Some place) ≡ Ok (Says (Set place values.Flag) 0)
flag_says place e = ap (λ t. if t then Ok (Says (Set place values.Flag) 0) else Err faults.WrongKind) (of_kind place kinds.Flag e)

number_says : (place n : ℕ) → kind_of place ≡ kinds.Number → n < 2 ^ 31 → number_reading place (decimal n) ≡ Ok (Says (Set place (values.Number n)) 0)
unfolding number_reading
number_says place n e h =
    ap (λ t. if t then (number_of (decimal n) >>= λ k. Ok (Says (Set place (values.Number k)) 0)) else Err faults.WrongKind) (of_kind place kinds.Number e)
    ∙ ap (λ r. r >>= λ k. Ok (Says (Set place (values.Number k)) 0)) (number_reads n h)

string_says : (place : ℕ) (bytes : List ℕ) → kind_of place ≡ kinds.String → AllByRecursion StringByte bytes → string_reading place (string_text bytes) ≡ Ok (Says (Set place (values.String bytes)) 0)
unfolding string_reading
string_says place bytes e h =
    ap (λ t. if t then decoded_reading place (decoding_of (string_text bytes)) else Err faults.WrongKind) (of_kind place kinds.String e)
    ∙ ap (decoded_reading place) (string_reads bytes h).decoding

split_says : (place : ℕ) (value : Value) → place < 497 → FitsPlace place (Some value) → HasBytes (Some value) → split_reading (name_at place ++ value_text value) (marked_in (name_at place ++ value_text value)) ≡ Ok (Says (Set place value) 0)
split_says place values.Flag inside h k =
    let w = name_word place inside in
    let whole : name_at place ++ [] ≡ name_at place = append-nil (name_at place) in
    ap (λ xs. split_reading xs (marked_in xs)) whole
    ∙ (ap (split_reading (name_at place)) (word_unmarked (name_at place) w.word)
    ∙ (ap (λ xs. flag_reading (place_in xs)) (word_trimmed (name_at place) w.word w.some) ∙ (ap flag_reading (place_in_name place inside) ∙ flag_says place h)))
split_says place (values.Number n) inside h k =
    let w = name_word place inside in
    ap (split_reading (name_at place ++ (35 ∷ decimal n))) (word_marked (name_at place) (decimal n) 35 Hash w.word refl)
    ∙ (ap (λ o. named_reading o Hash (decimal n)) (place_in_name place inside) ∙ number_says place n h.0 h.1)
split_says place (values.String bytes) inside h k =
    let w = name_word place inside in
    ap (split_reading (name_at place ++ (61 ∷ string_text bytes))) (word_marked (name_at place) (string_text bytes) 61 Equals w.word refl)
    ∙ (ap (λ t. if t then Ok (Says (Include (string_text bytes)) 0) else named_reading (place_in (name_at place)) Equals (string_text bytes)) w.no_use
    ∙ (ap (λ o. named_reading o Equals (string_text bytes)) (place_in_name place inside) ∙ string_says place bytes h.0 (text_bytes bytes h.1 k)))

body_says : (place : ℕ) (value : Value) → place < 497 → FitsPlace place (Some value) → HasBytes (Some value) → reading_of (9 ∷ (name_at place ++ value_text value)) ≡ Ok (Says (Set place value) 0)
unfolding reading_of
body_says place value inside h k =
    let w = name_word place inside in
    let body = name_at place ++ value_text value in
    ap trimmed_reading (word_skips (name_at place) (value_text value) w.word w.some)
    ∙ (ap (λ t. if t then Ok Skipped else split_reading body (marked_in body)) (word_read (name_at place) (value_text value) w.word w.some) ∙ split_says place value inside h k)

short_enough : (n most : ℕ) → nat_le n most ≡ true → nat_lt most n ≡ false
short_enough n most e = grind (arith, nat_tests)

not_long : (place : ℕ) (value : Value) → FitsPlace place (Some value) → is_long (Says (Set place value) 0) ≡ false
not_long place values.Flag h = refl
not_long place (values.Number n) h = refl
not_long place (values.String bytes) h = short_enough (length bytes) 4095 (and_parts (nat_le (length bytes) 4095) (list_all (λ b. not (b == 0)) bytes) h.1).0

body_ends : (place : ℕ) (value : Value) → place < 497 → FitsPlace place (Some value) → HasBytes (Some value) → ended_reading (9 ∷ (name_at place ++ value_text value)) ≡ Ok (Says (Set place value) 0)
unfolding ended_reading
body_ends place value inside h k =
    ap (λ r. r >>= bounded_reading) (body_says place value inside h k)
    ∙ ap (λ t. if t then Err faults.TooLong else Ok (Says (Set place value) 0)) (not_long place value h)

-- one more field of an entry
field_added : (number place : ℕ) (value : Value) (raw : RawEntry) → place < 497 → FitsPlace place (Some value) → HasBytes (Some value) → is_told raw.fields place ≡ false → add_field number raw (9 ∷ (name_at place ++ value_text value)) ≡ Ok (with_field raw (Set place value))
unfolding add_field with_reading
field_added number place value raw inside h k told =
    ap (λ r. r >>= λ reading. Ok (with_reading number raw reading)) (body_ends place value inside h k)
    ∙ (ap (λ t. Ok (with_notes (with_said t number raw (Set place value)) [])) told ∙ ap Ok (sym (no_notes (with_field raw (Set place value)))))

line_added : (number place : ℕ) (value : Value) (raw : RawEntry) → place < 497 → FitsPlace place (Some value) → HasBytes (Some value) → is_told raw.fields place ≡ false → add_cut number raw (cut_of (line_of (Set place value))) ≡ Ok (with_field raw (Set place value))
unfolding add_cut add_last line_of body_of
line_added number place value raw inside h k told =
    ap (add_cut number raw) (one_field (9 ∷ (name_at place ++ value_text value)) (quiet_body place value inside h k).passes)
    ∙ ap (λ r. (r >>= λ next. Ok next) >>= λ next. Ok next) (field_added number place value raw inside h k told)

starts_white : (name rest : List ℕ) → is_word name ≡ true → 0 < length name → list_all is_white (name ++ rest) ≡ false
starts_white [] rest e h = absurd (omega arith)
starts_white (b ∷ name) rest e h = ap (λ t. t && list_all is_white (name ++ rest)) (word_byte b (and_parts _ (is_word name) e).0).white

pub or_no : (t : Bool) → t ≡ false → (t || false) ≡ false
or_no t e = ap (λ s. s || false) e

passed_line : (place : ℕ) (value : Value) → place < 497 → is_passed (line_of (Set place value)) ≡ false
unfolding line_of body_of
passed_line place value inside =
    let w = name_word place inside in
    or_no (list_all is_white ((name_at place ++ value_text value) ++ 44 ∷ []))
    (ap (list_all is_white) (append_assoc (name_at place) (value_text value) (44 ∷ [])) ∙ starts_white (name_at place) (value_text value ++ 44 ∷ []) w.word w.some)

abbrev pub opened : RawEntry → Progress
opened raw = record { done = []; open_entry = Some raw }

tab_first : (place : ℕ) (value : Value) → begins_white (line_of (Set place value)) ≡ true
unfolding line_of body_of
tab_first place value = refl

pub field_read : (number place : ℕ) (value : Value) (raw : RawEntry) → place < 497 → FitsPlace place (Some value) → HasBytes (Some value) → is_told raw.fields place ≡ false → read_line number (line_of (Set place value)) (opened raw) ≡ Ok (opened (with_field raw (Set place value)))
unfolding read_line
field_read number place value raw inside h k told =
    ap (λ t. if t then Ok (opened raw) else (if begins_white (line_of (Set place value)) then continued number (line_of (Set place value)) (opened raw) (Some raw) else begun number (line_of (Set place value)) (opened raw))) (passed_line place value inside)
    ∙ (ap (λ t. if t then continued number (line_of (Set place value)) (opened raw) (Some raw) else begun number (line_of (Set place value)) (opened raw)) (tab_first place value)
    ∙ ap (λ r. r >>= λ next. Ok (opened next)) (line_added number place value raw inside h k told))
