-- Reading returns exactly the entries that are related to the text.
use Rattle.std.proofs.Common.{◌≡◌, ℕ, ◌+◌, ◌≤◌, Bool, true, false, not, ◌&&◌, List, [], ◌∷◌, ◌++◌, length, Option, Some, None, Result, Ok, Err, refl, sym, ap, ◌∙◌, subst, arith, append-nil, append_assoc}
use Rattle.std.specs.Prelude.{if◌then◌else◌, ◌==◌, nat_lt, is_some, option_map, option_to_list}
use Rattle.std.specs.List.{list_all}
use Rattle.std.proofs.lemmas.Bool.{and_parts, eqb-true, not-true}
use Rattle.std.proofs.lemmas.Bool.Decides.{nat_tests}
use Rattle.ti_caps.specs.declared.types.Kind.TheVariants as kinds
use Rattle.ti_caps.specs.declared.value.Value.TheVariants as values
use Rattle.ti_caps.specs.Table.{place_in, kind_of}
use Rattle.ti_source.specs.declared.layout.Mark.{Mark}
use Rattle.ti_source.specs.declared.layout.Mark.TheVariants.{At, Hash, Equals}
use Rattle.ti_source.specs.declared.parts.Reading.{Reading}
use Rattle.ti_source.specs.declared.parts.Reading.TheVariants.{Skipped, Unknown, Says}
use Rattle.ti_source.specs.declared.types.FaultKind.{FaultKind}
use Rattle.ti_source.specs.declared.types.FaultKind.TheVariants as faults
use Rattle.ti_source.specs.declared.types.Field.TheVariants.{Set, Include}
use Rattle.ti_source.specs.declared.types.RawEntry.{RawEntry}
use Rattle.ti_source.specs.declared.types.SourceFault.{SourceFault}
use Rattle.ti_source.specs.Escapes.{Decoding, decoding_of}
use Rattle.ti_source.specs.Fields.{◌>>=◌, is_use, flag_reading, number_reading, decoded_reading, string_reading, named_reading, marked_reading, split_reading, is_skipped, trimmed_reading, reading_of, is_long, bounded_reading, ended_reading, with_reading, add_field, add_last, add_fields, add_cut, is_no_name, new_entry, named_entry, begun_by, entry_on}
use Rattle.ti_caps.specs.Table.{is_kind}
use Rattle.ti_source.specs.Layout.{is_white, skip_white, trim_end, Cut, cut_of, mark_of, Marked, marked_with, marked_at, onto_name, marked_in, lines_of}
use Rattle.ti_source.specs.Numbers.{number_of}
use Rattle.ti_source.specs.Related.{NoMark, Means, IsFlag, IsNumber, IsString, Cancels, Uses, UnknownAlone, UnknownMarked, begins_field, White, PartSays, Blank, Commented, Said, HasFields, HasLines, Grows, FurtherLine, EntryLine, LineStands, Passed, Further, Begins, Stand, IsSource, ReadIsRelated, RelatedIsRead, FaultHasNone, FaultIsFirst}
use Rattle.ti_source.specs.Source.{Progress, all_of, is_passed, begins_white, continued, begun, read_line, fault_at, lines_behind, read_lines, no_progress, source_of}
use Rattle.ti_source.proofs.Cuts.{has_fields, fields_cut, has_lines, lines_cut}
use Rattle.ti_source.proofs.Fitness.{same_kind}
use Rattle.ti_source.proofs.ReadBack.{of_kind}
use Rattle.ti_source.proofs.Spellings.{both_true, choose}
use Rattle.ti_source.proofs.Words.{none_there}

-- the first mark of a field
abbrev byte_of : Mark → ℕ
byte_of At = 64
byte_of Hash = 35
byte_of Equals = 61

same_mark : (a b : Mark) → Some a ≡ Some b → a ≡ b
same_mark a b e = cc

no_mark : (mark : Mark) → None ≡ Some mark → ⊥
no_mark mark e = cc

mark_byte : (b : ℕ) (mark : Mark) → mark_of b ≡ Some mark → b ≡ byte_of mark
mark_byte b mark =
    choose (λ o. o ≡ Some mark → b ≡ byte_of mark) (b == 64) (Some At) (if b == 35 then Some Hash else (if b == 61 then Some Equals else None))
    (λ t e. eqb-true b 64 t ∙ ap byte_of (same_mark At mark e))
    (λ _. choose (λ o. o ≡ Some mark → b ≡ byte_of mark) (b == 35) (Some Hash) (if b == 61 then Some Equals else None)
    (λ t e. eqb-true b 35 t ∙ ap byte_of (same_mark Hash mark e))
    (λ _. choose (λ o. o ≡ Some mark → b ≡ byte_of mark) (b == 61) (Some Equals) None
    (λ t e. eqb-true b 61 t ∙ ap byte_of (same_mark Equals mark e))
    (λ _ e. absurd (no_mark mark e))))

record Splits (field : List ℕ) (m : Marked) : Type 0 where
  byte : ℕ
  is : field ≡ m.name ++ byte ∷ m.value
  clean : NoMark m.name
  marks : mark_of byte ≡ Some m.mark

abbrev Split : List ℕ → Option Marked → Type 0
Split field None = NoMark field
Split field (Some m) = Splits field m

unmarked_more : (b : ℕ) (rest : List ℕ) → mark_of b ≡ None → NoMark rest → NoMark (b ∷ rest)
unmarked_more b rest e h = both_true (not (is_some (mark_of b))) (list_all (λ c. not (is_some (mark_of c))) rest) (ap (λ o. not (is_some o)) e) h

split_step : (b : ℕ) (rest : List ℕ) (o : Option Mark) → mark_of b ≡ o → (behind : Option Marked) → Split rest behind → Split (b ∷ rest) (marked_at o b rest behind)
split_step b rest (Some mark) e behind h = record { byte = b; is = refl; clean = refl; marks = e }
split_step b rest None e None h = unmarked_more b rest e h
split_step b rest None e (Some m) h = record { byte = h.byte; is = ap (λ xs. b ∷ xs) h.is; clean = unmarked_more b m.name e h.clean; marks = h.marks }

split_at : (field : List ℕ) → Split field (marked_in field)
split_at [] = refl
split_at (b ∷ rest) = split_step b rest (mark_of b) refl (marked_in rest) (split_at rest)

first_unmarked : (b : ℕ) (rest : List ℕ) → NoMark (b ∷ rest) → (mark_of b ≡ None) × NoMark rest
first_unmarked b rest h =
    let parts = and_parts (not (is_some (mark_of b))) (list_all (λ c. not (is_some (mark_of c))) rest) h in
    (none_there (mark_of b) (not-true (is_some (mark_of b)) parts.0), parts.1)

unmarked : (field : List ℕ) → NoMark field → marked_in field ≡ None
unmarked [] h = refl
unmarked (b ∷ rest) h =
    let parts = first_unmarked b rest h in
    ap (λ o. marked_at o b rest (marked_in rest)) parts.0 ∙ ap (option_map (onto_name b)) (unmarked rest parts.1)

marked_first : (name value : List ℕ) (b : ℕ) (mark : Mark) → NoMark name → mark_of b ≡ Some mark → marked_in (name ++ (b ∷ value)) ≡ Some (marked_with name mark value)
marked_first [] value b mark h e = ap (λ o. marked_at o b value (marked_in value)) e
marked_first (c ∷ name) value b mark h e =
    let parts = first_unmarked c name h in
    ap (λ o. marked_at o c (name ++ (b ∷ value)) (marked_in (name ++ (b ∷ value)))) parts.0
    ∙ ap (option_map (onto_name c)) (marked_first name value b mark parts.1 e)

use_name : (name : List ℕ) → is_use name ≡ true → name ≡ 117 ∷ 115 ∷ 101 ∷ []
use_name [] e = cc
use_name (a ∷ []) e = cc
use_name (a ∷ b ∷ []) e = cc
use_name (a ∷ b ∷ c ∷ []) e =
    let parts = and_parts (a == 117) ((b == 115) && (c == 101)) e in
    let more = and_parts (b == 115) (c == 101) parts.1 in
    ap (λ x. x ∷ b ∷ c ∷ []) (eqb-true a 117 parts.0) ∙ (ap (λ y. 117 ∷ y ∷ c ∷ []) (eqb-true b 115 more.0) ∙ ap (λ z. 117 ∷ 115 ∷ z ∷ []) (eqb-true c 101 more.1))
use_name (a ∷ b ∷ c ∷ d ∷ rest) e = cc

-- the meaning of a field by reading, unless it is too long, is its meaning by the relation
abbrev Justified : List ℕ → Result Reading FaultKind → Type 0
Justified field (Ok reading) = is_long reading ≡ false → Means field reading
Justified field (Err kind) = Unit {0}

flag_means : (field : List ℕ) (found : Option ℕ) → place_in (trim_end field) ≡ found → NoMark field → Justified field (flag_reading found)
flag_means field None e clean = λ _. UnknownAlone clean e refl
flag_means field (Some cap) e clean =
    choose (Justified field) (is_kind (kind_of cap) kinds.Flag) (Ok (Says (Set cap values.Flag) 0)) (Err faults.WrongKind) (λ k _. IsFlag cap clean e (same_kind (kind_of cap) kinds.Flag k) refl) (λ _. tt)

number_means : (field name value : List ℕ) (cap : ℕ) → field ≡ name ++ 35 ∷ value → NoMark name → place_in name ≡ Some cap → kind_of cap ≡ kinds.Number → (read : Result ℕ FaultKind) → number_of value ≡ read → Justified field (read >>= λ n. Ok (Says (Set cap (values.Number n)) 0))
number_means field name value cap is clean found kind (Ok n) e = λ _. IsNumber name value cap n is clean found kind e refl
number_means field name value cap is clean found kind (Err fault) e = tt

within : (n most : ℕ) → nat_lt most n ≡ false → n ≤ most
within n most e = grind (arith, nat_tests)

not_above : (n most : ℕ) → n ≤ most → nat_lt most n ≡ false
not_above n most h = grind (arith, nat_tests)

string_means : (field name value : List ℕ) (cap : ℕ) → field ≡ name ++ 61 ∷ value → NoMark name → is_use name ≡ false → place_in name ≡ Some cap → kind_of cap ≡ kinds.String → (found : Option Decoding) → decoding_of value ≡ found → Justified field (decoded_reading cap found)
string_means field name value cap is clean apart found kind None e = tt
string_means field name value cap is clean apart found kind (Some d) e = λ short. IsString name value cap d is clean apart found kind e (within (length d.bytes) 4095 short) refl

named_means : (field name value : List ℕ) (b : ℕ) (mark : Mark) → field ≡ name ++ b ∷ value → NoMark name → mark_of b ≡ Some mark → (mark ≡ Equals → is_use name ≡ false) → (found : Option ℕ) → place_in name ≡ found → Justified field (named_reading found mark value)
unfolding number_reading string_reading
named_means field name value b mark is clean marks apart None e = λ _. UnknownMarked name value b mark is clean marks apart e refl
named_means field name value b At is clean marks apart (Some cap) e = λ _. Cancels name value cap (is ∙ ap (λ x. name ++ x ∷ value) (mark_byte b At marks)) clean e refl
named_means field name value b Hash is clean marks apart (Some cap) e =
    choose (Justified field) (is_kind (kind_of cap) kinds.Number) (number_of value >>= λ n. Ok (Says (Set cap (values.Number n)) 0)) (Err faults.WrongKind)
    (λ k. number_means field name value cap (is ∙ ap (λ x. name ++ x ∷ value) (mark_byte b Hash marks)) clean e (same_kind (kind_of cap) kinds.Number k) (number_of value) refl) (λ _. tt)
named_means field name value b Equals is clean marks apart (Some cap) e =
    choose (Justified field) (is_kind (kind_of cap) kinds.String) (decoded_reading cap (decoding_of value)) (Err faults.WrongKind)
    (λ k. string_means field name value cap (is ∙ ap (λ x. name ++ x ∷ value) (mark_byte b Equals marks)) clean (apart refl) e (same_kind (kind_of cap) kinds.String k) (decoding_of value) refl) (λ _. tt)

at_no_equals : At ≡ Equals → ⊥
at_no_equals e = cc

hash_no_equals : Hash ≡ Equals → ⊥
hash_no_equals e = cc

marked_means : (field name value : List ℕ) (b : ℕ) (mark : Mark) → field ≡ name ++ b ∷ value → NoMark name → mark_of b ≡ Some mark → Justified field (marked_reading mark name value)
marked_means field name value b At is clean marks = named_means field name value b At is clean marks (λ e. absurd (at_no_equals e)) (place_in name) refl
marked_means field name value b Hash is clean marks = named_means field name value b Hash is clean marks (λ e. absurd (hash_no_equals e)) (place_in name) refl
marked_means field name value b Equals is clean marks =
    choose (Justified field) (is_use name) (Ok (Says (Include value) 0)) (named_reading (place_in name) Equals value)
    (λ u _. Uses value (is ∙ (ap (λ x. name ++ x ∷ value) (mark_byte b Equals marks) ∙ ap (λ n. n ++ 61 ∷ value) (use_name name u))) refl)
    (λ u. named_means field name value b Equals is clean marks (λ _. u) (place_in name) refl)

split_means : (field : List ℕ) (cut : Option Marked) → Split field cut → Justified field (split_reading field cut)
split_means field None h = flag_means field (place_in (trim_end field)) refl h
split_means field (Some m) h = marked_means field m.name m.value h.byte m.mark h.is h.clean h.marks

-- the white space before a field
leading : (part : List ℕ) → (white : List ℕ) × White white × (part ≡ white ++ skip_white part)
leading [] = ([], refl, refl)
leading (b ∷ rest) =
    choose (λ xs. (white : List ℕ) × White white × ((b ∷ rest) ≡ white ++ xs)) (is_white b) (skip_white rest) (b ∷ rest)
    (λ e. let h = leading rest in (b ∷ h.0, both_true (is_white b) (list_all is_white h.0) e h.1, ap (λ xs. b ∷ xs) h.2)) (λ _. ([], refl, refl))

abbrev Plain : List ℕ → Type 0
Plain [] = Unit {0}
Plain (b ∷ rest) = is_white b ≡ false

plain_behind : (part : List ℕ) → Plain (skip_white part)
plain_behind [] = tt
plain_behind (b ∷ rest) = choose Plain (is_white b) (skip_white rest) (b ∷ rest) (λ _. plain_behind rest) (λ e. e)

skipped : (white field : List ℕ) → White white → Plain field → skip_white (white ++ field) ≡ field
skipped [] [] h p = refl
skipped [] (b ∷ rest) h p = ap (λ t. if t then skip_white rest else b ∷ rest) p
skipped (b ∷ white) field h p =
    let parts = and_parts (is_white b) (list_all is_white white) h in
    ap (λ t. if t then skip_white (white ++ field) else b ∷ (white ++ field)) parts.0 ∙ skipped white field parts.1 p

-- the text before a comma
abbrev PartJustified : List ℕ → Result Reading FaultKind → Type 0
PartJustified part (Ok reading) = is_long reading ≡ false → PartSays part reading
PartJustified part (Err kind) = Unit {0}

said : (part white field : List ℕ) → White white → part ≡ white ++ field → begins_field field ≡ true → (read : Result Reading FaultKind) → Justified field read → PartJustified part read
said part white field clean is begins (Ok reading) h = λ short. Said white field clean is begins (h short)
said part white field clean is begins (Err kind) h = tt

part_means : (part white field : List ℕ) → White white → part ≡ white ++ field → Plain field → PartJustified part (trimmed_reading field)
part_means part white [] clean is p = λ _. Blank (subst White (sym (is ∙ append-nil white)) clean) refl
part_means part white (b ∷ rest) clean is p =
    choose (PartJustified part) (b == 46) (Ok Skipped) (split_reading (b ∷ rest) (marked_in (b ∷ rest)))
    (λ e _. Commented white rest clean (is ∙ ap (λ x. white ++ x ∷ rest) (eqb-true b 46 e)) refl)
    (λ e. said part white (b ∷ rest) clean is (both_true (not (is_white b)) (not (b == 46)) (ap not p) (ap not e)) (split_reading (b ∷ rest) (marked_in (b ∷ rest))) (split_means (b ∷ rest) (marked_in (b ∷ rest)) (split_at (b ∷ rest))))

abbrev OnSaid : List ℕ → Result Reading FaultKind → Type 0
OnSaid part (Ok reading) = PartSays part reading
OnSaid part (Err kind) = Unit {0}

bounded_says : (part : List ℕ) (read : Result Reading FaultKind) → PartJustified part read → OnSaid part (read >>= bounded_reading)
bounded_says part (Ok reading) h = choose (OnSaid part) (is_long reading) (Err faults.TooLong) (Ok reading) (λ _. tt) (λ e. h e)
bounded_says part (Err kind) h = tt

ended_says : (part : List ℕ) → OnSaid part (ended_reading part)
unfolding ended_reading reading_of
ended_says part =
    let h = leading part in
    bounded_says part (trimmed_reading (skip_white part)) (part_means part h.0 (skip_white part) h.1 h.2 (plain_behind part))

-- conversely, the meaning by the relation is that by reading
unknown_read : (name value : List ℕ) (mark : Mark) → (mark ≡ Equals → is_use name ≡ false) → place_in name ≡ None → marked_reading mark name value ≡ Ok Unknown
unknown_read name value At apart none = ap (λ o. named_reading o At value) none
unknown_read name value Hash apart none = ap (λ o. named_reading o Hash value) none
unknown_read name value Equals apart none =
    ap (λ t. if t then Ok (Says (Include value) 0) else named_reading (place_in name) Equals value) (apart refl) ∙ ap (λ o. named_reading o Equals value) none

means_read : (field : List ℕ) (reading : Reading) → Means field reading → split_reading field (marked_in field) ≡ Ok reading
unfolding number_reading string_reading
means_read field reading (IsFlag cap clean found kind is) =
    ap (split_reading field) (unmarked field clean)
    ∙ (ap flag_reading found ∙ (ap (λ t. if t then Ok (Says (Set cap values.Flag) 0) else Err faults.WrongKind) (of_kind cap kinds.Flag kind) ∙ ap Ok (sym is)))
means_read field reading (IsNumber name value cap n spelt clean found kind number is) =
    ap (split_reading field) (ap marked_in spelt ∙ marked_first name value 35 Hash clean refl)
    ∙ (ap (λ o. named_reading o Hash value) found
    ∙ (ap (λ t. if t then (number_of value >>= λ k. Ok (Says (Set cap (values.Number k)) 0)) else Err faults.WrongKind) (of_kind cap kinds.Number kind)
    ∙ (ap (λ r. r >>= λ k. Ok (Says (Set cap (values.Number k)) 0)) number ∙ ap Ok (sym is))))
means_read field reading (IsString name value cap d spelt clean apart found kind decoding short is) =
    ap (split_reading field) (ap marked_in spelt ∙ marked_first name value 61 Equals clean refl)
    ∙ (ap (λ t. if t then Ok (Says (Include value) 0) else named_reading (place_in name) Equals value) apart
    ∙ (ap (λ o. named_reading o Equals value) found
    ∙ (ap (λ t. if t then decoded_reading cap (decoding_of value) else Err faults.WrongKind) (of_kind cap kinds.String kind)
    ∙ (ap (decoded_reading cap) decoding ∙ ap Ok (sym is)))))
means_read field reading (Cancels name behind cap spelt clean found is) =
    ap (split_reading field) (ap marked_in spelt ∙ marked_first name behind 64 At clean refl)
    ∙ (ap (λ o. named_reading o At behind) found ∙ ap Ok (sym is))
means_read field reading (Uses name spelt is) = ap (split_reading field) (ap marked_in spelt ∙ marked_first (117 ∷ 115 ∷ 101 ∷ []) name 61 Equals refl refl) ∙ ap Ok (sym is)
means_read field reading (UnknownAlone clean none is) = ap (split_reading field) (unmarked field clean) ∙ (ap flag_reading none ∙ ap Ok (sym is))
means_read field reading (UnknownMarked name value b mark spelt clean marks apart none is) =
    ap (split_reading field) (ap marked_in spelt ∙ marked_first name value b mark clean marks)
    ∙ (unknown_read name value mark apart none ∙ ap Ok (sym is))

means_short : (field : List ℕ) (reading : Reading) → Means field reading → is_long reading ≡ false
means_short field reading (IsFlag cap clean found kind is) = ap is_long is
means_short field reading (IsNumber name value cap n spelt clean found kind number is) = ap is_long is
means_short field reading (IsString name value cap d spelt clean apart found kind decoding short is) = ap is_long is ∙ not_above (length d.bytes) 4095 short
means_short field reading (Cancels name behind cap spelt clean found is) = ap is_long is
means_short field reading (Uses name spelt is) = ap is_long is
means_short field reading (UnknownAlone clean none is) = ap is_long is
means_short field reading (UnknownMarked name value b mark spelt clean marks apart none is) = ap is_long is

no_begin : false ≡ true → ⊥
no_begin e = cc

-- a field isn't a comment, and no white space precedes it
begins_plain : (field : List ℕ) → begins_field field ≡ true → Plain field × (is_skipped field ≡ false)
begins_plain [] e = absurd (no_begin e)
begins_plain (b ∷ rest) e =
    let parts = and_parts (not (is_white b)) (not (b == 46)) e in
    (not-true (is_white b) parts.0, not-true (b == 46) parts.1)

part_read : (part : List ℕ) (reading : Reading) → PartSays part reading → ended_reading part ≡ Ok reading
unfolding ended_reading reading_of
part_read part reading (Blank white is) =
    ap (λ xs. trimmed_reading xs >>= bounded_reading) (ap skip_white (sym (append-nil part)) ∙ skipped part [] white tt) ∙ ap Ok (sym is)
part_read part reading (Commented white rest clean spelt is) =
    ap (λ xs. trimmed_reading xs >>= bounded_reading) (ap skip_white spelt ∙ skipped white (46 ∷ rest) clean refl) ∙ ap Ok (sym is)
part_read part reading (Said white field clean spelt begins means) =
    let b = begins_plain field begins in
    ap (λ xs. trimmed_reading xs >>= bounded_reading) (ap skip_white spelt ∙ skipped white field clean b.0)
    ∙ (ap (λ t. (if t then Ok Skipped else split_reading field (marked_in field)) >>= bounded_reading) b.1
    ∙ (ap (λ r. r >>= bounded_reading) (means_read field reading means) ∙ ap (λ t. if t then Err faults.TooLong else Ok reading) (means_short field reading means)))

-- the fields of a line
no_answer : {A : Type 0} {E : Type 0} (fault : E) (x : A) → Err fault ≡ Ok x → ⊥
no_answer fault x e = cc

same_answer : {A : Type 0} {E : Type 0} (x y : A) → ◌≡◌ {A = Result A E} (Ok x) (Ok y) → x ≡ y
same_answer x y e = cc

grows_more : (number : ℕ) (raw : RawEntry) (part : List ℕ) (parts : List (List ℕ)) (grown : RawEntry) (read : Result Reading FaultKind) → OnSaid part read → ((next : RawEntry) → add_fields number next parts ≡ Ok grown → Grows number next parts grown) → ((read >>= λ reading. Ok (with_reading number raw reading)) >>= λ next. add_fields number next parts) ≡ Ok grown → Grows number raw (part ∷ parts) grown
grows_more number raw part parts grown (Ok reading) says more e = (reading, says, more (with_reading number raw reading) e)
grows_more number raw part parts grown (Err fault) says more e = absurd (no_answer fault grown e)

grows : (number : ℕ) (raw : RawEntry) (parts : List (List ℕ)) (grown : RawEntry) → add_fields number raw parts ≡ Ok grown → Grows number raw parts grown
unfolding add_field
grows number raw [] grown e = sym (same_answer {E = FaultKind} raw grown e)
grows number raw (part ∷ parts) grown e = grows_more number raw part parts grown (ended_reading part) (ended_says part) (λ next. grows number next parts grown) e

grown_read : (number : ℕ) (raw : RawEntry) (parts : List (List ℕ)) (grown : RawEntry) → Grows number raw parts grown → add_fields number raw parts ≡ Ok grown
unfolding add_field
grown_read number raw [] grown h = ap Ok (sym h)
grown_read number raw (part ∷ parts) grown h =
    ap (λ r. (r >>= λ reading. Ok (with_reading number raw reading)) >>= λ next. add_fields number next parts) (part_read part h.0 h.1) ∙ grown_read number (with_reading number raw h.0) parts grown h.2

-- the text after the last comma
never : (read : Result Reading FaultKind) (grown : RawEntry) → (read >>= λ reading. Err faults.OpenField) ≡ Ok grown → ⊥
never (Ok reading) grown e = no_answer faults.OpenField grown e
never (Err fault) grown e = no_answer fault grown e

last_blank : (next : RawEntry) (last : List ℕ) (grown : RawEntry) → add_last next last ≡ Ok grown → (next ≡ grown) × White last
unfolding add_last
last_blank next last grown =
    choose (λ r. r ≡ Ok grown → (next ≡ grown) × White last) (list_all is_white last) (Ok next) (reading_of last >>= λ reading. Err faults.OpenField)
    (λ w e. (same_answer {E = FaultKind} next grown e, w)) (λ _ e. absurd (never (reading_of last) grown e))

cut_parts : (read : Result RawEntry FaultKind) (last : List ℕ) (grown : RawEntry) → (read >>= λ next. add_last next last) ≡ Ok grown → (read ≡ Ok grown) × White last
cut_parts (Ok next) last grown e = let h = last_blank next last grown e in (ap Ok h.0, h.1)
cut_parts (Err fault) last grown e = absurd (no_answer fault grown e)

cut_read : (number : ℕ) (raw : RawEntry) (fields : List (List ℕ)) (last : List ℕ) (grown : RawEntry) → White last → Grows number raw fields grown → add_cut number raw (record { ended = fields; last = last }) ≡ Ok grown
unfolding add_cut add_last
cut_read number raw fields last grown blank h =
    ap (λ r. r >>= λ next. (if list_all is_white last then Ok next else (reading_of last >>= λ reading. Err faults.OpenField))) (grown_read number raw fields grown h)
    ∙ ap (λ t. if t then Ok grown else (reading_of last >>= λ reading. Err faults.OpenField)) blank

further_line : (number : ℕ) (raw : RawEntry) (line : List ℕ) (grown : RawEntry) → add_cut number raw (cut_of line) ≡ Ok grown → FurtherLine number raw line grown
unfolding add_cut
further_line number raw line grown e =
    let h = cut_parts (add_fields number raw (cut_of line).ended) (cut_of line).last grown e in
    record { fields = (cut_of line).ended; last = (cut_of line).last; has = has_fields line; blank = h.1; grows = grows number raw (cut_of line).ended grown h.0 }

further_read : (number : ℕ) (raw : RawEntry) (line : List ℕ) (grown : RawEntry) → FurtherLine number raw line grown → add_cut number raw (cut_of line) ≡ Ok grown
further_read number raw line grown h = ap (add_cut number raw) (fields_cut h.fields h.last line h.has) ∙ cut_read number raw h.fields h.last grown h.blank h.grows

-- the line on which an entry begins
open_never : (last : List ℕ) (entry : RawEntry) → begun_by 0 [] last ≡ Ok entry → ⊥
open_never last entry =
    choose (λ r. r ≡ Ok entry → ⊥) (is_no_name last) (Err faults.NoName) (Err faults.OpenField) (λ _ e. no_answer faults.NoName entry e) (λ _ e. no_answer faults.OpenField entry e)

begun_line : (number : ℕ) (line : List ℕ) (ended : List (List ℕ)) (last : List ℕ) (entry : RawEntry) → HasFields ended last line → begun_by number ended last ≡ Ok entry → EntryLine number line entry
unfolding named_entry add_cut
begun_line number line [] last entry h = λ e. absurd (open_never last entry e)
begun_line number line (names ∷ parts) last entry h =
    let behind : RawEntry → Result RawEntry FaultKind = λ raw. add_cut number raw (record { ended = parts; last = last }) in
    choose (λ r. (r >>= behind) ≡ Ok entry → EntryLine number line entry) (is_no_name names) (Err faults.NoName) (if nat_lt 4095 (length names) then Err faults.TooLong else Ok (new_entry number names))
    (λ _ e. absurd (no_answer faults.NoName entry e))
    (λ named. choose (λ r. (r >>= behind) ≡ Ok entry → EntryLine number line entry) (nat_lt 4095 (length names)) (Err faults.TooLong) (Ok (new_entry number names))
    (λ _ e. absurd (no_answer faults.TooLong entry e))
    (λ short e. let k = cut_parts (add_fields number (new_entry number names) parts) last entry e in
    record {
      names = names;
      fields = parts;
      last = last;
      has = h;
      blank = k.1;
      named = named;
      short = within (length names) 4095 short;
      grows = grows number (new_entry number names) parts entry k.0;
    }))

entry_line : (number : ℕ) (line : List ℕ) (entry : RawEntry) → entry_on number line ≡ Ok entry → EntryLine number line entry
unfolding entry_on
entry_line number line entry e = begun_line number line (cut_of line).ended (cut_of line).last entry (has_fields line) e

entry_read : (number : ℕ) (line : List ℕ) (entry : RawEntry) → EntryLine number line entry → entry_on number line ≡ Ok entry
unfolding entry_on named_entry
entry_read number line entry h =
    let behind : RawEntry → Result RawEntry FaultKind = λ raw. add_cut number raw (record { ended = h.fields; last = h.last }) in
    ap (λ (c : Cut). begun_by number c.ended c.last) (fields_cut (h.names ∷ h.fields) h.last line h.has)
    ∙ (ap (λ t. (if t then Err faults.NoName else (if nat_lt 4095 (length h.names) then Err faults.TooLong else Ok (new_entry number h.names))) >>= behind) h.named
    ∙ (ap (λ t. (if t then Err faults.TooLong else Ok (new_entry number h.names)) >>= behind) (not_above (length h.names) 4095 h.short) ∙ cut_read number (new_entry number h.names) h.fields h.last entry h.blank h.grows))

-- the lines
abbrev Behind : ℕ → List (List ℕ) → List RawEntry → List RawEntry → Option RawEntry → Type 0
Behind number lines all done open_entry = (entries : List RawEntry) × (all ≡ done ++ entries) × Stand number lines open_entry entries

abbrev at_last : List RawEntry → Option RawEntry → Progress
at_last done open_entry = record { done = done; open_entry = open_entry }

abbrev Onward : ℕ → List (List ℕ) → List RawEntry → Type 0
Onward number lines all = (done : List RawEntry) (open_entry : Option RawEntry) → read_lines number lines (at_last done open_entry) ≡ Ok all → Behind number lines all done open_entry

further_behind : (number : ℕ) (line : List ℕ) (lines : List (List ℕ)) (all done : List RawEntry) (raw : RawEntry) (read : Result RawEntry FaultKind) → add_cut number raw (cut_of line) ≡ read → is_passed line ≡ false → begins_white line ≡ true → Onward (number + 1) lines all → lines_behind number (read >>= λ next. Ok (at_last done (Some next))) (read_lines (number + 1) lines) ≡ Ok all → Behind number (line ∷ lines) all done (Some raw)
further_behind number line lines all done raw (Ok grown) is told white more e =
    let h = more done (Some grown) e in
    (h.0, h.1, Further raw grown told white refl (further_line number raw line grown is) h.2)
further_behind number line lines all done raw (Err kind) is told white more e = absurd (no_answer (fault_at number kind) all e)

continued_behind : (number : ℕ) (line : List ℕ) (lines : List (List ℕ)) (all done : List RawEntry) (open_entry : Option RawEntry) → is_passed line ≡ false → begins_white line ≡ true → Onward (number + 1) lines all → lines_behind number (continued number line (at_last done open_entry) open_entry) (read_lines (number + 1) lines) ≡ Ok all → Behind number (line ∷ lines) all done open_entry
continued_behind number line lines all done None told white more e = absurd (no_answer (fault_at number faults.NoName) all e)
continued_behind number line lines all done (Some raw) told white more e = further_behind number line lines all done raw (add_cut number raw (cut_of line)) refl told white more e

begun_behind : (number : ℕ) (line : List ℕ) (lines : List (List ℕ)) (all done : List RawEntry) (open_entry : Option RawEntry) (read : Result RawEntry FaultKind) → entry_on number line ≡ read → is_passed line ≡ false → begins_white line ≡ false → Onward (number + 1) lines all → lines_behind number (read >>= λ raw. Ok (at_last (done ++ option_to_list open_entry) (Some raw))) (read_lines (number + 1) lines) ≡ Ok all → Behind number (line ∷ lines) all done open_entry
begun_behind number line lines all done open_entry (Ok entry) is told white more e =
    let h = more (done ++ option_to_list open_entry) (Some entry) e in
    (option_to_list open_entry ++ h.0, h.1 ∙ append_assoc done (option_to_list open_entry) h.0, Begins entry h.0 told white (entry_line number line entry is) refl h.2)
begun_behind number line lines all done open_entry (Err kind) is told white more e = absurd (no_answer (fault_at number kind) all e)

stands : (number : ℕ) (lines : List (List ℕ)) (all : List RawEntry) → Onward number lines all
unfolding read_line
stands number [] all done open_entry = λ e. (option_to_list open_entry, sym (same_answer {E = SourceFault} (done ++ option_to_list open_entry) all e), refl)
stands number (line ∷ lines) all done open_entry =
    let Goal : Result Progress FaultKind → Type 0 = λ r. lines_behind number r (read_lines (number + 1) lines) ≡ Ok all → Behind number (line ∷ lines) all done open_entry in
    let more = stands (number + 1) lines all in
    choose Goal (is_passed line) (Ok (at_last done open_entry)) (if begins_white line then continued number line (at_last done open_entry) open_entry else begun number line (at_last done open_entry))
    (λ t e. let h = more done open_entry e in (h.0, h.1, Passed t h.2))
    (λ told. choose Goal (begins_white line) (continued number line (at_last done open_entry) open_entry) (begun number line (at_last done open_entry))
    (λ white e. continued_behind number line lines all done open_entry told white more e)
    (λ white e. begun_behind number line lines all done open_entry (entry_on number line) refl told white more e))

-- conversely, entries related to lines are read
abbrev Reads : ℕ → List (List ℕ) → Type 0
Reads number lines = (done : List RawEntry) (open_entry : Option RawEntry) (entries : List RawEntry) → Stand number lines open_entry entries → read_lines number lines (at_last done open_entry) ≡ Ok (done ++ entries)

not_passed : (number : ℕ) (line : List ℕ) (progress : Progress) (white : Bool) → is_passed line ≡ false → begins_white line ≡ white → read_line number line progress ≡ (if white then continued number line progress progress.open_entry else begun number line progress)
unfolding read_line
not_passed number line progress white told e =
    ap (λ t. if t then Ok progress else (if begins_white line then continued number line progress progress.open_entry else begun number line progress)) told
    ∙ ap (λ t. if t then continued number line progress progress.open_entry else begun number line progress) e

line_read : (number : ℕ) (line : List ℕ) (lines : List (List ℕ)) (done : List RawEntry) (open_entry : Option RawEntry) (entries : List RawEntry) → LineStands number open_entry line entries (Stand (number + 1) lines) → Reads (number + 1) lines → read_lines number (line ∷ lines) (at_last done open_entry) ≡ Ok (done ++ entries)
unfolding read_line
line_read number line lines done open_entry entries (Passed told behind) more =
    ap (λ t. lines_behind number (if t then Ok (at_last done open_entry) else (if begins_white line then continued number line (at_last done open_entry) open_entry else begun number line (at_last done open_entry))) (read_lines (number + 1) lines)) told
    ∙ more done open_entry entries behind
line_read number line lines done open_entry entries (Further raw grown told white is has behind) more =
    ap (λ r. lines_behind number r (read_lines (number + 1) lines)) (not_passed number line (at_last done open_entry) true told white)
    ∙ (ap (λ o. lines_behind number (continued number line (at_last done open_entry) o) (read_lines (number + 1) lines)) is
    ∙ (ap (λ r. lines_behind number (r >>= λ next. Ok (at_last done (Some next))) (read_lines (number + 1) lines)) (further_read number raw line grown has) ∙ more done (Some grown) entries behind))
line_read number line lines done open_entry entries (Begins entry others told white has is behind) more =
    ap (λ r. lines_behind number r (read_lines (number + 1) lines)) (not_passed number line (at_last done open_entry) false told white)
    ∙ (ap (λ r. lines_behind number (r >>= λ raw. Ok (at_last (done ++ option_to_list open_entry) (Some raw))) (read_lines (number + 1) lines)) (entry_read number line entry has)
    ∙ (more (done ++ option_to_list open_entry) (Some entry) others behind ∙ ap Ok (append_assoc done (option_to_list open_entry) others ∙ ap (λ es. done ++ es) (sym is))))

reads : (number : ℕ) (lines : List (List ℕ)) → Reads number lines
reads number [] done open_entry entries h = ap (λ es. Ok (done ++ es)) (sym h)
reads number (line ∷ lines) done open_entry entries h = line_read number line lines done open_entry entries h (reads (number + 1) lines)

-- the laws
pub read_is_related : ReadIsRelated
unfolding source_of
read_is_related text entries =
    choose (λ r. r ≡ Ok entries → IsSource text entries) (nat_lt 16777216 (length text)) (Err (fault_at 0 faults.TooLong)) (read_lines 1 (lines_of text) no_progress)
    (λ _ e. absurd (no_answer (fault_at 0 faults.TooLong) entries e))
    (λ short e. let h = stands 1 (lines_of text) entries [] None e in
    record { short = within (length text) 16777216 short; lines = lines_of text; has = has_lines text; stand = subst (Stand 1 (lines_of text) None) (sym h.1) h.2 })

pub related_is_read : RelatedIsRead
unfolding source_of
related_is_read text entries h =
    ap (λ t. if t then Err (fault_at 0 faults.TooLong) else read_lines 1 (lines_of text) no_progress) (not_above (length text) 16777216 h.short)
    ∙ (ap (λ ls. read_lines 1 ls no_progress) (lines_cut h.lines text h.has) ∙ reads 1 h.lines [] None entries h.stand)

pub fault_has_none : FaultHasNone
fault_has_none text fault e entries h = no_answer fault entries (sym e ∙ related_is_read text entries h)

-- the line at which reading stops
record Stops (number : ℕ) (lines : List (List ℕ)) (progress : Progress) (fault : SourceFault) : Type 0 where
  before : List (List ℕ)
  line : List ℕ
  behind : List (List ℕ)
  is : lines ≡ before ++ line ∷ behind
  at : fault.line ≡ number + length before
  all : List RawEntry
  fine : read_lines number before progress ≡ Ok all
  stuck : read_lines number (before ++ line ∷ []) progress ≡ Err fault

no_fault : {A E : Type 0} (x : A) (fault : E) → Ok x ≡ Err fault → ⊥
no_fault x fault e = cc

same_fault : (a b : SourceFault) → ◌≡◌ {A = Result (List RawEntry) SourceFault} (Err a) (Err b) → a ≡ b
same_fault a b e = cc

stops_at : (number : ℕ) (line : List ℕ) (lines : List (List ℕ)) (progress : Progress) (fault : SourceFault) (read : Result Progress FaultKind) → read_line number line progress ≡ read → ((next : Progress) → read_lines (number + 1) lines next ≡ Err fault → Stops (number + 1) lines next fault) → lines_behind number read (read_lines (number + 1) lines) ≡ Err fault → Stops number (line ∷ lines) progress fault
stops_at number line lines progress fault (Err kind) is more e =
    let same : fault.line ≡ number = ap (λ (f : SourceFault). f.line) (sym (same_fault (fault_at number kind) fault e)) in
    record {
      before = [];
      line = line;
      behind = lines;
      is = refl;
      at = omega (arith, same);
      all = all_of progress;
      fine = refl;
      stuck = ap (λ r. lines_behind number r (read_lines (number + 1) [])) is ∙ e;
    }
stops_at number line lines progress fault (Ok next) is more e =
    let h = more next e in
    record {
      before = line ∷ h.before;
      line = h.line;
      behind = h.behind;
      is = ap (λ ls. line ∷ ls) h.is;
      at = omega (arith, h.at);
      all = h.all;
      fine = ap (λ r. lines_behind number r (read_lines (number + 1) h.before)) is ∙ h.fine;
      stuck = ap (λ r. lines_behind number r (read_lines (number + 1) (h.before ++ h.line ∷ []))) is ∙ h.stuck;
    }

stops : (number : ℕ) (lines : List (List ℕ)) (progress : Progress) (fault : SourceFault) → read_lines number lines progress ≡ Err fault → Stops number lines progress fault
stops number [] progress fault e = absurd (no_fault (all_of progress) fault e)
stops number (line ∷ lines) progress fault e = stops_at number line lines progress fault (read_line number line progress) refl (λ next. stops (number + 1) lines next fault) e

short_read : (text : List ℕ) (lines : List (List ℕ)) → length text ≤ 16777216 → HasLines lines text → source_of text ≡ read_lines 1 lines no_progress
unfolding source_of
short_read text lines short has =
    ap (λ t. if t then Err (fault_at 0 faults.TooLong) else read_lines 1 (lines_of text) no_progress) (not_above (length text) 16777216 short) ∙ ap (λ ls. read_lines 1 ls no_progress) (lines_cut lines text has)

pub fault_is_first : FaultIsFirst
fault_is_first text fault lines short has e =
    let h = stops 1 lines no_progress fault (sym (short_read text lines short has) ∙ e) in
    let s = stands 1 h.before h.all [] None h.fine in
    record {
      before = h.before;
      line = h.line;
      behind = h.behind;
      is = h.is;
      at = omega (arith, h.at);
      entries = s.0;
      fine = s.2;
      stuck = λ others stand. no_fault others fault (sym (reads 1 (h.before ++ h.line ∷ []) [] None others stand) ∙ h.stuck);
    }
