-- A printed entry is short enough to be read, and is read as that entry.
use Rattle.std.proofs.Common.{◌≡◌, ℕ, ◌+◌, ◌*◌, ◌<◌, ◌≤◌, zero, suc, true, false, not, ◌&&◌, List, [], ◌∷◌, ◌++◌, map, length, Option, Some, None, Err, refl, sym, ap, ◌∙◌, arith, length-append}
use Rattle.std.specs.Prelude.{if◌then◌else◌, ◌==◌, nat_le, nat_lt, flat_map}
use Rattle.std.specs.List.{list_all}
use Rattle.std.proofs.lemmas.Bool.{and_parts, leb-true}
use Rattle.std.proofs.lemmas.Bool.Decides.{nat_tests}
use Rattle.std.proofs.lemmas.Fmt.{length-decimal-le}
use Rattle.std.proofs.lemmas.List.Folds.{list_all-append}
use Rattle.ti_caps.proofs.Tables.{place_in_table, name_is_short}
use Rattle.ti_caps.specs.declared.types.Kind.{Kind}
use Rattle.ti_caps.specs.declared.types.Kind.TheVariants as kinds
use Rattle.ti_caps.specs.declared.value.Value.{Value}
use Rattle.ti_caps.specs.declared.value.Value.TheVariants as values
use Rattle.ti_caps.specs.Entry.{Content, IsEntry, FitsPlace, value_at}
use Rattle.ti_caps.specs.Table.{name_at, kind_of, place_of_rank}
use Rattle.ti_source.specs.declared.types.FaultKind.TheVariants as faults
use Rattle.ti_source.specs.Fields.{new_entry}
use Rattle.ti_caps.specs.Table.{is_kind}
use Rattle.ti_source.specs.Layout.{lines_of}
use Rattle.ti_source.specs.Printed.{fields_of, ReadsBack}
use Rattle.ti_source.specs.Prints.{letter_for, octal, spelled_with, spelled, string_text, value_text, field_text, place_text, rank_text, ranks_text, kind_text, text_of}
use Rattle.ti_source.specs.Source.{fault_at, lines_behind, read_lines, no_progress, source_of}
use Rattle.ti_source.proofs.Decodings.{either_way}
use Rattle.ti_source.proofs.Fitness.{same_kind}
use Rattle.ti_source.proofs.ReadBack.{whole_line, line_of, printed}
use Rattle.ti_source.proofs.RoundTrip.{names_parts, names_read, names_inline, fields_lines, fields_read, text_prints, fine_fields, flag_no_number, flag_no_string, number_no_string}
use Rattle.ti_source.proofs.Spellings.{choose, both_true, is_inline}

spelled_short : (b : ℕ) (letter : Option ℕ) → length (spelled_with b letter) ≤ 4
spelled_short b (Some letter) = omega arith
spelled_short b None = either_way (λ xs. length xs ≤ 4) (nat_le 33 b && nat_le b 126) (b ∷ []) (octal b) (omega arith) (omega arith)

string_short : (bytes : List ℕ) → length (string_text bytes) ≤ 4 * length bytes
unfolding string_text spelled
string_short [] = omega arith
string_short (b ∷ bytes) = omega (arith, length-append (spelled_with b (letter_for b)) (string_text bytes), spelled_short b (letter_for b), string_short bytes)

-- the greatest length in bytes of a field's line
abbrev line_most : Kind → ℕ
line_most kinds.Flag = 11
line_most kinds.Number = 22
line_most kinds.String = 16392

field_length : (place most : ℕ) (value : Value) → place < 497 → length (value_text value) ≤ most → length (field_text place value) ≤ most + 11
unfolding field_text
field_length place most value inside h =
    omega (arith, name_is_short place inside, length-append (name_at place) (value_text value ++ 44 ∷ 10 ∷ []), length-append (value_text value) (44 ∷ 10 ∷ []))

value_line : (place : ℕ) (kind : Kind) (value : Value) → place < 497 → FitsPlace place (Some value) → kind_of place ≡ kind → length (field_text place value) ≤ line_most kind
value_line place kinds.Flag values.Flag inside h e = field_length place 0 values.Flag inside (omega arith)
value_line place kinds.Number (values.Number n) inside h e =
    let digits = length-decimal-le 10 n (omega arith) (omega (arith, h.1)) (omega (arith, h.1)) in
    field_length place 11 (values.Number n) inside (omega (arith, digits))
value_line place kinds.String (values.String bytes) inside h e =
    let few = leb-true (length bytes) 4095 (and_parts (nat_le (length bytes) 4095) (list_all (λ b. not (b == 0)) bytes) h.1).0 in
    field_length place 16381 (values.String bytes) inside (omega (arith, string_short bytes, few))
value_line place kinds.Flag (values.Number n) inside h e = absurd (flag_no_number (sym e ∙ h.0))
value_line place kinds.Flag (values.String bytes) inside h e = absurd (flag_no_string (sym e ∙ h.0))
value_line place kinds.Number values.Flag inside h e = absurd (flag_no_number (sym h ∙ e))
value_line place kinds.Number (values.String bytes) inside h e = absurd (number_no_string (sym e ∙ h.0))
value_line place kinds.String values.Flag inside h e = absurd (flag_no_string (sym h ∙ e))
value_line place kinds.String (values.Number n) inside h e = absurd (number_no_string (sym h.0 ∙ e))

place_line : (place : ℕ) (kind : Kind) (value : Option Value) → place < 497 → FitsPlace place value → kind_of place ≡ kind → length (place_text place value) ≤ line_most kind
place_line place kind None inside h e = omega arith
place_line place kind (Some value) inside h e = value_line place kind value inside h e

rank_short : (entry : Content) (kind : Kind) (rank : ℕ) → IsEntry entry → rank < 497 → length (rank_text entry kind rank) ≤ line_most kind
unfolding rank_text
rank_short entry kind rank h inside =
    choose (λ xs. length xs ≤ line_most kind) (is_kind (kind_of (place_of_rank rank)) kind) (place_text (place_of_rank rank) (value_at entry (place_of_rank rank))) []
    (λ e. place_line (place_of_rank rank) kind (value_at entry (place_of_rank rank)) (place_in_table rank inside) (h.fits (place_of_rank rank)) (same_kind (kind_of (place_of_rank rank)) kind e)) (λ _. omega arith)

ranks_short : (entry : Content) (kind : Kind) (n : ℕ) → IsEntry entry → n ≤ 497 → length (ranks_text entry kind n) ≤ line_most kind * n
ranks_short entry kind zero h inside = omega arith
ranks_short entry kind (suc n) h inside =
    omega (arith, length-append (ranks_text entry kind n) (rank_text entry kind n), ranks_short entry kind n h (omega arith), rank_short entry kind n h (omega arith))

kind_short : (entry : Content) (kind : Kind) → IsEntry entry → length (kind_text entry kind) ≤ line_most kind * 497
unfolding kind_text
kind_short entry kind h = ranks_short entry kind 497 h (omega arith)

text_short : (entry : Content) → IsEntry entry → length (text_of entry) ≤ 16777216
unfolding text_of
text_short entry h =
    let n = names_parts entry.names h.names_fit in
    let few = leb-true (length entry.names) 4095 n.short in
    let flags = kind_text entry kinds.Flag in
    let numbers = kind_text entry kinds.Number in
    let strings = kind_text entry kinds.String in
    omega (
      arith,
      few,
      length-append entry.names (44 ∷ 10 ∷ (flags ++ (numbers ++ strings))),
      length-append flags (numbers ++ strings),
      length-append numbers strings,
      kind_short entry kinds.Flag h,
      kind_short entry kinds.Number h,
      kind_short entry kinds.String h,
    )

within_limit : (n : ℕ) → n ≤ 16777216 → nat_lt 16777216 n ≡ false
within_limit n h = grind (arith, nat_tests)

text_lines : (entry : Content) → IsEntry entry → lines_of (text_of entry) ≡ (entry.names ++ 44 ∷ []) ∷ map line_of (fields_of entry)
text_lines entry is =
    let n = names_parts entry.names is.names_fit in
    let line = entry.names ++ 44 ∷ [] in
    let inline : list_all is_inline line ≡ true = list_all-append is_inline entry.names (44 ∷ []) ∙ both_true (list_all is_inline entry.names) true (names_inline entry.names n.controls) refl in
    ap lines_of (text_prints entry)
    ∙ (whole_line line (flat_map printed (fields_of entry)) inline ∙ ap (λ ls. line ∷ ls) (fields_lines [] (fields_of entry) (fine_fields entry is)))

-- printing reads back
pub reads_back : ReadsBack
unfolding source_of
reads_back entry is =
    let n = names_parts entry.names is.names_fit in
    ap (λ t. if t then Err (fault_at 0 faults.TooLong) else read_lines 1 (lines_of (text_of entry)) no_progress) (within_limit (length (text_of entry)) (text_short entry is))
    ∙ (ap (λ ls. read_lines 1 ls no_progress) (text_lines entry is)
    ∙ (ap (λ r. lines_behind 1 r (read_lines 2 (map line_of (fields_of entry)))) (names_read entry.names n)
    ∙ fields_read 2 (new_entry 1 entry.names) (fields_of entry) (fine_fields entry is)))
