-- A printed entry is read as that entry: its names, all its fields, and its length.
use Rattle.std.proofs.Common.{◌≡◌, ◌≢◌, ℕ, ◌+◌, ◌<◌, ◌≤◌, zero, suc, Bool, true, false, not, ◌&&◌, ◌||◌, List, [], ◌∷◌, ◌++◌, map, length, Option, Some, None, Ok, Err, refl, sym, ap, ◌∙◌, subst, arith, append-nil, append_assoc}
use Rattle.std.specs.Prelude.{if◌then◌else◌, ◌==◌, nat_le, nat_lt, flat_map, IsTrue}
use Rattle.std.specs.Int.{from_be_bytes, w64}
use Rattle.std.specs.List.{list_all, list_any}
use Rattle.std.proofs.lemmas.Bool.{and_parts, leb-true, not-true, ne_eqb}
use Rattle.std.proofs.lemmas.Bool.Decides.{nat_tests}
use Rattle.std.proofs.lemmas.Grind.{flat_map-append}
use Rattle.std.proofs.lemmas.List.Folds.{list_all-append, list_any-append}
use Rattle.ti_caps.proofs.Tables.{place_in_table, rank_key_rises}
use Rattle.ti_caps.specs.declared.fits.Opener.{Opener}
use Rattle.ti_caps.specs.declared.fits.Opener.TheVariants.{Nothing}
use Rattle.ti_caps.specs.declared.types.Kind.{Kind}
use Rattle.ti_caps.specs.declared.types.Kind.TheVariants as kinds
use Rattle.ti_caps.specs.declared.value.Value.{Value}
use Rattle.ti_caps.specs.Entry.{Content, IsEntry, FitsPlace, HasBytes, value_at}
use Rattle.ti_caps.specs.Fits.{opener_after, is_one_field, begins_names, names_fit}
use Rattle.ti_caps.specs.Table.{name_at, kind_of, place_of_rank, rank_key, row_at}
use Rattle.ti_source.specs.declared.types.FaultKind.TheVariants as faults
use Rattle.ti_source.specs.declared.types.Field.{Field}
use Rattle.ti_source.specs.declared.types.Field.TheVariants.{Set, Cancel, Include}
use Rattle.ti_source.specs.declared.types.RawEntry.{RawEntry}
use Rattle.ti_source.specs.Fields.{◌>>=◌, cap_of, is_cap, is_told, repeats, with_field, add_last, add_cut, begins_unnamed, is_no_name, new_entry, named_entry, begun_by, entry_on}
use Rattle.ti_caps.specs.Table.{is_kind}
use Rattle.ti_source.specs.Layout.{lines_of, is_white, ends_field, put_field, onto_cut, cut_from, cut_of}
use Rattle.ti_source.specs.Printed.{place_fields, rank_fields, ranks_fields, kind_fields, fields_of}
use Rattle.ti_source.specs.Prints.{value_text, field_text, place_text, rank_text, ranks_text, kind_text, text_of}
use Rattle.ti_source.specs.Source.{continued, begun, read_line, lines_behind, read_lines, no_progress}
use Rattle.ti_source.proofs.Fitness.{same_kind}
use Rattle.ti_source.proofs.ReadBack.{whole_line, body_of, line_of, printed, printed_line, quiet_body, opened, field_read, or_no}
use Rattle.ti_source.proofs.Spellings.{choose, both_true, is_inline}

-- the line of the names
names_cut : (opener : Opener) (names : List ℕ) → is_one_field opener names ≡ true → cut_from opener (names ++ 44 ∷ []) ≡ record { ended = names ∷ []; last = [] }
names_cut opener [] e = ap (λ t. if t && true then put_field [] (record { ended = []; last = [] }) else onto_cut 44 (cut_from (opener_after opener 44) [])) e
names_cut opener (b ∷ names) e =
    let parts = and_parts (not (ends_field opener b)) (is_one_field (opener_after opener b) names) e in
    ap (λ t. if t then put_field [] (cut_from Nothing (names ++ 44 ∷ [])) else onto_cut b (cut_from (opener_after opener b) (names ++ 44 ∷ []))) (not-true (ends_field opener b) parts.0)
    ∙ ap (onto_cut b) (names_cut (opener_after opener b) names parts.1)

begins_named : (names : List ℕ) → begins_names names ≡ true → begins_unnamed names ≡ false
begins_named [] e = cc
begins_named (b ∷ rest) e = not-true (b == 124) (and_parts (not (b == 35)) (not (b == 124)) (and_parts (not (b == 32)) (not (b == 35) && not (b == 124)) e).1).1

not_below : (b : ℕ) → nat_le 32 b ≡ true → nat_lt b 32 ≡ false
not_below b e = grind (arith, nat_tests)

no_control : (names : List ℕ) → list_all (λ b. nat_le 32 b) names ≡ true → list_any (λ b. nat_lt b 32) names ≡ false
no_control [] e = refl
no_control (b ∷ rest) e =
    let parts = and_parts (nat_le 32 b) (list_all (λ b. nat_le 32 b) rest) e in
    ap (λ t. t || list_any (λ b. nat_lt b 32) rest) (not_below b parts.0) ∙ no_control rest parts.1

pub names_inline : (names : List ℕ) → list_all (λ b. nat_le 32 b) names ≡ true → list_all is_inline names ≡ true
names_inline [] e = refl
names_inline (b ∷ rest) e =
    let parts = and_parts (nat_le 32 b) (list_all (λ b. nat_le 32 b) rest) e in
    let h = leb-true 32 b parts.0 in
    let inline : is_inline b ≡ true = grind (arith, nat_tests) in
    both_true (is_inline b) (list_all is_inline rest) inline (names_inline rest parts.1)

pub short_enough : (n most : ℕ) → nat_le n most ≡ true → nat_lt most n ≡ false
short_enough n most e = grind (arith, nat_tests)

pub record NamesFit (names : List ℕ) : Type 0 where
  pub short : nat_le (length names) 4095 ≡ true
  pub begins : begins_names names ≡ true
  pub controls : list_all (λ b. nat_le 32 b) names ≡ true
  pub one : is_one_field Nothing names ≡ true

pub names_parts : (names : List ℕ) → IsTrue (names_fit names) → NamesFit names
names_parts names e =
    let a = and_parts (nat_le (length names) 4095) (begins_names names && (list_all (λ b. nat_le 32 b) names && is_one_field Nothing names)) e in
    let b = and_parts (begins_names names) (list_all (λ b. nat_le 32 b) names && is_one_field Nothing names) a.1 in
    let c = and_parts (list_all (λ b. nat_le 32 b) names) (is_one_field Nothing names) b.1 in
    record { short = a.0; begins = b.0; controls = c.0; one = c.1 }

named : (names : List ℕ) → NamesFit names → named_entry 1 names ≡ Ok (new_entry 1 names)
unfolding named_entry is_no_name
named names h =
    ap (λ t. if t || list_any (λ b. nat_lt b 32) names then Err faults.NoName else (if nat_lt 4095 (length names) then Err faults.TooLong else Ok (new_entry 1 names))) (begins_named names h.begins)
    ∙ (ap (λ t. if t then Err faults.NoName else (if nat_lt 4095 (length names) then Err faults.TooLong else Ok (new_entry 1 names))) (no_control names h.controls)
    ∙ ap (λ t. if t then Err faults.TooLong else Ok (new_entry 1 names)) (short_enough (length names) 4095 h.short))

names_entry : (names : List ℕ) → NamesFit names → entry_on 1 (names ++ 44 ∷ []) ≡ Ok (new_entry 1 names)
unfolding entry_on cut_of add_cut add_last
names_entry names h =
    ap (λ c. begun_by 1 c.ended c.last) (names_cut Nothing names h.one) ∙ ap (λ r. r >>= λ raw. add_cut 1 raw (record { ended = []; last = [] })) (named names h)

not_white : (b : ℕ) (rest : List ℕ) → begins_names (b ∷ rest) ≡ true → nat_le 32 b ≡ true → is_white b ≡ false
not_white b rest e f =
    let space : (b == 32) ≡ false = not-true (b == 32) (and_parts (not (b == 32)) (not (b == 35) && not (b == 124)) e).0 in
    let h = leb-true 32 b f in
    let tab : (b == 9) ≡ false = grind (arith, nat_tests) in
    ap (λ t. t || (b == 9)) space ∙ tab

no_names : begins_names [] ≡ true → ⊥
no_names e = cc

pub names_read : (names : List ℕ) → NamesFit names → read_line 1 (names ++ 44 ∷ []) no_progress ≡ Ok (opened (new_entry 1 names))
unfolding read_line
names_read [] h = absurd (no_names h.begins)
names_read (b ∷ rest) h =
    let line = rest ++ 44 ∷ [] in
    let white = not_white b rest h.begins (and_parts (nat_le 32 b) (list_all (λ b. nat_le 32 b) rest) h.controls).0 in
    let hash = not-true (b == 35) (and_parts (not (b == 35)) (not (b == 124)) (and_parts (not (b == 32)) (not (b == 35) && not (b == 124)) h.begins).1).0 in
    ap (λ t. if (t && list_all is_white line) || (b == 35) then Ok no_progress else (if t then continued 1 (b ∷ line) no_progress None else begun 1 (b ∷ line) no_progress)) white
    ∙ (ap (λ t. if t then Ok no_progress else begun 1 (b ∷ line) no_progress) hash
    ∙ ap (λ r. r >>= λ raw. Ok (opened raw)) (names_entry (b ∷ rest) h))

-- fields that differ from those before them
abbrev pub IsHeld : Field → Type 0
IsHeld (Set place value) = (place < 497) × FitsPlace place (Some value) × HasBytes (Some value)
IsHeld (Cancel place) = ⊥
IsHeld (Include name) = ⊥

abbrev pub Fine : List Field → List Field → Type 0
Fine seen [] = Unit {0}
Fine seen (field ∷ fields) = IsHeld field × (repeats seen (cap_of field) ≡ false) × Fine (seen ++ field ∷ []) fields

line_inline : (place : ℕ) (value : Value) → place < 497 → FitsPlace place (Some value) → HasBytes (Some value) → list_all is_inline (line_of (Set place value)) ≡ true
unfolding line_of body_of
line_inline place value inside h k =
    let body = 9 ∷ (name_at place ++ value_text value) in
    list_all-append is_inline body (44 ∷ []) ∙ both_true (list_all is_inline body) true (quiet_body place value inside h k).inside refl

pub fields_lines : (seen fields : List Field) → Fine seen fields → lines_of (flat_map printed fields) ≡ map line_of fields
unfolding printed
fields_lines seen [] h = refl
fields_lines seen (Set place value ∷ fields) h =
    let rest = flat_map printed fields in
    let line = line_of (Set place value) in
    ap (λ xs. lines_of (xs ++ rest)) (printed_line place value)
    ∙ (ap lines_of (append_assoc line (10 ∷ []) rest)
    ∙ (whole_line line rest (line_inline place value h.0.0 h.0.1 h.0.2) ∙ ap (λ ls. line ∷ ls) (fields_lines (seen ++ Set place value ∷ []) fields h.2)))
fields_lines seen (Cancel place ∷ fields) h = absurd h.0
fields_lines seen (Include name ∷ fields) h = absurd h.0

pub fields_read : (number : ℕ) (raw : RawEntry) (fields : List Field) → Fine raw.fields fields → read_lines number (map line_of fields) (opened raw) ≡ Ok (record raw { fields = raw.fields ++ fields } ∷ [])
fields_read number raw [] h = ap (λ xs. Ok (record raw { fields = xs } ∷ [])) (sym (append-nil raw.fields))
fields_read number raw (Set place value ∷ fields) h =
    ap (λ r. lines_behind number r (read_lines (number + 1) (map line_of fields))) (field_read number place value raw h.0.0 h.0.1 h.0.2 h.1)
    ∙ (fields_read (number + 1) (with_field raw (Set place value)) fields h.2 ∙ ap (λ xs. Ok (record raw { fields = xs } ∷ [])) (append_assoc raw.fields (Set place value ∷ []) fields))
fields_read number raw (Cancel place ∷ fields) h = absurd h.0
fields_read number raw (Include name ∷ fields) h = absurd h.0

-- the text is that of the fields
rank_same : (t : Bool) (place : ℕ) (value : Option Value) → (if t then place_text place value else []) ≡ flat_map printed (if t then place_fields place value else [])
unfolding printed
rank_same true place None = refl
rank_same true place (Some value) = sym (append-nil (field_text place value))
rank_same false place value = refl

rank_prints : (entry : Content) (kind : Kind) (rank : ℕ) → rank_text entry kind rank ≡ flat_map printed (rank_fields entry kind rank)
unfolding rank_text rank_fields
rank_prints entry kind rank = rank_same (is_kind (kind_of (place_of_rank rank)) kind) (place_of_rank rank) (value_at entry (place_of_rank rank))

ranks_print : (entry : Content) (kind : Kind) (n : ℕ) → ranks_text entry kind n ≡ flat_map printed (ranks_fields entry kind n)
ranks_print entry kind zero = refl
ranks_print entry kind (suc n) =
    ap (λ xs. xs ++ rank_text entry kind n) (ranks_print entry kind n)
    ∙ (ap (λ xs. flat_map printed (ranks_fields entry kind n) ++ xs) (rank_prints entry kind n) ∙ sym (flat_map-append printed (ranks_fields entry kind n) (rank_fields entry kind n)))

kind_prints : (entry : Content) (kind : Kind) → kind_text entry kind ≡ flat_map printed (kind_fields entry kind)
unfolding kind_text kind_fields
kind_prints entry kind = ranks_print entry kind 497

pub text_prints : (entry : Content) → text_of entry ≡ (entry.names ++ 44 ∷ []) ++ (10 ∷ flat_map printed (fields_of entry))
unfolding text_of fields_of
text_prints entry =
    let flags = kind_fields entry kinds.Flag in
    let numbers = kind_fields entry kinds.Number in
    let strings = kind_fields entry kinds.String in
    ap (λ xs. entry.names ++ (44 ∷ 10 ∷ (xs ++ (kind_text entry kinds.Number ++ kind_text entry kinds.String)))) (kind_prints entry kinds.Flag)
    ∙ (ap (λ xs. entry.names ++ (44 ∷ 10 ∷ (flat_map printed flags ++ (xs ++ kind_text entry kinds.String)))) (kind_prints entry kinds.Number)
    ∙ (ap (λ xs. entry.names ++ (44 ∷ 10 ∷ (flat_map printed flags ++ (flat_map printed numbers ++ xs)))) (kind_prints entry kinds.String)
    ∙ (ap (λ xs. entry.names ++ (44 ∷ 10 ∷ (flat_map printed flags ++ xs))) (sym (flat_map-append printed numbers strings))
    ∙ (ap (λ xs. entry.names ++ (44 ∷ 10 ∷ xs)) (sym (flat_map-append printed flags (numbers ++ strings)))
    ∙ sym (append_assoc entry.names (44 ∷ []) (10 ∷ flat_map printed (flags ++ (numbers ++ strings))))))))

-- no field is about the capability of another
told_both : (xs ys : List Field) (place : ℕ) → is_told xs place ≡ false → is_told ys place ≡ false → is_told (xs ++ ys) place ≡ false
unfolding is_told
told_both xs ys place e f = list_any-append (λ field. is_cap place (cap_of field)) xs ys ∙ (ap (λ t. t || list_any (λ field. is_cap place (cap_of field)) ys) e ∙ f)

told_place : (other : ℕ) (value : Option Value) (place : ℕ) → other ≢ place → is_told (place_fields other value) place ≡ false
unfolding is_told
told_place other None place h = refl
told_place other (Some value) place h = or_no (other == place) (ne_eqb other place h)

told_none : (place : ℕ) → is_told [] place ≡ false
unfolding is_told
told_none place = refl

OfKind : ℕ → Kind → Type 0
OfKind rank kind = is_kind (kind_of (place_of_rank rank)) kind ≡ true

told_rank : (entry : Content) (kind : Kind) (rank place : ℕ) → (OfKind rank kind → place_of_rank rank ≢ place) → is_told (rank_fields entry kind rank) place ≡ false
unfolding rank_fields OfKind
told_rank entry kind rank place h =
    choose (λ fields. is_told fields place ≡ false) (is_kind (kind_of (place_of_rank rank)) kind) (place_fields (place_of_rank rank) (value_at entry (place_of_rank rank))) []
    (λ e. told_place (place_of_rank rank) (value_at entry (place_of_rank rank)) place (h e)) (λ _. told_none place)

told_ranks : (entry : Content) (kind : Kind) (n place : ℕ) → ((m : ℕ) → m < n → OfKind m kind → place_of_rank m ≢ place) → is_told (ranks_fields entry kind n) place ≡ false
told_ranks entry kind zero place h = told_none place
told_ranks entry kind (suc n) place h =
    told_both (ranks_fields entry kind n) (rank_fields entry kind n) place (told_ranks entry kind n place (λ m less. h m (omega arith))) (told_rank entry kind n place (h n (omega arith)))

apart : (m n : ℕ) → m < n → n < 497 → place_of_rank m ≢ place_of_rank n
unfolding rank_key
apart m n less inside same =
    let rises = rank_key_rises m n less inside in
    let e : rank_key m ≡ rank_key n = ap (λ p. from_be_bytes w64 (row_at p)) same in
    omega (arith, e)

fine_both : (seen xs ys : List Field) → Fine seen xs → Fine (seen ++ xs) ys → Fine seen (xs ++ ys)
fine_both seen [] ys h k = subst (λ s. Fine s ys) (append-nil seen) k
fine_both seen (field ∷ xs) ys h k = (h.0, h.1, fine_both (seen ++ field ∷ []) xs ys h.2 (subst (λ s. Fine s ys) (sym (append_assoc seen (field ∷ []) xs)) k))

fine_place : (place : ℕ) (value : Option Value) (seen : List Field) → place < 497 → FitsPlace place value → HasBytes value → is_told seen place ≡ false → Fine seen (place_fields place value)
fine_place place None seen inside h k told = tt
fine_place place (Some value) seen inside h k told = ((inside, h, k), told, tt)

fine_rank : (entry : Content) (kind : Kind) (rank : ℕ) (seen : List Field) → IsEntry entry → rank < 497 → (OfKind rank kind → is_told seen (place_of_rank rank) ≡ false) → Fine seen (rank_fields entry kind rank)
unfolding rank_fields OfKind
fine_rank entry kind rank seen is inside told =
    choose (Fine seen) (is_kind (kind_of (place_of_rank rank)) kind) (place_fields (place_of_rank rank) (value_at entry (place_of_rank rank))) []
    (λ e. fine_place (place_of_rank rank) (value_at entry (place_of_rank rank)) seen (place_in_table rank inside) (is.fits (place_of_rank rank)) (is.bytes (place_of_rank rank)) (told e)) (λ _. tt)

fine_ranks : (entry : Content) (kind : Kind) (n : ℕ) (seen : List Field) → IsEntry entry → n ≤ 497 → ((m : ℕ) → OfKind m kind → is_told seen (place_of_rank m) ≡ false) → Fine seen (ranks_fields entry kind n)
fine_ranks entry kind zero seen is h told = tt
fine_ranks entry kind (suc n) seen is h told =
    fine_both seen (ranks_fields entry kind n) (rank_fields entry kind n) (fine_ranks entry kind n seen is (omega arith) told)
    (fine_rank entry kind n (seen ++ ranks_fields entry kind n) is (omega arith)
    (λ e. told_both seen (ranks_fields entry kind n) (place_of_rank n) (told n e) (told_ranks entry kind n (place_of_rank n) (λ m less _. apart m n less (omega arith)))))

other_kind : (entry : Content) (kind other : Kind) (rank : ℕ) → (kind ≡ other → ⊥) → OfKind rank other → is_told (kind_fields entry kind) (place_of_rank rank) ≡ false
unfolding kind_fields OfKind
other_kind entry kind other rank differ e =
    told_ranks entry kind 497 (place_of_rank rank)
    (λ m _ (f : OfKind m kind) (same : place_of_rank m ≡ place_of_rank rank).
    differ (sym (same_kind (kind_of (place_of_rank m)) kind f) ∙ (ap kind_of same ∙ same_kind (kind_of (place_of_rank rank)) other e)))

pub flag_no_number : kinds.Flag ≡ kinds.Number → ⊥
flag_no_number e = cc

pub flag_no_string : kinds.Flag ≡ kinds.String → ⊥
flag_no_string e = cc

pub number_no_string : kinds.Number ≡ kinds.String → ⊥
number_no_string e = cc

pub fine_fields : (entry : Content) → IsEntry entry → Fine [] (fields_of entry)
unfolding fields_of kind_fields
fine_fields entry is =
    let flags = kind_fields entry kinds.Flag in
    let numbers = kind_fields entry kinds.Number in
    fine_both [] flags (numbers ++ kind_fields entry kinds.String) (fine_ranks entry kinds.Flag 497 [] is (omega arith) (λ m _. told_none (place_of_rank m)))
    (fine_both flags numbers (kind_fields entry kinds.String) (fine_ranks entry kinds.Number 497 flags is (omega arith) (λ m e. other_kind entry kinds.Flag kinds.Number m flag_no_number e))
    (fine_ranks entry kinds.String 497 (flags ++ numbers) is (omega arith)
    (λ m e. told_both flags numbers (place_of_rank m) (other_kind entry kinds.Flag kinds.String m flag_no_string e) (other_kind entry kinds.Number kinds.String m number_no_string e))))
