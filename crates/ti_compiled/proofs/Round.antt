-- The file of an entry is in the layout, with that entry and nothing after it.
use Rattle.std.proofs.Common.{◌≡◌, ◌≢◌, inl, ℕ, ◌+◌, ◌-◌, ◌*◌, ◌%◌, ◌<◌, ◌≤◌, zero, suc, Bool, true, false, not, List, [], ◌∷◌, ◌++◌, length, get_or, take, drop, replicate, refl, ap, sym, ◌∙◌, subst, arith, Option, Some, None, Ok, nat_lt, nat_le, nat_eq}
use Rattle.std.specs.Prelude.{map, if◌then◌else◌, is_some, IsTrue}
use Rattle.std.specs.Int.{from_bool}
use Rattle.std.specs.List.{list_all, AllByRecursion}
use Rattle.std.proofs.lemmas.Bool.Decides.{nat_tests}
use Rattle.std.proofs.lemmas.List.{append_assoc, length-map, length-append, length-replicate, length-take, take-append-drop, drop-drop, get_or-take, get_or-drop}
use Rattle.ti_caps.specs.declared.types.Kind.TheVariants as kinds
use Rattle.ti_caps.specs.declared.value.Value.{Value}
use Rattle.ti_caps.specs.declared.value.Value.TheVariants.{Flag, Number, String}
use Rattle.ti_caps.specs.Table.{kind_of}
use Rattle.ti_caps.specs.Fits.{names_fit, begins_names}
use Rattle.ti_caps.specs.Entry.{Content, IsEntry, FitsPlace, value_at, has_flag, number_in, string_in}
use Rattle.ti_compiled.specs.declared.types.Form.{Form}
use Rattle.ti_compiled.specs.declared.types.Form.TheVariants.{Legacy, Wide}
use Rattle.ti_compiled.specs.declared.types.PackFault.TheVariants.{TooLarge}
use Rattle.ti_compiled.specs.Layout.{half, width}
use Rattle.ti_compiled.specs.Contents.{filled, rows_of}
use Rattle.ti_compiled.specs.Packed.{layout, HasNoNul, IsFlag, IsNumber, IsString, Each, Sections, HasSections}
use Rattle.ti_compiled.specs.Written.{flags_of, numbers_of, strings_of, kept, trimmed, itself, number_cell, offsets_from, table_of, form_for, flag_cells, number_cells, offset_cells, padding_for, written_in, written, limit, packing_of, WrittenIsPacked, WrittenIsRead}
use Rattle.ti_compiled.proofs.Again.{packed_is_read}
use Rattle.ti_compiled.proofs.Files.{layout_size, length-offsets, limit_small, narrow_number, number_bounded}
use Rattle.ti_compiled.proofs.Rows.{flags_length, numbers_length, strings_length, trimmed_small}
use Rattle.ti_compiled.proofs.Takes.{and_ok, guard_ok}

-- properties of all items
all_by_index : {A : Type 0} (P : A → Type 0) (xs : List A) (d : A) → ((i : ℕ) → i < length xs → P (get_or xs i d)) → AllByRecursion P xs
all_by_index P [] d h = tt
all_by_index P (x ∷ xs) d h = (h 0 (omega arith), all_by_index P xs d (λ i below. h (suc i) (omega arith)))

kept_all : {A : Type 0} (P : A → Type 0) (there : A → Bool) (x : A) (ys : List A) (t : Bool) → there x ≡ t → P x → AllByRecursion P ys → AllByRecursion P (kept there x ys)
kept_all P there x [] true e h more = rw e (h, tt)
kept_all P there x [] false e h more = rw e tt
kept_all P there x (y ∷ ys) t e h more = (h, more)

trimmed_all : {A : Type 0} (P : A → Type 0) (there : A → Bool) (xs : List A) → AllByRecursion P xs → AllByRecursion P (trimmed there xs)
trimmed_all P there [] h = tt
trimmed_all P there (x ∷ xs) h = kept_all P there x (trimmed there xs) (there x) refl h.0 (trimmed_all P there xs h.1)

-- the values of the rows
abbrev flag_back : Bool → Option Value
flag_back flag = if flag then Some Flag else None

abbrev number_back : Option ℕ → Option Value
number_back None = None
number_back (Some number) = Some (Number number)

abbrev string_back : Option (List ℕ) → Option Value
string_back None = None
string_back (Some bytes) = Some (String bytes)

-- absent items dropped at the end are read as absent
abbrev nothing : Option Value
nothing = None

filled_step : {A : Type 0} (back : A → Option Value) (there : A → Bool) (x : A) (xs ys : List A) (t : Bool) → there x ≡ t → (there x ≡ false → back x ≡ None)
    → ((m : ℕ) → length xs ≤ m → take (length xs) (map back ys ++ replicate m nothing) ≡ map back xs)
    → (m : ℕ) → suc (length xs) ≤ m → take (suc (length xs)) (map back (kept there x ys) ++ replicate m nothing) ≡ back x ∷ map back xs
filled_step back there x xs [] true e absent more m h = rw e (ap (λ vs. back x ∷ vs) (more m (omega arith)))
filled_step back there x xs [] false e absent more zero h = absurd (omega arith)
filled_step back there x xs [] false e absent more (suc m) h =
    let gone = absent e in
    rw (e, gone) (ap (λ vs. None ∷ vs) (more m (omega arith)))
filled_step back there x xs (y ∷ ys) t e absent more m h = ap (λ vs. back x ∷ vs) (more m (omega arith))

filled_more : {A : Type 0} (back : A → Option Value) (there : A → Bool) (xs : List A) → ((x : A) → there x ≡ false → back x ≡ None)
    → (m : ℕ) → length xs ≤ m → take (length xs) (map back (trimmed there xs) ++ replicate m nothing) ≡ map back xs
filled_more back there [] absent m h = refl
filled_more back there (x ∷ xs) absent m h = filled_step back there x xs (trimmed there xs) (there x) refl (absent x) (filled_more back there xs absent) m h

filled_back : {A : Type 0} (back : A → Option Value) (there : A → Bool) (count : ℕ) (xs : List A) → ((x : A) → there x ≡ false → back x ≡ None) → length xs ≡ count
    → filled count (map back (trimmed there xs)) ≡ map back xs
filled_back back there count xs absent e =
    ap (λ n. take n (map back (trimmed there xs) ++ replicate count nothing)) (sym e) ∙ filled_more back there xs absent count (omega arith)

flag_absent : (flag : Bool) → itself flag ≡ false → flag_back flag ≡ None
flag_absent true e = let bad : ⊥ = cc in absurd bad
flag_absent false e = refl

number_absent : (number : Option ℕ) → is_some number ≡ false → number_back number ≡ None
number_absent None e = refl
number_absent (Some n) e = let bad : ⊥ = cc in absurd bad

string_absent : (string : Option (List ℕ)) → is_some string ≡ false → string_back string ≡ None
string_absent None e = refl
string_absent (Some s) e = let bad : ⊥ = cc in absurd bad

-- the values of an entry are determined by its rows
flag_same : (place : ℕ) (v : Option Value) → kind_of place ≡ kinds.Flag → FitsPlace place v → flag_back (has_flag v) ≡ v
flag_same place None k h = refl
flag_same place (Some Flag) k h = refl
flag_same place (Some (Number n)) k h = let other = h.0 in let bad : ⊥ = cc in absurd bad
flag_same place (Some (String s)) k h = let other = h.0 in let bad : ⊥ = cc in absurd bad

number_same : (place : ℕ) (v : Option Value) → kind_of place ≡ kinds.Number → FitsPlace place v → number_back (number_in v) ≡ v
number_same place None k h = refl
number_same place (Some Flag) k h = let bad : ⊥ = cc in absurd bad
number_same place (Some (Number n)) k h = refl
number_same place (Some (String s)) k h = let other = h.0 in let bad : ⊥ = cc in absurd bad

string_same : (place : ℕ) (v : Option Value) → kind_of place ≡ kinds.String → FitsPlace place v → string_back (string_in v) ≡ v
string_same place None k h = refl
string_same place (Some Flag) k h = let bad : ⊥ = cc in absurd bad
string_same place (Some (Number n)) k h = let other = h.0 in let bad : ⊥ = cc in absurd bad
string_same place (Some (String s)) k h = refl

below_yes : (a b : ℕ) → a < b → nat_lt a b ≡ true
below_yes a b h = grind (arith, nat_tests)

below_no : (a b : ℕ) → b ≤ a → nat_lt a b ≡ false
below_no a b h = grind (arith, nat_tests)

flag_kind : (place : ℕ) → place < 44 → kind_of place ≡ kinds.Flag
unfolding kind_of
flag_kind place h = rw (below_yes place 44 h) refl

number_kind : (i : ℕ) → i < 39 → kind_of (44 + i) ≡ kinds.Number
unfolding kind_of
number_kind i h = rw (below_no (44 + i) 44 (omega arith), below_yes (44 + i) 83 (omega arith)) refl

string_kind : (i : ℕ) → kind_of (83 + i) ≡ kinds.String
unfolding kind_of
string_kind i = rw (below_no (83 + i) 44 (omega arith), below_no (83 + i) 83 (omega arith)) refl

mapped_back : {A : Type 0} (back : A → Option Value) (has : Option Value → A) (vs : List (Option Value)) → AllByRecursion (λ v. back (has v) ≡ v) vs → map back (map has vs) ≡ vs
mapped_back back has [] h = refl
mapped_back back has (v ∷ vs) h = let first = h.0 in let more = mapped_back back has vs h.1 in cc

flags_same : (entry : Content) → IsEntry entry → map flag_back (flags_of entry) ≡ take 44 entry.values
unfolding flags_of value_at
flags_same entry h = mapped_back flag_back has_flag (take 44 entry.values)
    (all_by_index (λ v. flag_back (has_flag v) ≡ v) (take 44 entry.values) None (λ i below.
    let within : i < 44 = omega (arith, length-take 44 entry.values) in
    flag_same i (get_or (take 44 entry.values) i None) (flag_kind i within) (subst (FitsPlace i) (sym (get_or-take 44 entry.values i None within)) (h.fits i))))

numbers_same : (entry : Content) → IsEntry entry → map number_back (numbers_of entry) ≡ take 39 (drop 44 entry.values)
unfolding numbers_of value_at
numbers_same entry h = mapped_back number_back number_in (take 39 (drop 44 entry.values))
    (all_by_index (λ v. number_back (number_in v) ≡ v) (take 39 (drop 44 entry.values)) None (λ i below.
    let within : i < 39 = omega (arith, length-take 39 (drop 44 entry.values)) in
    let same : get_or (take 39 (drop 44 entry.values)) i None ≡ get_or entry.values (44 + i) None = get_or-take 39 (drop 44 entry.values) i None within ∙ get_or-drop 44 entry.values i None in
    number_same (44 + i) (get_or (take 39 (drop 44 entry.values)) i None) (number_kind i within) (subst (FitsPlace (44 + i)) (sym same) (h.fits (44 + i)))))

strings_same : (entry : Content) → IsEntry entry → map string_back (strings_of entry) ≡ drop 83 entry.values
unfolding strings_of value_at
strings_same entry h = mapped_back string_back string_in (drop 83 entry.values)
    (all_by_index (λ v. string_back (string_in v) ≡ v) (drop 83 entry.values) None (λ i below.
    string_same (83 + i) (get_or (drop 83 entry.values) i None) (string_kind i) (subst (FitsPlace (83 + i)) (sym (get_or-drop 83 entry.values i None)) (h.fits (83 + i)))))

rows_joined : (values : List (Option Value)) → take 44 values ++ (take 39 (drop 44 values) ++ drop 83 values) ≡ values
rows_joined values =
    ap (λ vs. take 44 values ++ (take 39 (drop 44 values) ++ vs)) (sym (drop-drop 39 44 values))
    ∙ ap (λ vs. take 44 values ++ vs) (take-append-drop 39 (drop 44 values)) ∙ take-append-drop 44 values

three_rows : {a b c a' b' c' : List (Option Value)} → a ≡ a' → b ≡ b' → c ≡ c' → a ++ (b ++ c) ≡ a' ++ (b' ++ c')
three_rows p q r = cc

values_back : (entry : Content) → IsEntry entry
    → entry.values ≡ rows_of (map flag_back (trimmed itself (flags_of entry))) (map number_back (trimmed is_some (numbers_of entry))) (map string_back (trimmed is_some (strings_of entry)))
values_back entry h =
    let flags : filled 44 (map flag_back (trimmed itself (flags_of entry))) ≡ take 44 entry.values =
    filled_back flag_back itself 44 (flags_of entry) flag_absent (flags_length entry h.size) ∙ flags_same entry h in
    let numbers : filled 39 (map number_back (trimmed is_some (numbers_of entry))) ≡ take 39 (drop 44 entry.values) =
    filled_back number_back is_some 39 (numbers_of entry) number_absent (numbers_length entry h.size) ∙ numbers_same entry h in
    let strings : filled 414 (map string_back (trimmed is_some (strings_of entry))) ≡ drop 83 entry.values =
    filled_back string_back is_some 414 (strings_of entry) string_absent (strings_length entry h.size) ∙ strings_same entry h in
    sym (rows_joined entry.values) ∙ sym (three_rows flags numbers strings)

-- each cell encodes its value
flags_each : (flags : List Bool) → Each IsFlag (map from_bool flags) (map flag_back flags)
flags_each [] = tt
flags_each (true ∷ flags) = (refl, flags_each flags)
flags_each (false ∷ flags) = (inl refl, flags_each flags)

abbrev FitsForm : Form → Option ℕ → Type 0
FitsForm form None = Unit {0}
FitsForm form (Some number) = number < half form

absent_cell : (form : Form) → 2 * half form - 1 + 1 ≡ 2 * half form
absent_cell Legacy = refl
absent_cell Wide = refl

numbers_each : (form : Form) (numbers : List (Option ℕ)) → AllByRecursion (FitsForm form) numbers → Each (IsNumber form) (map (number_cell form) numbers) (map number_back numbers)
numbers_each form [] h = tt
numbers_each form (None ∷ numbers) h = (inl (absent_cell form), numbers_each form numbers h.1)
numbers_each form (Some n ∷ numbers) h = ((refl, h.0), numbers_each form numbers h.1)

number_fits : (form : Form) (entry : Content) → IsEntry entry → form ≡ form_for entry → (i : ℕ) → i < 39 → (number : Option ℕ) → number ≡ get_or (numbers_of entry) i None → FitsForm form number
number_fits form entry h f i below None e = tt
number_fits Wide entry h f i below (Some n) e = let bound : n < 2147483648 = number_bounded entry h i n below e in bound
number_fits Legacy entry h f i below (Some n) e = let most = narrow_number entry h f i n below e in omega arith

numbers_fit : (entry : Content) → IsEntry entry → AllByRecursion (FitsForm (form_for entry)) (numbers_of entry)
numbers_fit entry h = all_by_index (FitsForm (form_for entry)) (numbers_of entry) None (λ i below.
    number_fits (form_for entry) entry h refl i (omega (arith, numbers_length entry h.size)) (get_or (numbers_of entry) i None) refl)

abbrev IsClean : Option (List ℕ) → Type 0
IsClean None = Unit {0}
IsClean (Some bytes) = HasNoNul bytes

strings_each : (table front : List ℕ) (strings : List (Option (List ℕ))) (place : ℕ) → table ≡ front ++ table_of strings → length front ≡ place → length table < 32768
    → AllByRecursion IsClean strings → Each (IsString table) (offsets_from place strings) (map string_back strings)
strings_each table front [] place e at small h = tt
strings_each table front (None ∷ strings) place e at small h = (inl refl, strings_each table front strings place e at small h.1)
strings_each table front (Some bytes ∷ strings) place e at small h =
    let size : length table ≡ place + (length bytes + 1 + length (table_of strings)) =
    ap length e ∙ length-append front ((bytes ++ 0 ∷ []) ++ table_of strings) ∙ ap (λ n. n + length ((bytes ++ 0 ∷ []) ++ table_of strings)) at
    ∙ ap (λ n. place + n) (length-append (bytes ++ 0 ∷ []) (table_of strings) ∙ ap (λ n. n + length (table_of strings)) (length-append bytes (0 ∷ []))) in
    let low : place < 32768 = omega arith in
    let next : length (front ++ (bytes ++ 0 ∷ [])) ≡ place + length bytes + 1 = length-append front (bytes ++ 0 ∷ []) ∙ ap (λ n. length front + n) (length-append bytes (0 ∷ [])) ∙ ap (λ n. n + (length bytes + 1)) at ∙ omega arith in (
      (low, (front, (bytes ++ 0 ∷ []) ++ table_of strings, e, at, (h.0, (table_of strings, append_assoc bytes (0 ∷ []) (table_of strings))))),
      strings_each table (front ++ (bytes ++ 0 ∷ [])) strings (place + length bytes + 1) (e ∙ sym (append_assoc front (bytes ++ 0 ∷ []) (table_of strings))) next small h.1,
    )

-- names and strings have no NUL
not_nul : (b : ℕ) → not (nat_eq b 0) ≡ true → b ≢ 0
not_nul b h = grind (arith, nat_tests)

no_nuls : (bytes : List ℕ) → list_all (λ b. not (nat_eq b 0)) bytes ≡ true → HasNoNul bytes
no_nuls [] h = tt
no_nuls (b ∷ bytes) h = let parts = and_ok (not (nat_eq b 0)) (list_all (λ x. not (nat_eq x 0)) bytes) h in (not_nul b parts.0, no_nuls bytes parts.1)

not_low : (b : ℕ) → nat_le 32 b ≡ true → b ≢ 0
not_low b h = grind (arith, nat_tests)

no_lows : (bytes : List ℕ) → list_all (λ b. nat_le 32 b) bytes ≡ true → HasNoNul bytes
no_lows [] h = tt
no_lows (b ∷ bytes) h = let parts = and_ok (nat_le 32 b) (list_all (λ x. nat_le 32 x) bytes) h in (not_low b parts.0, no_lows bytes parts.1)

names_clean : (names : List ℕ) → IsTrue (names_fit names) → HasNoNul names
names_clean names h =
    let sized = and_ok (nat_le (length names) 4095) _ h in
    let begun = and_ok (begins_names names) _ sized.1 in
    no_lows names (and_ok (list_all (λ b. nat_le 32 b) names) _ begun.1).0

string_clean : (place : ℕ) (v : Option Value) → FitsPlace place v → IsClean (string_in v)
string_clean place None h = tt
string_clean place (Some Flag) h = tt
string_clean place (Some (Number n)) h = tt
string_clean place (Some (String s)) h = no_nuls s (and_ok (nat_le (length s) 4095) (list_all (λ b. not (nat_eq b 0)) s) h.1).1

mapped_all : (P : Option (List ℕ) → Type 0) (vs : List (Option Value)) → AllByRecursion (λ v. P (string_in v)) vs → AllByRecursion P (map string_in vs)
mapped_all P [] h = tt
mapped_all P (v ∷ vs) h = (h.0, mapped_all P vs h.1)

strings_clean : (entry : Content) → IsEntry entry → AllByRecursion IsClean (strings_of entry)
unfolding strings_of value_at
strings_clean entry h = mapped_all IsClean (drop 83 entry.values) (all_by_index (λ v. IsClean (string_in v)) (drop 83 entry.values) None (λ i below.
    string_clean (83 + i) (get_or (drop 83 entry.values) i None) (subst (FitsPlace (83 + i)) (sym (get_or-drop 83 entry.values i None)) (h.fits (83 + i)))))

-- the sections of an entry
held_for : Content → Sections
held_for entry = record {
  form = form_for entry;
  names = entry.names ++ 0 ∷ [];
  flags = flag_cells entry;
  padding = padding_for (entry.names ++ 0 ∷ []) (flag_cells entry);
  numbers = number_cells (form_for entry) entry;
  offsets = offset_cells entry;
  table = table_of (trimmed is_some (strings_of entry));
  flag_values = map flag_back (trimmed itself (flags_of entry));
  number_values = map number_back (trimmed is_some (numbers_of entry));
  string_values = map string_back (trimmed is_some (strings_of entry));
}

written_size : (entry : Content) → length (written entry) ≡ 12 + length (entry.names ++ 0 ∷ []) + length (flag_cells entry) + length (padding_for (entry.names ++ 0 ∷ []) (flag_cells entry))
    + width (form_for entry) * length (number_cells (form_for entry) entry) + 2 * length (offset_cells entry) + length (table_of (trimmed is_some (strings_of entry)))
unfolding written written_in
written_size entry = layout_size (form_for entry) (entry.names ++ 0 ∷ []) (flag_cells entry) (padding_for (entry.names ++ 0 ∷ []) (flag_cells entry)) (number_cells (form_for entry) entry) (offset_cells entry) (table_of (trimmed is_some (strings_of entry))) (width (form_for entry)) refl

parts_small : (a b c d e f whole : ℕ) → whole ≡ 12 + a + b + c + d + e + f → whole ≤ 32768 → (a < 32768) × (f < 32768)
parts_small a b c d e f whole is h = (omega arith, omega arith)

whole_is : (entry : Content) → written entry ≡ layout (form_for entry) (entry.names ++ 0 ∷ []) (flag_cells entry) (padding_for (entry.names ++ 0 ∷ []) (flag_cells entry)) (number_cells (form_for entry) entry) (offset_cells entry) (table_of (trimmed is_some (strings_of entry))) []
unfolding written written_in
whole_is entry = refl

room : (a b : ℕ) → nat_lt a b ≡ false → b ≤ a
room a b h = grind (arith, nat_tests)

packing_ok : (entry : Content) (file : List ℕ) → packing_of entry ≡ Ok file → (written entry ≡ file) × (length (written entry) ≤ 32768)
unfolding packing_of
packing_ok entry file h =
    let fits = guard_ok (nat_lt (limit (form_for entry)) (length (written entry))) TooLarge (written entry) file h in
    let most = limit_small (form_for entry) in
    let within = room (limit (form_for entry)) (length (written entry)) fits.0 in
    (fits.1, omega arith)

held_is : (entry : Content) → IsEntry entry → length (written entry) ≤ 32768 → HasSections (held_for entry) (written entry) entry []
unfolding held_for
held_is entry h most =
    let small = parts_small (length (entry.names ++ 0 ∷ [])) (length (flag_cells entry)) (length (padding_for (entry.names ++ 0 ∷ []) (flag_cells entry)))
    (width (form_for entry) * length (number_cells (form_for entry) entry)) (2 * length (offset_cells entry)) (length (table_of (trimmed is_some (strings_of entry)))) (length (written entry)) (written_size entry) most in
    record {
      whole = whole_is entry;
      names_size = small.0;
      flags_size = omega (arith, length-map (trimmed itself (flags_of entry)) from_bool, trimmed_small itself (flags_of entry), flags_length entry h.size);
      padding_size = length-replicate ((length (entry.names ++ 0 ∷ []) + length (flag_cells entry)) % 2) 0;
      numbers_size = omega (arith, length-map (trimmed is_some (numbers_of entry)) (number_cell (form_for entry)), trimmed_small is_some (numbers_of entry), numbers_length entry h.size);
      offsets_size = omega (arith, length-offsets 0 (trimmed is_some (strings_of entry)), trimmed_small is_some (strings_of entry), strings_length entry h.size);
      table_size = small.1;
      names = ((entry.names, refl), (names_clean entry.names h.names_fit, ([], refl)));
      flags = flags_each (trimmed itself (flags_of entry));
      numbers = numbers_each (form_for entry) (trimmed is_some (numbers_of entry)) (trimmed_all (FitsForm (form_for entry)) is_some (numbers_of entry) (numbers_fit entry h));
      strings = strings_each (table_of (trimmed is_some (strings_of entry))) [] (trimmed is_some (strings_of entry)) 0 refl refl small.1 (trimmed_all IsClean is_some (strings_of entry) (strings_clean entry h));
      values = values_back entry h;
    }

pub written_is_packed : WrittenIsPacked
written_is_packed entry file h e =
    let packing = packing_ok entry file e in
    (held_for entry, subst (λ bytes. HasSections (held_for entry) bytes entry []) packing.0 (held_is entry h packing.1))

pub written_is_read : WrittenIsRead
written_is_read entry file h e = packed_is_read file entry [] (written_is_packed entry file h e)
