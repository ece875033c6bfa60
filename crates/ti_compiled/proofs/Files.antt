-- The sizes of the parts written, and the whole file.
use Rattle.std.proofs.Common.{◌≡◌, ℕ, ◌+◌, ◌*◌, ◌^◌, ◌%◌, ◌<◌, ◌≤◌, suc, Bool, true, false, List, [], ◌∷◌, ◌++◌, length, get_or, replicate, refl, ap, sym, ◌∙◌, subst, arith, Option, Some, None, Ok, Err, nat_lt, nat_le, nat_eq}
use Rattle.std.specs.Prelude.{map, flat_map, if◌then◌else◌, is_some, IsTrue, Result, IsOk}
use Rattle.std.specs.Int.{from_bool}
use Rattle.std.specs.List.{list_any}
use Rattle.std.proofs.lemmas.Bool.Decides.{nat_tests}
use Rattle.std.proofs.lemmas.List.{append_assoc, append-nil, length-map, length-append, length-replicate}
use Rattle.std.proofs.lemmas.List.Concat.{flat_map_single}
use Rattle.std.proofs.lemmas.List.Folds.{flat_map-map}
use Rattle.ti_caps.specs.Fits.{names_fit}
use Rattle.ti_caps.specs.Entry.{Content, IsEntry, FitsPlace, value_at}
use Rattle.ti_compiled.specs.declared.types.Form.{Form}
use Rattle.ti_compiled.specs.declared.types.Form.TheVariants.{Legacy, Wide}
use Rattle.ti_compiled.specs.declared.types.PackFault.{PackFault}
use Rattle.ti_compiled.specs.declared.types.PackFault.TheVariants.{TooLarge}
use Rattle.ti_compiled.specs.declared.pack.Plan.{Plan}
use Rattle.ti_compiled.specs.Layout.{half, width}
use Rattle.ti_compiled.specs.Packed.{word, magic, number_bytes, layout}
use Rattle.ti_compiled.specs.Written.{flags_of, numbers_of, strings_of, trimmed, itself, number_cell, offsets_from, table_of, is_wide, form_for, flag_cells, number_cells, offset_cells, padding_for, written_in, written, limit, packing_of, IsPlan}
use Rattle.ti_compiled.proofs.Again.{length-words, length-numbers}
use Rattle.ti_compiled.proofs.Fills.{number_is}
use Rattle.ti_compiled.proofs.Rows.{number_row_at, numbers_length, any_yes, any_no}
use Rattle.ti_compiled.proofs.Takes.{and_ok}

-- a number that isn't wide is small, and each is below 2 ^ 31
pub any_none : (xs : List (Option ℕ)) (i : ℕ) (t : Bool) → i < length xs → is_wide (get_or xs i None) ≡ t → list_any is_wide xs ≡ false → t ≡ false
any_none xs i true h e none = sym (any_yes is_wide xs i None h e) ∙ none
any_none xs i false h e none = refl

legacy_narrow : (t : Bool) → (if t then Wide else Legacy) ≡ Legacy → t ≡ false
legacy_narrow true e = let bad : ⊥ = cc in absurd bad
legacy_narrow false e = refl

pub narrow : (entry : Content) → form_for entry ≡ Legacy → list_any is_wide (numbers_of entry) ≡ false
unfolding form_for
narrow entry e = legacy_narrow (list_any is_wide (numbers_of entry)) e

pub form_narrow : (entry : Content) → ((k : ℕ) → k < length (numbers_of entry) → is_wide (get_or (numbers_of entry) k None) ≡ false) → Legacy ≡ form_for entry
unfolding form_for
form_narrow entry h = rw (any_no is_wide (numbers_of entry) None h) refl

pub form_wide : (entry : Content) (i : ℕ) → i < length (numbers_of entry) → is_wide (get_or (numbers_of entry) i None) ≡ true → Wide ≡ form_for entry
unfolding form_for
form_wide entry i h e = rw (any_yes is_wide (numbers_of entry) i None h e) refl

pub number_bounded : (entry : Content) → IsEntry entry → (i n : ℕ) → i < 39 → Some n ≡ get_or (numbers_of entry) i None → n < 2 ^ 31
number_bounded entry h i n below e =
    let there = e ∙ sym (number_row_at entry (44 + i) i refl below) in
    let is = number_is (value_at entry (44 + i)) n there in
    (subst (FitsPlace (44 + i)) is (h.fits (44 + i))).1

pub not_above : (a b : ℕ) → nat_lt a b ≡ false → b ≤ a
not_above a b h = grind (arith, nat_tests)

-- a number of a file with numbers of 16 bits
pub narrow_number : (entry : Content) → IsEntry entry → Legacy ≡ form_for entry → (i n : ℕ) → i < 39 → Some n ≡ get_or (numbers_of entry) i None → n ≤ 32767
narrow_number entry h f i n below e =
    let within : i < length (numbers_of entry) = omega (arith, numbers_length entry h.size) in
    let small : is_wide (get_or (numbers_of entry) i None) ≡ false = any_none (numbers_of entry) i (is_wide (get_or (numbers_of entry) i None)) within refl (narrow entry (sym f)) in
    let bound : nat_lt 32767 n ≡ false = ap is_wide e ∙ small in
    not_above 32767 n bound

pub cell_small : (form : Form) (entry : Content) → IsEntry entry → form ≡ form_for entry → (i : ℕ) → i < 39 → (number : Option ℕ) → number ≡ get_or (numbers_of entry) i None
    → number_cell form number < 2 * half form
cell_small Legacy entry h f i below None e = omega arith
cell_small Wide entry h f i below None e = omega arith
cell_small Legacy entry h f i below (Some n) e = let most = narrow_number entry h f i n below e in omega arith
cell_small Wide entry h f i below (Some n) e =
    let bound : n < 2147483648 = number_bounded entry h i n below e in
    omega arith

pub offset_fits : (size place offset : ℕ) (t : Bool) → nat_eq size 0 ≡ t → offset ≡ (if t then 65535 else place) → place < 65536 → offset < 65536
offset_fits size place offset true e o h = omega arith
offset_fits size place offset false e o h = omega arith

-- sizes
length-word : (n : ℕ) → length (word n) ≡ 2
unfolding word
length-word n = refl

pub length-offsets : (place : ℕ) (strings : List (Option (List ℕ))) → length (offsets_from place strings) ≡ length strings
length-offsets place [] = refl
length-offsets place (None ∷ strings) = ap suc (length-offsets place strings)
length-offsets place (Some bytes ∷ strings) = ap suc (length-offsets (place + length bytes + 1) strings)

pub layout_size : (form : Form) (names flags padding numbers offsets table : List ℕ) (w : ℕ) → w ≡ width form
    → length (layout form names flags padding numbers offsets table []) ≡ 12 + length names + length flags + length padding + w * length numbers + 2 * length offsets + length table
unfolding layout
layout_size form names flags padding numbers offsets table w e = simp (length-append, length-word, length-numbers, length-words, append-nil, e) (omega arith)

pub file_size_is : (entry : Content) (plan : Plan) (names : List ℕ) (w : ℕ) → IsPlan entry plan → names ≡ entry.names → w ≡ width plan.form
    → 12 + (length names + 1) + plan.flags + (length names + 1 + plan.flags) % 2 + w * plan.numbers + 2 * plan.strings + plan.table ≡ length (written entry)
unfolding written written_in
file_size_is entry plan names w h n e =
    let form = h.form in
    let named : length (entry.names ++ 0 ∷ []) ≡ length names + 1 = length-append entry.names (0 ∷ []) ∙ ap (λ xs. length xs + 1) (sym n) in
    let flags : length (flag_cells entry) ≡ plan.flags = length-map (trimmed itself (flags_of entry)) from_bool ∙ sym h.flags in
    let padding : length (padding_for (entry.names ++ 0 ∷ []) (flag_cells entry)) ≡ (length names + 1 + plan.flags) % 2 =
    length-replicate ((length (entry.names ++ 0 ∷ []) + length (flag_cells entry)) % 2) 0 ∙ ap (λ k. (k + length (flag_cells entry)) % 2) named ∙ ap (λ k. (length names + 1 + k) % 2) flags in
    let numbers : length (number_cells (form_for entry) entry) ≡ plan.numbers = length-map (trimmed is_some (numbers_of entry)) (number_cell (form_for entry)) ∙ sym h.numbers in
    let offsets : length (offset_cells entry) ≡ plan.strings = length-offsets 0 (trimmed is_some (strings_of entry)) ∙ sym h.strings in
    let table : length (table_of (trimmed is_some (strings_of entry))) ≡ plan.table = sym h.table in
    sym (layout_size (form_for entry) (entry.names ++ 0 ∷ []) (flag_cells entry) (padding_for (entry.names ++ 0 ∷ []) (flag_cells entry)) (number_cells (form_for entry) entry) (offset_cells entry) (table_of (trimmed is_some (strings_of entry))) w (e ∙ ap width form)
    ∙ rw (padding, named, flags, numbers, offsets, table) refl)

at_most : (a b : ℕ) → nat_le a b ≡ true → a ≤ b
at_most a b h = grind (arith, nat_tests)

pub names_small : (names : List ℕ) → IsTrue (names_fit names) → length names ≤ 4095
names_small names h = at_most (length names) 4095 (and_ok (nat_le (length names) 4095) _ h).0

-- the file, part by part
pieces_join : (a b c d e f names nul flags padding numbers offsets table o0 o1 o2 o3 o4 o5 o6 o7 : List ℕ)
    → o0 ≡ [] ++ a ++ b ++ c ++ d ++ e ++ f → o1 ≡ o0 ++ names → o2 ≡ o1 ++ nul → o3 ≡ o2 ++ flags → o4 ≡ o3 ++ padding → o5 ≡ o4 ++ numbers → o6 ≡ o5 ++ offsets → o7 ≡ o6 ++ table
    → o7 ≡ a ++ (b ++ (c ++ (d ++ (e ++ (f ++ ((names ++ nul) ++ (flags ++ (padding ++ (numbers ++ (offsets ++ (table ++ [])))))))))))
pieces_join a b c d e f names nul flags padding numbers offsets table o0 o1 o2 o3 o4 o5 o6 o7 e0 e1 e2 e3 e4 e5 e6 e7 =
    e7 ∙ ap (λ o. o ++ table) (e6 ∙ ap (λ o. o ++ offsets) (e5 ∙ ap (λ o. o ++ numbers) (e4 ∙ ap (λ o. o ++ padding) (e3 ∙ ap (λ o. o ++ flags) (e2 ∙ ap (λ o. o ++ nul) (e1 ∙ ap (λ o. o ++ names) e0))))))
    ∙ simp (append_assoc, append-nil)

same_pieces : {a b c d e f names flags padding numbers offsets table a' b' c' d' e' f' names' flags' padding' numbers' offsets' table' : List ℕ}
    → a ≡ a' → b ≡ b' → c ≡ c' → d ≡ d' → e ≡ e' → f ≡ f' → names ≡ names' → flags ≡ flags' → padding ≡ padding' → numbers ≡ numbers' → offsets ≡ offsets' → table ≡ table'
    → a ++ (b ++ (c ++ (d ++ (e ++ (f ++ (names ++ (flags ++ (padding ++ (numbers ++ (offsets ++ (table ++ [])))))))))))
    ≡ a' ++ (b' ++ (c' ++ (d' ++ (e' ++ (f' ++ (names' ++ (flags' ++ (padding' ++ (numbers' ++ (offsets' ++ (table' ++ [])))))))))))
same_pieces q0 q1 q2 q3 q4 q5 q6 q7 q8 q9 q10 q11 = cc

numbers_joined : (f g : Form) (row : List (Option ℕ)) → f ≡ g → flat_map (λ number. number_bytes f (number_cell f number)) row ≡ flat_map (number_bytes g) (map (number_cell g) row)
numbers_joined f g row e =
    ap (λ h. flat_map (λ number. number_bytes h (number_cell h number)) row) e ∙ sym (flat_map-map (number_bytes g) (number_cell g) row)

pub file_is : (entry : Content) (plan : Plan) (names o0 o1 o2 o3 o4 o5 o6 o7 : List ℕ) → IsPlan entry plan → names ≡ entry.names
    → o0 ≡ [] ++ word (magic plan.form) ++ word (length names + 1) ++ word plan.flags ++ word plan.numbers ++ word plan.strings ++ word plan.table
    → o1 ≡ o0 ++ names → o2 ≡ o1 ++ 0 ∷ []
    → o3 ≡ o2 ++ flat_map (λ (flag : Bool). from_bool flag ∷ []) (trimmed itself (flags_of entry))
    → o4 ≡ o3 ++ replicate ((length names + 1 + plan.flags) % 2) 0
    → o5 ≡ o4 ++ flat_map (λ number. number_bytes plan.form (number_cell plan.form number)) (trimmed is_some (numbers_of entry))
    → o6 ≡ o5 ++ flat_map word (offsets_from 0 (trimmed is_some (strings_of entry)))
    → o7 ≡ o6 ++ table_of (trimmed is_some (strings_of entry)) → o7 ≡ written entry
unfolding written written_in layout
file_is entry plan names o0 o1 o2 o3 o4 o5 o6 o7 h n e0 e1 e2 e3 e4 e5 e6 e7 =
    let named : length names + 1 ≡ length (entry.names ++ 0 ∷ []) = ap (λ xs. length xs + 1) n ∙ sym (length-append entry.names (0 ∷ [])) in
    let flags : plan.flags ≡ length (flag_cells entry) = h.flags ∙ sym (length-map (trimmed itself (flags_of entry)) from_bool) in
    let numbers : plan.numbers ≡ length (number_cells (form_for entry) entry) = h.numbers ∙ sym (length-map (trimmed is_some (numbers_of entry)) (number_cell (form_for entry))) in
    let offsets : plan.strings ≡ length (offset_cells entry) = h.strings ∙ sym (length-offsets 0 (trimmed is_some (strings_of entry))) in
    let padding : replicate ((length names + 1 + plan.flags) % 2) 0 ≡ padding_for (entry.names ++ 0 ∷ []) (flag_cells entry) =
    ap (λ k. replicate ((k + plan.flags) % 2) 0) named ∙ ap (λ k. replicate ((length (entry.names ++ 0 ∷ []) + k) % 2) 0) flags in
    pieces_join (word (magic plan.form)) (word (length names + 1)) (word plan.flags) (word plan.numbers) (word plan.strings) (word plan.table) names (0 ∷ [])
    (flat_map (λ (flag : Bool). from_bool flag ∷ []) (trimmed itself (flags_of entry))) (replicate ((length names + 1 + plan.flags) % 2) 0)
    (flat_map (λ number. number_bytes plan.form (number_cell plan.form number)) (trimmed is_some (numbers_of entry)))
    (flat_map word (offsets_from 0 (trimmed is_some (strings_of entry)))) (table_of (trimmed is_some (strings_of entry))) o0 o1 o2 o3 o4 o5 o6 o7 e0 e1 e2 e3 e4 e5 e6 e7
    ∙ same_pieces (ap (λ f. word (magic f)) h.form) (ap word named) (ap word flags) (ap word numbers) (ap word offsets) (ap word h.table) (ap (λ xs. xs ++ 0 ∷ []) n)
    (flat_map_single from_bool (trimmed itself (flags_of entry))) padding (numbers_joined plan.form (form_for entry) (trimmed is_some (numbers_of entry)) h.form) refl refl

-- whether the file is too large
pub packing_by : (entry : Content) (t : Bool) → nat_lt (limit (form_for entry)) (length (written entry)) ≡ t → packing_of entry ≡ (if t then Err TooLarge else Ok (written entry))
unfolding packing_of
packing_by entry t e = ap (λ b. if b then Err TooLarge else Ok (written entry)) e

limit_test : (a b : ℕ) → a < b → nat_lt a b ≡ true
limit_test a b h = grind (arith, nat_tests)

room_test : (a b : ℕ) → b ≤ a → nat_lt a b ≡ false
room_test a b h = grind (arith, nat_tests)

pub packing_large : (entry : Content) (plan : Plan) (most size : ℕ) → IsPlan entry plan → most ≡ limit plan.form → size ≡ length (written entry) → most < size → packing_of entry ≡ Err TooLarge
packing_large entry plan most size h m s e =
    let most_is : most ≡ limit (form_for entry) = m ∙ ap limit h.form in
    packing_by entry true (limit_test (limit (form_for entry)) (length (written entry)) (omega arith))

pub packing_fits : (entry : Content) (plan : Plan) (most size : ℕ) → IsPlan entry plan → most ≡ limit plan.form → size ≡ length (written entry) → size ≤ most → packing_of entry ≡ Ok (written entry)
packing_fits entry plan most size h m s e =
    let most_is : most ≡ limit (form_for entry) = m ∙ ap limit h.form in
    packing_by entry false (room_test (limit (form_for entry)) (length (written entry)) (omega arith))

pub ok_is : (file : List ℕ) (packed : Result (List ℕ) PackFault) → packed ≡ Ok file → IsOk packed
ok_is file (Ok x) h = refl
ok_is file (Err e) h = let bad : ⊥ = cc in absurd bad

pub limit_small : (form : Form) → limit form ≤ 32768
limit_small Legacy = omega arith
limit_small Wide = omega arith
