-- A file in the layout is read as its entry.
use Rattle.std.proofs.Common.{◌≡◌, ◌≢◌, inl, inr, ℕ, ◌+◌, ◌*◌, ◌/◌, ◌%◌, ◌<◌, ◌≤◌, suc, Bool, true, false, ◌||◌, ◌&&◌, List, [], ◌∷◌, ◌++◌, length, drop, refl, ap, sym, ◌∙◌, arith, Option, Some, None, Ok, nat_lt, nat_le, nat_eq}
use Rattle.std.specs.Prelude.{map, flat_map}
use Rattle.std.specs.List.{list_all, list_any}
use Rattle.std.proofs.lemmas.Bool.Decides.{nat_tests}
use Rattle.std.proofs.lemmas.List.{take_at, drop_at, length-append}
use Rattle.ti_caps.specs.declared.value.Value.{Value}
use Rattle.ti_caps.specs.declared.value.Value.TheVariants.{Flag, Number, String}
use Rattle.ti_caps.specs.Entry.{Content}
use Rattle.ti_compiled.specs.declared.types.Form.{Form}
use Rattle.ti_compiled.specs.declared.types.Form.TheVariants.{Legacy, Wide}
use Rattle.ti_compiled.specs.declared.sections.Sizes.{Sizes}
use Rattle.ti_compiled.specs.Layout.{Parts, words, longs, width, numbers_in, half, is_number, is_flag, is_nul, ends_with_nul}
use Rattle.ti_compiled.specs.Readings.{word_of, form_of, sizes_fit, sizes_of, cut_at, sections_of, offset_judged, offsets_judged, parts_judged, parts_of}
use Rattle.ti_compiled.specs.Contents.{before_nul, flag_value, number_value, string_value, entry_of, read_of}
use Rattle.ti_compiled.specs.Packed.{word, long, magic, number_bytes, layout, HasNoNul, IsFlag, IsNumber, IsString, Each, Sections, HasSections, PackedIsRead}

pub word_again : (n : ℕ) (rest : List ℕ) → word_of (word n ++ rest) ≡ Ok (n, rest)
unfolding word
word_again n rest =
    let e : n % 256 + 256 * (n / 256) ≡ n = omega arith in
    ap (λ k. Ok (k, rest)) e

pub words_again : (numbers : List ℕ) → words (flat_map word numbers) ≡ numbers
unfolding word
words_again [] = refl
words_again (n ∷ numbers) =
    let e : n % 256 + 256 * (n / 256) ≡ n = omega arith in
    rw (e, words_again numbers) refl

long_is : (n : ℕ) → n % 256 + 256 * (n / 256 % 256 + 256 * (n / 65536 % 256 + 256 * (n / 16777216))) ≡ n
long_is n = omega arith

pub longs_again : (numbers : List ℕ) → longs (flat_map long numbers) ≡ numbers
unfolding long
longs_again [] = refl
longs_again (n ∷ numbers) = rw (long_is n, longs_again numbers) refl

pub numbers_again : (form : Form) (numbers : List ℕ) → numbers_in form (flat_map (number_bytes form) numbers) ≡ numbers
numbers_again Legacy numbers = words_again numbers
numbers_again Wide numbers = longs_again numbers

pub length-words : (numbers : List ℕ) → length (flat_map word numbers) ≡ 2 * length numbers
unfolding word
length-words [] = refl
length-words (n ∷ numbers) = omega (arith, length-words numbers)

pub length-longs : (numbers : List ℕ) → length (flat_map long numbers) ≡ 4 * length numbers
unfolding long
length-longs [] = refl
length-longs (n ∷ numbers) = omega (arith, length-longs numbers)

pub length-numbers : (form : Form) (numbers : List ℕ) → length (flat_map (number_bytes form) numbers) ≡ width form * length numbers
length-numbers Legacy numbers = length-words numbers
length-numbers Wide numbers = length-longs numbers

not_below : (a b : ℕ) → nat_lt (a + b) a ≡ false
not_below a b = grind (arith, nat_tests)

pub cut_again : (section rest : List ℕ) (count : ℕ) → length section ≡ count → cut_at count (section ++ rest) ≡ Ok (section, rest)
cut_again section rest count e =
    let long_enough : length (section ++ rest) ≡ count + length rest = length-append section rest ∙ ap (λ n. n + length rest) e in
    rw (long_enough, not_below count (length rest), take_at section rest count e, drop_at section rest count e) refl

-- names
ends_again : (front : List ℕ) → ends_with_nul (front ++ 0 ∷ []) ≡ true
ends_again [] = refl
ends_again (a ∷ []) = refl
ends_again (a ∷ b ∷ front) = ends_again (b ∷ front)

not_nul : (b : ℕ) → b ≢ 0 → nat_eq b 0 ≡ false
not_nul b h = grind (arith, nat_tests)

pub before_again : (bytes behind : List ℕ) → HasNoNul bytes → before_nul (bytes ++ 0 ∷ behind) ≡ bytes
before_again [] behind h = refl
before_again (b ∷ bytes) behind h = rw (not_nul b h.0, before_again bytes behind h.1) refl

or_right : (a : Bool) {b : Bool} → b ≡ true → (a || b) ≡ true
or_right true h = refl
or_right false h = h

pub nul_again : (bytes behind : List ℕ) → list_any is_nul (bytes ++ 0 ∷ behind) ≡ true
nul_again [] behind = refl
nul_again (b ∷ bytes) behind = or_right (is_nul b) (nul_again bytes behind)

both : {a b : Bool} → a ≡ true → b ≡ true → (a && b) ≡ true
both h k = rw h k

consed : (v w : Option Value) {vs ws : List (Option Value)} → w ≡ v → vs ≡ ws → (w ∷ vs) ≡ (v ∷ ws)
consed v w e f = cc

-- numbers that encode values are judged and read as these, if each one is
each_again : (Is : ℕ → Option Value → Type 0) (holds : ℕ → Bool) (read : ℕ → Option Value)
    → ((number : ℕ) (value : Option Value) → Is number value → (holds number ≡ true) × (read number ≡ value))
    → (numbers : List ℕ) (values : List (Option Value)) → Each Is numbers values → (list_all holds numbers ≡ true) × (map read numbers ≡ values)
each_again Is holds read one [] [] h = (refl, refl)
each_again Is holds read one [] (v ∷ values) h = absurd h
each_again Is holds read one (n ∷ numbers) [] h = absurd h
each_again Is holds read one (n ∷ numbers) (v ∷ values) h =
    let first = one n v h.0 in
    let more = each_again Is holds read one numbers values h.1 in
    (both first.0 more.0, consed v (read n) first.1 more.1)

-- flags
flag_again : (byte : ℕ) (value : Option Value) → IsFlag byte value → (is_flag byte ≡ true) × (flag_value byte ≡ value)
flag_again byte (Some Flag) h = rw h (refl, refl)
flag_again byte (Some (Number n)) h = absurd h
flag_again byte (Some (String s)) h = absurd h
flag_again byte None h = elim h [ inl e ↦ rw e (refl, refl) | inr e ↦ rw e (refl, refl) ]

flags_again : (flags : List ℕ) (values : List (Option Value)) → Each IsFlag flags values → (list_all is_flag flags ≡ true) × (map flag_value flags ≡ values)
flags_again flags values h = each_again IsFlag is_flag flag_value flag_again flags values h

-- numbers
number_kept : (h n : ℕ) → n < h → (is_number h n ≡ true) × (nat_lt n h ≡ true)
number_kept h n below = (grind (arith, nat_tests), grind (arith, nat_tests))

number_absent : (h n : ℕ) → 2 * h ≤ n + 2 → n < 2 * h → 2 ≤ h → (is_number h n ≡ true) × (nat_lt n h ≡ false)
number_absent h n low high big = (grind (arith, nat_tests), grind (arith, nat_tests))

half_big : (form : Form) → 2 ≤ half form
half_big Legacy = omega arith
half_big Wide = omega arith

number_gone : (form : Form) (n : ℕ) → IsNumber form n None → (is_number (half form) n ≡ true) × (nat_lt n (half form) ≡ false)
number_gone form n h = let big = half_big form in
    elim h [ inl e ↦ number_absent (half form) n (omega arith) (omega arith) big | inr e ↦ number_absent (half form) n (omega arith) (omega arith) big ]

number_again : (form : Form) (number : ℕ) (value : Option Value) → IsNumber form number value
    → (is_number (half form) number ≡ true) × (number_value (half form) number ≡ value)
number_again form number (Some Flag) h = absurd h
number_again form number (Some (String s)) h = absurd h
number_again form number (Some (Number m)) h =
    let kept = number_kept (half form) number h.1 in
    (kept.0, rw kept.1 (ap (λ k. Some (Number k)) h.0))
number_again form number None h =
    let absent = number_gone form number h in
    (absent.0, rw absent.1 refl)

numbers_judged_again : (form : Form) (numbers : List ℕ) (values : List (Option Value)) → Each (IsNumber form) numbers values
    → (list_all (is_number (half form)) numbers ≡ true) × (map (number_value (half form)) numbers ≡ values)
numbers_judged_again form numbers values h = each_again (IsNumber form) (is_number (half form)) (number_value (half form)) (number_again form) numbers values h

-- strings
string_kept : (table : List ℕ) (offset : ℕ) → offset < 32768 → offset < length table → list_any is_nul (drop offset table) ≡ true
    → (offset_judged table offset ≡ Ok tt) × (nat_lt offset 32768 ≡ true)
string_kept table offset low within nul =
    let not_gone : nat_le 65534 offset ≡ false = grind (arith, nat_tests) in
    let inside : nat_le (length table) offset ≡ false = grind (arith, nat_tests) in
    let small : nat_le 32768 offset ≡ false = grind (arith, nat_tests) in
    (rw (not_gone, inside, small, nul) refl, grind (arith, nat_tests))

string_gone : (table : List ℕ) (offset : ℕ) → 65534 ≤ offset → (offset_judged table offset ≡ Ok tt) × (nat_lt offset 32768 ≡ false)
string_gone table offset high =
    let test : nat_le 65534 offset ≡ true = grind (arith, nat_tests) in
    (rw test refl, grind (arith, nat_tests))

string_again : (table : List ℕ) (offset : ℕ) (bytes : List ℕ) → IsString table offset (Some (String bytes))
    → (offset_judged table offset ≡ Ok tt) × (string_value table offset ≡ Some (String bytes))
string_again table offset bytes (low, (front, text, whole, place, (clean, (behind, stands)))) =
    let there : drop offset table ≡ bytes ++ 0 ∷ behind = ap (drop offset) whole ∙ drop_at front text offset place ∙ stands in
    let room : length table ≡ offset + suc (length bytes + length behind) = omega (arith, ap length whole, length-append front text, ap length stands, length-append bytes (0 ∷ behind)) in
    let kept = string_kept table offset low (omega arith) (ap (list_any is_nul) there ∙ nul_again bytes behind) in
    (kept.0, rw kept.1 (ap (λ xs. Some (String (before_nul xs))) there ∙ ap (λ xs. Some (String xs)) (before_again bytes behind clean)))

strings_again : (table offsets : List ℕ) (values : List (Option Value)) → Each (IsString table) offsets values
    → (offsets_judged table offsets ≡ Ok tt) × (map (string_value table) offsets ≡ values)
strings_again table [] [] h = (refl, refl)
strings_again table [] (v ∷ values) h = absurd h
strings_again table (o ∷ offsets) [] h = absurd h
strings_again table (o ∷ offsets) (Some Flag ∷ values) h = absurd h.0
strings_again table (o ∷ offsets) (Some (Number m) ∷ values) h = absurd h.0
strings_again table (o ∷ offsets) (Some (String s) ∷ values) h =
    let more = strings_again table offsets values h.1 in
    let there = string_again table o s h.0 in
    (rw there.0 more.0, consed (Some (String s)) (string_value table o) there.1 more.1)
strings_again table (o ∷ offsets) (None ∷ values) h =
    let more = strings_again table offsets values h.1 in
    let high : 65534 ≤ o = elim h.0 [ inl e ↦ omega arith | inr e ↦ omega arith ] in
    let gone = string_gone table o high in
    (rw gone.0 more.0, consed None (string_value table o) (rw gone.1 refl) more.1)

-- the header and the sections
form_again : (form : Form) → form_of (magic form) ≡ Ok form
form_again Legacy = refl
form_again Wide = refl

sizes_again : (sizes : Sizes) (rest : List ℕ) → sizes_fit sizes ≡ true
    → sizes_of (word sizes.names ++ (word sizes.flags ++ (word sizes.numbers ++ (word sizes.offsets ++ (word sizes.table ++ rest))))) ≡ Ok (sizes, rest)
unfolding sizes_of
sizes_again sizes rest fit = simp word_again (rw fit refl)

lt_test : (a b : ℕ) → a < b → nat_lt a b ≡ true
lt_test a b h = grind (arith, nat_tests)

le_test : (a b : ℕ) → a ≤ b → nat_le a b ≡ true
le_test a b h = grind (arith, nat_tests)

sizes_fit_again : (names flags numbers offsets table : ℕ) → names < 32768 → flags ≤ 44 → numbers ≤ 39 → offsets ≤ 414 → table < 32768
    → sizes_fit (record { names = names; flags = flags; numbers = numbers; offsets = offsets; table = table }) ≡ true
sizes_fit_again names flags numbers offsets table a b c d e = both (lt_test names 32768 a) (both (le_test flags 44 b) (both (le_test numbers 39 c) (both (le_test offsets 414 d) (lt_test table 32768 e))))

sections_again : (form : Form) (sizes : Sizes) (names flags padding numbers offsets table rest : List ℕ)
    → length names ≡ sizes.names → length flags ≡ sizes.flags → length padding ≡ (sizes.names + sizes.flags) % 2
    → length numbers ≡ width form * sizes.numbers → length offsets ≡ 2 * sizes.offsets → length table ≡ sizes.table
    → sections_of form sizes (names ++ (flags ++ (padding ++ (numbers ++ (offsets ++ (table ++ rest))))))
    ≡ Ok (record { form = form; names = names; flags = flags; numbers = numbers; offsets = offsets; table = table })
unfolding sections_of
sections_again form sizes names flags padding numbers offsets table rest a b c d e f =
    rw (
      cut_again names (flags ++ (padding ++ (numbers ++ (offsets ++ (table ++ rest))))) sizes.names a,
      cut_again flags (padding ++ (numbers ++ (offsets ++ (table ++ rest)))) sizes.flags b,
      cut_again padding (numbers ++ (offsets ++ (table ++ rest))) ((sizes.names + sizes.flags) % 2) c,
      cut_again numbers (offsets ++ (table ++ rest)) (width form * sizes.numbers) d,
      cut_again offsets (table ++ rest) (2 * sizes.offsets) e,
      cut_again table rest sizes.table f,
    ) refl

-- the sections as bytes
abbrev pub held_parts : Sections → Parts
held_parts held = record { form = held.form; names = held.names; flags = held.flags; numbers = flat_map (number_bytes held.form) held.numbers; offsets = flat_map word held.offsets; table = held.table }

abbrev held_sizes : Sections → Sizes
held_sizes held = record { names = length held.names; flags = length held.flags; numbers = length held.numbers; offsets = length held.offsets; table = length held.table }

parts_judged_again : (held : Sections) (file : List ℕ) (entry : Content) (rest : List ℕ) → HasSections held file entry rest → parts_judged (held_parts held) ≡ Ok tt
unfolding parts_judged
parts_judged_again held file entry rest h =
    let front = h.names.0 in
    let names : ends_with_nul held.names ≡ true = ap ends_with_nul front.1 ∙ ends_again front.0 in
    let flags = (flags_again held.flags held.flag_values h.flags).0 in
    let numbers = (numbers_judged_again held.form held.numbers held.number_values h.numbers).0 in
    let strings = (strings_again held.table held.offsets held.string_values h.strings).0 in
    rw (names, flags, numbers_again held.form held.numbers, numbers, words_again held.offsets, strings) refl

parts_again : (held : Sections) (file : List ℕ) (entry : Content) (rest : List ℕ) → HasSections held file entry rest → parts_of file ≡ Ok (held_parts held)
unfolding parts_of layout
parts_again held file entry rest h =
    let fit = sizes_fit_again (length held.names) (length held.flags) (length held.numbers) (length held.offsets) (length held.table) h.names_size h.flags_size h.numbers_size h.offsets_size h.table_size in
    let behind : List ℕ = held.names ++ (held.flags ++ (held.padding ++ (flat_map (number_bytes held.form) held.numbers ++ (flat_map word held.offsets ++ (held.table ++ rest))))) in
    let sizes = sizes_again (held_sizes held) behind fit in
    let sections = sections_again held.form (held_sizes held) held.names held.flags held.padding (flat_map (number_bytes held.form) held.numbers) (flat_map word held.offsets) held.table rest refl refl h.padding_size (length-numbers held.form held.numbers) (length-words held.offsets) refl in
    rw (h.whole, word_again, form_again held.form, sizes, sections, parts_judged_again held file entry rest h) refl

same_content : {n m : List ℕ} {v w : List (Option Value)} → n ≡ m → v ≡ w → ◌≡◌ {A = Content} (record { names = n; values = v }) (record { names = m; values = w })
same_content e f = cc

entry_again : (held : Sections) (file : List ℕ) (entry : Content) (rest : List ℕ) → HasSections held file entry rest → entry_of (held_parts held) ≡ entry
unfolding entry_of
entry_again held file entry rest h =
    let stands = h.names.1 in
    let names : before_nul held.names ≡ entry.names = ap before_nul stands.1.1 ∙ before_again entry.names stands.1.0 stands.0 in
    let flags = (flags_again held.flags held.flag_values h.flags).1 in
    let numbers = (numbers_judged_again held.form held.numbers held.number_values h.numbers).1 in
    let strings = (strings_again held.table held.offsets held.string_values h.strings).1 in
    same_content names (rw (flags, numbers_again held.form held.numbers, numbers, words_again held.offsets, strings) (sym h.values))

pub packed_is_read : PackedIsRead
unfolding read_of
packed_is_read file entry rest (held, h) = rw (parts_again held file entry rest h) (ap (λ e. Ok e) (entry_again held file entry rest h))
