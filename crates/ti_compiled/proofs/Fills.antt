-- Filling an entry with the values of a file, capability by capability.
use Rattle.std.proofs.Common.{◌≡◌, ℕ, ◌+◌, ◌-◌, ◌<◌, zero, suc, Bool, true, false, not, ◌||◌, List, [], ◌∷◌, ◌++◌, length, get_or, take, drop, set, replicate, refl, ap, sym, ◌∙◌, subst, arith, Option, Some, None, Ok, Err, nat_lt, nat_le, nat_eq}
use Rattle.std.specs.Prelude.{slice_get, option_and_then, if◌then◌else◌, IsTrue, Result, IsOk}
use Rattle.std.specs.List.{list_any, list_all}
use Rattle.std.proofs.lemmas.Bool.Decides.{nat_tests}
use Rattle.std.proofs.lemmas.List.{take_more, append_assoc, append-nil, set_at, length-take-le, length-append, take_all, drop_at}
use Rattle.ti_caps.specs.declared.types.Kind.TheVariants as kinds
use Rattle.ti_caps.specs.declared.value.Value.{Value}
use Rattle.ti_caps.specs.declared.value.Value.TheVariants.{Flag, Number, String}
use Rattle.ti_caps.specs.Fits.{string_fits, names_fit}
use Rattle.ti_compiled.specs.declared.types.PackFault.{PackFault}
use Rattle.ti_compiled.specs.declared.types.PackFault.TheVariants.{TooLarge, BadNames}
use Rattle.ti_caps.specs.Entry.{Content, value_at, with_value, bare_entry, has_flag, number_in, string_in}
use Rattle.ti_compiled.specs.Layout.{Parts, half, numbers_in, words}
use Rattle.ti_compiled.specs.Contents.{before_nul, filled, entry_of, value_of, string_value, flag_values, number_values, string_values, is_long_string, with_row, partly, fit_of}
use Rattle.ti_compiled.proofs.Contents.{IsOf, flag_of, number_of, string_of, length-filled, flag_read, number_read, string_read, filled_at}

-- a value of a kind is determined by its flag, number or string
pub flag_is : (v : Option Value) → IsOf kinds.Flag v → has_flag v ≡ true → v ≡ Some Flag
flag_is None h e = let bad : ⊥ = cc in absurd bad
flag_is (Some Flag) h e = refl
flag_is (Some (Number n)) h e = let bad : ⊥ = cc in absurd bad
flag_is (Some (String s)) h e = let bad : ⊥ = cc in absurd bad

pub flag_none : (v : Option Value) → IsOf kinds.Flag v → has_flag v ≡ false → v ≡ None
flag_none None h e = refl
flag_none (Some Flag) h e = let bad : ⊥ = cc in absurd bad
flag_none (Some (Number n)) h e = let first = h.0 in let bad : ⊥ = cc in absurd bad
flag_none (Some (String s)) h e = let second = h.1 in let bad : ⊥ = cc in absurd bad

pub number_is : (v : Option Value) (n : ℕ) → Some n ≡ number_in v → v ≡ Some (Number n)
number_is None n e = let bad : ⊥ = cc in absurd bad
number_is (Some Flag) n e = let bad : ⊥ = cc in absurd bad
number_is (Some (Number m)) n e = cc
number_is (Some (String s)) n e = let bad : ⊥ = cc in absurd bad

pub number_none : (v : Option Value) → IsOf kinds.Number v → None ≡ number_in v → v ≡ None
number_none None h e = refl
number_none (Some Flag) h e = let first = h.0 in let bad : ⊥ = cc in absurd bad
number_none (Some (Number m)) h e = let bad : ⊥ = cc in absurd bad
number_none (Some (String s)) h e = let second = h.1 in let bad : ⊥ = cc in absurd bad

pub string_is : (v : Option Value) (s : List ℕ) → Some s ≡ string_in v → v ≡ Some (String s)
string_is None s e = let bad : ⊥ = cc in absurd bad
string_is (Some Flag) s e = let bad : ⊥ = cc in absurd bad
string_is (Some (Number m)) s e = let bad : ⊥ = cc in absurd bad
string_is (Some (String t)) s e = cc

pub string_none : (v : Option Value) → IsOf kinds.String v → None ≡ string_in v → v ≡ None
string_none None h e = refl
string_none (Some Flag) h e = let first = h.0 in let bad : ⊥ = cc in absurd bad
string_none (Some (Number m)) h e = let second = h.1 in let bad : ⊥ = cc in absurd bad
string_none (Some (String t)) h e = let bad : ⊥ = cc in absurd bad

-- one more capability
same_rows : (names : List ℕ) {v w : List (Option Value)} → v ≡ w → ◌≡◌ {A = Content} (record { names = names; values = v }) (record { names = names; values = w })
same_rows names e = cc

abbrev nothing : Option Value
nothing = None

row_kept : (values : List (Option Value)) (k m : ℕ) (v : Option Value) → k < length values → get_or values k None ≡ v
    → take k values ++ v ∷ replicate m nothing ≡ take (k + 1) values ++ replicate m nothing
row_kept values k m v h e =
    sym (append_assoc (take k values) (v ∷ []) (replicate m nothing))
    ∙ ap (λ x. (take k values ++ x ∷ []) ++ replicate m nothing) (sym e)
    ∙ ap (λ front. front ++ replicate m nothing) (sym (take_more values k None h))

room_left : (k m : ℕ) → k < 497 → 497 - (k + 1) ≡ m → 497 - k ≡ suc m
room_left k m h e = omega arith

pub partly_more : (entry : Content) (k : ℕ) (v : Option Value) → length entry.values ≡ 497 → k < 497 → value_at entry k ≡ v → with_row (partly entry k) k v ≡ partly entry (k + 1)
unfolding partly with_row with_value value_at
partly_more entry k None size h e =
    let m : ℕ = 497 - (k + 1) in
    let left : 497 - k ≡ suc m = room_left k m h refl in
    let within : k < length entry.values = omega arith in
    same_rows entry.names (ap (λ n. take k entry.values ++ replicate n nothing) left ∙ row_kept entry.values k m None within e)
partly_more entry k (Some w) size h e =
    let m : ℕ = 497 - (k + 1) in
    let left : 497 - k ≡ suc m = room_left k m h refl in
    let within : k < length entry.values = omega arith in
    same_rows entry.names (ap (λ n. set (take k entry.values ++ replicate n nothing) k (Some w)) left
    ∙ set_at (take k entry.values) None (replicate m nothing) (Some w) k (length-take-le k entry.values (omega arith))
    ∙ row_kept entry.values k m (Some w) within e)

pub rows_size : (parts : Parts) → length (entry_of parts).values ≡ 497
unfolding entry_of
rows_size parts = simp (length-append, length-filled) refl

pub flags_step : (parts : Parts) (k : ℕ) (old new : Content) → k < 44 → old ≡ partly (entry_of parts) k → new ≡ with_row old k (value_of parts kinds.Flag k) → new ≡ partly (entry_of parts) (k + 1)
flags_step parts k old new h before now =
    now ∙ ap (λ e. with_row e k (value_of parts kinds.Flag k)) before
    ∙ partly_more (entry_of parts) k (value_of parts kinds.Flag k) (rows_size parts) (omega arith) (flag_read parts k h)

-- one more capability of the kind whose capabilities begin at `first`
kind_step : (entry : Content) (first k : ℕ) (v : Option Value) (old new : Content) → length entry.values ≡ 497 → first + k < 497 → value_at entry (first + k) ≡ v
    → old ≡ partly entry (first + k) → new ≡ with_row old (first + k) v → new ≡ partly entry (first + (k + 1))
kind_step entry first k v old new size h read before now =
    let place : first + k + 1 ≡ first + (k + 1) = omega arith in
    now ∙ ap (λ e. with_row e (first + k) v) before ∙ partly_more entry (first + k) v size h read ∙ ap (partly entry) place

pub numbers_step : (parts : Parts) (k : ℕ) (old new : Content) → k < 39 → old ≡ partly (entry_of parts) (44 + k) → new ≡ with_row old (44 + k) (value_of parts kinds.Number k) → new ≡ partly (entry_of parts) (44 + (k + 1))
numbers_step parts k old new h before now = kind_step (entry_of parts) 44 k (value_of parts kinds.Number k) old new (rows_size parts) (omega arith) (number_read parts k h) before now

pub strings_step : (parts : Parts) (k : ℕ) (old new : Content) → k < 414 → old ≡ partly (entry_of parts) (83 + k) → new ≡ with_row old (83 + k) (value_of parts kinds.String k) → new ≡ partly (entry_of parts) (83 + (k + 1))
strings_step parts k old new h before now = kind_step (entry_of parts) 83 k (value_of parts kinds.String k) old new (rows_size parts) (omega arith) (string_read parts k h) before now

-- at the end, and at the start
pub partly_all : (parts : Parts) → partly (entry_of parts) 497 ≡ entry_of parts
unfolding partly
partly_all parts = same_rows (entry_of parts).names (append-nil (take 497 (entry_of parts).values) ∙ take_all 497 (entry_of parts).values (omega (arith, rows_size parts)))

pub partly_none : (parts : Parts) → bare_entry (before_nul parts.names) ≡ partly (entry_of parts) 0
unfolding partly bare_entry entry_of
partly_none parts = refl

-- the entry after one call
pub flag_put : (parts : Parts) (old : Content) (cap k : ℕ) → cap ≡ 0 + k → has_flag (value_of parts kinds.Flag k) ≡ true → with_value old cap (Some Flag) ≡ with_row old k (value_of parts kinds.Flag k)
unfolding with_row
flag_put parts old cap k e there =
    let is = flag_is (value_of parts kinds.Flag k) (flag_of (slice_get parts.flags k)) there in
    let place : cap ≡ k = omega arith in
    rw (is, place) refl

pub flag_left : (parts : Parts) (old : Content) (k : ℕ) → has_flag (value_of parts kinds.Flag k) ≡ false → old ≡ with_row old k (value_of parts kinds.Flag k)
unfolding with_row
flag_left parts old k gone = rw (flag_none (value_of parts kinds.Flag k) (flag_of (slice_get parts.flags k)) gone) refl

pub number_put : (parts : Parts) (old : Content) (cap k n : ℕ) → cap ≡ 44 + k → Some n ≡ number_in (value_of parts kinds.Number k) → with_value old cap (Some (Number n)) ≡ with_row old (44 + k) (value_of parts kinds.Number k)
unfolding with_row
number_put parts old cap k n e there = rw (number_is (value_of parts kinds.Number k) n there, e) refl

pub number_left : (parts : Parts) (old : Content) (k : ℕ) → None ≡ number_in (value_of parts kinds.Number k) → old ≡ with_row old (44 + k) (value_of parts kinds.Number k)
unfolding with_row
number_left parts old k gone = rw (number_none (value_of parts kinds.Number k) (number_of (half parts.form) (slice_get (numbers_in parts.form parts.numbers) k)) gone) refl

pub string_put : (parts : Parts) (old : Content) (cap k : ℕ) (s : List ℕ) → cap ≡ 83 + k → Some s ≡ string_in (value_of parts kinds.String k) → with_value old cap (Some (String s)) ≡ with_row old (83 + k) (value_of parts kinds.String k)
unfolding with_row
string_put parts old cap k s e there = rw (string_is (value_of parts kinds.String k) s there, e) refl

pub string_left : (parts : Parts) (old : Content) (k : ℕ) → None ≡ string_in (value_of parts kinds.String k) → old ≡ with_row old (83 + k) (value_of parts kinds.String k)
unfolding with_row
string_left parts old k gone = rw (string_none (value_of parts kinds.String k) (string_of parts.table (slice_get (words parts.offsets) k)) gone) refl

-- the strings fit
clean_at : (b : ℕ) (rest : List ℕ) (t : Bool) → nat_eq b 0 ≡ t → list_all (λ x. not (nat_eq x 0)) (before_nul rest) ≡ true
    → list_all (λ x. not (nat_eq x 0)) (if t then [] else b ∷ before_nul rest) ≡ true
clean_at b rest true e h = refl
clean_at b rest false e h = rw e h

before_nul_clean : (bytes : List ℕ) → list_all (λ x. not (nat_eq x 0)) (before_nul bytes) ≡ true
before_nul_clean [] = refl
before_nul_clean (b ∷ rest) = clean_at b rest (nat_eq b 0) refl (before_nul_clean rest)

clean_chosen : (t : Bool) (found s : List ℕ) → list_all (λ x. not (nat_eq x 0)) found ≡ true → (if t then Some (String found) else None) ≡ Some (String s) → list_all (λ x. not (nat_eq x 0)) s ≡ true
clean_chosen true found s h e = let same : found ≡ s = cc in subst (λ x. list_all (λ y. not (nat_eq y 0)) x ≡ true) same h
clean_chosen false found s h e = let bad : ⊥ = cc in absurd bad

string_clean : (table : List ℕ) (o : Option ℕ) (s : List ℕ) → option_and_then (string_value table) o ≡ Some (String s) → list_all (λ x. not (nat_eq x 0)) s ≡ true
string_clean table None s e = let bad : ⊥ = cc in absurd bad
string_clean table (Some offset) s e = clean_chosen (nat_lt offset 32768) (before_nul (drop offset table)) s (before_nul_clean (drop offset table)) e

pub string_fit : (parts : Parts) (k : ℕ) (s : List ℕ) → Some s ≡ string_in (value_of parts kinds.String k) → is_long_string (value_of parts kinds.String k) ≡ false → IsTrue (string_fits s)
string_fit parts k s there short =
    let is = string_is (value_of parts kinds.String k) s there in
    let small : nat_lt 4095 (length s) ≡ false = sym (ap is_long_string is) ∙ short in
    let fits : nat_le (length s) 4095 ≡ true = grind (arith, nat_tests) in
    rw fits (string_clean parts.table (slice_get (words parts.offsets) k) s is)

-- a string that is too long is in one of the rows
right_true : (a : Bool) {b : Bool} → b ≡ true → (a || b) ≡ true
right_true true h = refl
right_true false h = h

any_at : (p : Option Value → Bool) (xs : List (Option Value)) (k : ℕ) → k < length xs → p (get_or xs k None) ≡ true → list_any p xs ≡ true
any_at p [] k h e = absurd (omega arith)
any_at p (x ∷ xs) zero h e = rw e refl
any_at p (x ∷ xs) (suc k) h e = right_true (p x) (any_at p xs k (omega arith) e)

none_any : (p : Option Value → Bool) (xs : List (Option Value)) → ((k : ℕ) → k < length xs → p (get_or xs k None) ≡ false) → list_any p xs ≡ false
none_any p [] h = refl
none_any p (x ∷ xs) h = rw (h 0 (omega arith)) (none_any p xs (λ k below. h (suc k) (omega arith)))

pub long_found : (parts : Parts) (k : ℕ) → k < 414 → is_long_string (value_of parts kinds.String k) ≡ true → list_any is_long_string (filled 414 (string_values parts)) ≡ true
long_found parts k h e = any_at is_long_string (filled 414 (string_values parts)) k (omega (arith, length-filled 414 (string_values parts)))
    (ap is_long_string (filled_at (string_value parts.table) 414 (words parts.offsets) k h) ∙ e)

pub long_none : (parts : Parts) → ((k : ℕ) → k < 414 → is_long_string (value_of parts kinds.String k) ≡ false) → list_any is_long_string (filled 414 (string_values parts)) ≡ false
long_none parts h = none_any is_long_string (filled 414 (string_values parts)) (λ k below.
    let within : k < 414 = omega (arith, length-filled 414 (string_values parts)) in
    ap is_long_string (filled_at (string_value parts.table) 414 (words parts.offsets) k within) ∙ h k within)

short_by : (parts : Parts) (k : ℕ) (t : Bool) → k < 414 → is_long_string (value_of parts kinds.String k) ≡ t → list_any is_long_string (filled 414 (string_values parts)) ≡ false → t ≡ false
short_by parts k true h e short = sym (long_found parts k h e) ∙ short
short_by parts k false h e short = refl

pub short_at : (parts : Parts) (k : ℕ) → k < 414 → list_any is_long_string (filled 414 (string_values parts)) ≡ false → is_long_string (value_of parts kinds.String k) ≡ false
short_at parts k h short = short_by parts k (is_long_string (value_of parts kinds.String k)) h refl short

pub string_rows : (parts : Parts) → drop 83 (entry_of parts).values ≡ filled 414 (string_values parts)
unfolding entry_of
string_rows parts =
    let front : List (Option Value) = filled 44 (flag_values parts) ++ filled 39 (number_values parts) in
    let size : length front ≡ 83 = simp (length-append, length-filled) refl in
    ap (drop 83) (sym (append_assoc (filled 44 (flag_values parts)) (filled 39 (number_values parts)) (filled 414 (string_values parts))))
    ∙ drop_at front (filled 414 (string_values parts)) 83 size

-- whether an entry can hold the contents
fit_by : (entry : Content) (named long : Bool) → names_fit entry.names ≡ named → list_any is_long_string (drop 83 entry.values) ≡ long
    → fit_of entry ≡ (if named then (if long then Err TooLarge else Ok entry) else Err BadNames)
unfolding fit_of
fit_by entry named long e f =
    ap (λ n. if n then (if list_any is_long_string (drop 83 entry.values) then Err TooLarge else Ok entry) else Err BadNames) e
    ∙ ap (λ l. if named then (if l then Err TooLarge else Ok entry) else Err BadNames) f

names_read : (parts : Parts) → (entry_of parts).names ≡ before_nul parts.names
unfolding entry_of
names_read parts = refl

fit_read : (parts : Parts) (names : List ℕ) (named long : Bool) → names ≡ before_nul parts.names → names_fit names ≡ named
    → list_any is_long_string (filled 414 (string_values parts)) ≡ long
    → fit_of (entry_of parts) ≡ (if named then (if long then Err TooLarge else Ok (entry_of parts)) else Err BadNames)
fit_read parts names named long is e f =
    fit_by (entry_of parts) named long (ap names_fit (names_read parts ∙ sym is) ∙ e) (ap (list_any is_long_string) (string_rows parts) ∙ f)

pub fit_names : (parts : Parts) (names : List ℕ) → names ≡ before_nul parts.names → names_fit names ≡ false → fit_of (entry_of parts) ≡ Err BadNames
fit_names parts names is e = fit_read parts names false (list_any is_long_string (filled 414 (string_values parts))) is e refl

pub fit_long : (parts : Parts) (names : List ℕ) → names ≡ before_nul parts.names → names_fit names ≡ true
    → list_any is_long_string (filled 414 (string_values parts)) ≡ true → fit_of (entry_of parts) ≡ Err TooLarge
fit_long parts names is e f = fit_read parts names true true is e f

pub fit_ok : (parts : Parts) (names : List ℕ) → names ≡ before_nul parts.names → names_fit names ≡ true
    → list_any is_long_string (filled 414 (string_values parts)) ≡ false → fit_of (entry_of parts) ≡ Ok (entry_of parts)
fit_ok parts names is e f = fit_read parts names true false is e f

pub ok_is : (entry : Content) (fit : Result Content PackFault) → fit ≡ Ok entry → IsOk fit
ok_is entry (Ok e) h = refl
ok_is entry (Err e) h = let bad : ⊥ = cc in absurd bad
