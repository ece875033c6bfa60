-- A file that is read has its sections in the layout.
use Rattle.std.proofs.Common.{◌≡◌, ◌≢◌, ◌⊎◌, inl, inr, ℕ, ◌+◌, ◌-◌, ◌*◌, ◌/◌, ◌%◌, ◌<◌, ◌≤◌, zero, suc, Bool, true, false, ◌||◌, ◌&&◌, List, [], ◌∷◌, ◌++◌, length, take, drop, refl, ap, sym, ◌∙◌, subst, arith, Some, None, Ok, Err, nat_lt, nat_le, nat_eq}
use Rattle.std.specs.Prelude.{map, flat_map, Result, if◌then◌else◌}
use Rattle.std.specs.List.{list_all, list_any, AllByRecursion}
use Rattle.std.proofs.lemmas.Bool.Decides.{nat_tests}
use Rattle.std.proofs.lemmas.List.{take-append-drop, length-take}
use Rattle.std.proofs.Math.Nat.{eq-or-lt_of_le}
use Rattle.ti_caps.specs.declared.value.Value.TheVariants.{Flag, Number}
use Rattle.ti_compiled.specs.declared.types.Form.{Form}
use Rattle.ti_compiled.specs.declared.types.Form.TheVariants.{Legacy, Wide}
use Rattle.ti_compiled.specs.declared.types.PackFault.{PackFault}
use Rattle.ti_compiled.specs.declared.types.PackFault.TheVariants.{Short, BadMagic, BadCount, BadFlag, BadNumber, BadOffset, NoNul}
use Rattle.ti_compiled.specs.declared.sections.Sizes.{Sizes}
use Rattle.ti_compiled.specs.Layout.{Parts, words, longs, width, numbers_in, half, is_number, is_flag, is_nul, ends_with_nul}
use Rattle.ti_compiled.specs.Readings.{◌>>=◌, judged, word_of, form_of, sizes_fit, sizes_of, cut_at, sections_of, offset_judged, offsets_judged, parts_judged, parts_of}
use Rattle.ti_compiled.specs.Contents.{before_nul, flag_value, number_value, string_value, entry_of, read_of, flag_values, number_values, string_values}
use Rattle.ti_compiled.specs.Packed.{word, long, magic, number_bytes, layout, StandsFirst, IsFlag, IsNumber, IsString, Each, Sections, HasSections, IsPacked, ReadIsPacked}

abbrev pub AreBytes : List ℕ → Type 0
AreBytes bytes = AllByRecursion (λ b. b < 256) bytes

-- the steps of a successful reading
pub bind_ok : {A B : Type 0} (r : Result A PackFault) (f : A → Result B PackFault) (y : B) → (r >>= f) ≡ Ok y → (x : A) × (r ≡ Ok x) × (f x ≡ Ok y)
bind_ok (Ok x) f y e = (x, refl, e)
bind_ok (Err d) f y e = let bad : ⊥ = cc in absurd bad

pub guard_ok : {A : Type 0} (t : Bool) (d : PackFault) (x y : A) → (if t then Err d else Ok x) ≡ Ok y → (t ≡ false) × (x ≡ y)
guard_ok true d x y e = let bad : ⊥ = cc in absurd bad
guard_ok false d x y e = (refl, cc)

pub held_ok : {A : Type 0} (t : Bool) (d : PackFault) (x y : A) → (if t then Ok x else Err d) ≡ Ok y → (t ≡ true) × (x ≡ y)
held_ok true d x y e = (refl, cc)
held_ok false d x y e = let bad : ⊥ = cc in absurd bad

pub test_lt : (a b : ℕ) → nat_lt a b ≡ true → a < b
test_lt a b h = grind (arith, nat_tests)

pub test_le : (a b : ℕ) → nat_le a b ≡ true → a ≤ b
test_le a b h = grind (arith, nat_tests)

pub test_ge : (a b : ℕ) → nat_lt a b ≡ false → b ≤ a
test_ge a b h = grind (arith, nat_tests)

test_eq : (a b : ℕ) → nat_eq a b ≡ true → a ≡ b
test_eq a b h = grind (arith, nat_tests)

test_ne : (a b : ℕ) → nat_eq a b ≡ false → a ≢ b
test_ne a b h = grind (arith, nat_tests)

test_gt : (a b : ℕ) → nat_le a b ≡ false → b < a
test_gt a b h = grind (arith, nat_tests)

pub and_ok : (a b : Bool) → (a && b) ≡ true → (a ≡ true) × (b ≡ true)
and_ok true b h = (refl, h)
and_ok false b h = let bad : ⊥ = cc in absurd bad

pub or_ok : (a b : Bool) → (a || b) ≡ true → (a ≡ true) ⊎ (b ≡ true)
or_ok true b h = inl refl
or_ok false b h = inr h

or_no : (a b : Bool) → (a || b) ≡ false → (a ≡ false) × (b ≡ false)
or_no true b h = let bad : ⊥ = cc in absurd bad
or_no false b h = (refl, h)

pub any_left : (a b : Bool) → (a || b) ≡ true → a ≡ false → b ≡ true
any_left true b h fails = let bad : ⊥ = cc in absurd bad
any_left false b h fails = h

any_right : (a : Bool) {b : Bool} → b ≡ true → (a || b) ≡ true
any_right true h = refl
any_right false h = h

last_two : (n h : ℕ) → h ≤ n + 2 → n < h → (n + 1 ≡ h) ⊎ (n + 2 ≡ h)
last_two n h low below = elim (eq-or-lt_of_le below) [ inl e ↦ inl (omega arith) | inr e ↦ inr (omega arith) ]

-- one number of 16 bits
pub word_taken : (bytes : List ℕ) (x : ℕ × List ℕ) → AreBytes bytes → word_of bytes ≡ Ok x → (bytes ≡ word x.0 ++ x.1) × AreBytes x.1 × (x.0 < 65536)
unfolding word
word_taken [] x small e = let bad : ⊥ = cc in absurd bad
word_taken (a ∷ []) x small e = let bad : ⊥ = cc in absurd bad
word_taken (a ∷ b ∷ rest) x small e =
    let is : ◌≡◌ {A = ℕ × List ℕ} (a + 256 * b, rest) x = cc in
    let low : a < 256 = small.0 in
    let high : b < 256 = small.1.0 in
    let number : a + 256 * b ≡ x.0 = ap (λ (y : ℕ × List ℕ). y.0) is in
    let behind : rest ≡ x.1 = ap (λ (y : ℕ × List ℕ). y.1) is in
    let first : a ≡ x.0 % 256 = omega arith in
    let second : b ≡ x.0 / 256 = omega arith in
    (cc, subst AreBytes behind small.1.1, omega arith)

words_small : (bytes : List ℕ) → AreBytes bytes → AllByRecursion (λ n. n < 65536) (words bytes)
words_small [] small = tt
words_small (a ∷ []) small = tt
words_small (a ∷ b ∷ rest) small =
    let low : a < 256 = small.0 in
    let high : b < 256 = small.1.0 in
    (omega arith, words_small rest small.1.1)

longs_small : (bytes : List ℕ) → AreBytes bytes → AllByRecursion (λ n. n < 4294967296) (longs bytes)
longs_small [] small = tt
longs_small (a ∷ []) small = tt
longs_small (a ∷ b ∷ []) small = tt
longs_small (a ∷ b ∷ c ∷ []) small = tt
longs_small (a ∷ b ∷ c ∷ d ∷ rest) small =
    let p : a < 256 = small.0 in
    let q : b < 256 = small.1.0 in
    let r : c < 256 = small.1.1.0 in
    let s : d < 256 = small.1.1.1.0 in
    (omega arith, longs_small rest small.1.1.1.1)

words_whole : (bytes : List ℕ) (count : ℕ) → AreBytes bytes → length bytes ≡ 2 * count → (flat_map word (words bytes) ≡ bytes) × (length (words bytes) ≡ count)
unfolding word
words_whole [] count small size = (refl, omega arith)
words_whole (a ∷ []) count small size = absurd (omega arith)
words_whole (a ∷ b ∷ rest) zero small size = absurd (omega arith)
words_whole (a ∷ b ∷ rest) (suc count) small size =
    let low : a < 256 = small.0 in
    let high : b < 256 = small.1.0 in
    let more = words_whole rest count small.1.1 (omega arith) in
    let first : (a + 256 * b) % 256 ≡ a = omega arith in
    let second : (a + 256 * b) / 256 ≡ b = omega arith in
    (rw (first, second, more.0) refl, ap suc more.1)

long_split : (a b c d : ℕ) → a < 256 → b < 256 → c < 256 → d < 256 → let n = a + 256 * (b + 256 * (c + 256 * d)) in
    (n % 256 ≡ a) × (n / 256 % 256 ≡ b) × (n / 65536 % 256 ≡ c) × (n / 16777216 ≡ d)
long_split a b c d p q r s = (omega arith, omega arith, omega arith, omega arith)

longs_whole : (bytes : List ℕ) (count : ℕ) → AreBytes bytes → length bytes ≡ 4 * count → (flat_map long (longs bytes) ≡ bytes) × (length (longs bytes) ≡ count)
unfolding long
longs_whole [] count small size = (refl, omega arith)
longs_whole (a ∷ []) count small size = absurd (omega arith)
longs_whole (a ∷ b ∷ []) count small size = absurd (omega arith)
longs_whole (a ∷ b ∷ c ∷ []) count small size = absurd (omega arith)
longs_whole (a ∷ b ∷ c ∷ d ∷ rest) zero small size = absurd (omega arith)
longs_whole (a ∷ b ∷ c ∷ d ∷ rest) (suc count) small size =
    let more = longs_whole rest count small.1.1.1.1 (omega arith) in
    let split = long_split a b c d small.0 small.1.0 small.1.1.0 small.1.1.1.0 in
    (rw (split.0, split.1, split.2, split.3, more.0) refl, ap suc more.1)

numbers_small : (form : Form) (bytes : List ℕ) → AreBytes bytes → AllByRecursion (λ n. n < 2 * half form) (numbers_in form bytes)
numbers_small Legacy bytes small = words_small bytes small
numbers_small Wide bytes small = longs_small bytes small

numbers_whole : (form : Form) (bytes : List ℕ) (count : ℕ) → AreBytes bytes → length bytes ≡ width form * count
    → (flat_map (number_bytes form) (numbers_in form bytes) ≡ bytes) × (length (numbers_in form bytes) ≡ count)
numbers_whole Legacy bytes count small size = words_whole bytes count small size
numbers_whole Wide bytes count small size = longs_whole bytes count small size

-- taking some bytes
bytes_take : (n : ℕ) (bytes : List ℕ) → AreBytes bytes → AreBytes (take n bytes)
bytes_take zero bytes small = tt
bytes_take (suc n) [] small = tt
bytes_take (suc n) (b ∷ bytes) small = (small.0, bytes_take n bytes small.1)

bytes_drop : (n : ℕ) (bytes : List ℕ) → AreBytes bytes → AreBytes (drop n bytes)
bytes_drop zero bytes small = small
bytes_drop (suc n) [] small = tt
bytes_drop (suc n) (b ∷ bytes) small = bytes_drop n bytes small.1

pub cut_taken : (count : ℕ) (bytes : List ℕ) (x : List ℕ × List ℕ) → AreBytes bytes → cut_at count bytes ≡ Ok x → (bytes ≡ x.0 ++ x.1) × (length x.0 ≡ count) × AreBytes x.0 × AreBytes x.1
cut_taken count bytes x small e =
    let cut = guard_ok (nat_lt (length bytes) count) Short (take count bytes, drop count bytes) x e in
    let enough = test_ge (length bytes) count cut.0 in
    let front : take count bytes ≡ x.0 = ap (λ (y : List ℕ × List ℕ). y.0) cut.1 in
    let behind : drop count bytes ≡ x.1 = ap (λ (y : List ℕ × List ℕ). y.1) cut.1 in
    let size : length (take count bytes) ≡ count = simp length-take (omega arith) in (
      sym (take-append-drop count bytes) ∙ ap (λ f. f ++ drop count bytes) front ∙ ap (λ b. x.0 ++ b) behind,
      sym (ap length front) ∙ size,
      subst AreBytes front (bytes_take count bytes small),
      subst AreBytes behind (bytes_drop count bytes small),
    )

-- names
ends_taken : (bytes : List ℕ) → ends_with_nul bytes ≡ true → (front : List ℕ) × (bytes ≡ front ++ 0 ∷ [])
ends_taken [] e = let bad : ⊥ = cc in absurd bad
ends_taken (b ∷ []) e = ([], ap (λ x. x ∷ []) (test_eq b 0 e))
ends_taken (b ∷ c ∷ rest) e = let more = ends_taken (c ∷ rest) e in (b ∷ more.0, ap (λ xs. b ∷ xs) more.1)

ends_any : (bytes : List ℕ) → ends_with_nul bytes ≡ true → list_any is_nul bytes ≡ true
ends_any [] e = e
ends_any (b ∷ []) e = rw e refl
ends_any (b ∷ c ∷ rest) e = any_right (is_nul b) (ends_any (c ∷ rest) e)

stands_at : (b : ℕ) (rest : List ℕ) (t : Bool) → nat_eq b 0 ≡ t → (t ≡ false → StandsFirst (before_nul rest) rest) → StandsFirst (if t then [] else b ∷ before_nul rest) (b ∷ rest)
stands_at b rest true e more = (tt, (rest, ap (λ x. x ∷ rest) (test_eq b 0 e)))
stands_at b rest false e more =
    let there = more refl in
    ((test_ne b 0 e, there.0), (there.1.0, ap (λ xs. b ∷ xs) there.1.1))

stands_taken : (bytes : List ℕ) → list_any is_nul bytes ≡ true → StandsFirst (before_nul bytes) bytes
stands_taken [] e = let bad : ⊥ = cc in absurd bad
stands_taken (b ∷ rest) e = stands_at b rest (nat_eq b 0) refl (λ other. stands_taken rest (any_left (nat_eq b 0) (list_any is_nul rest) e other))

-- flags
flag_at : (b : ℕ) (t : Bool) → nat_eq b 1 ≡ t → is_flag b ≡ true → IsFlag b (if t then Some Flag else None)
flag_at b true e h = test_eq b 1 e
flag_at b false e h = elim (or_ok (nat_eq b 0) (nat_eq b 1 || nat_eq b 254) h) [
  | inl zero_is ↦ inl (test_eq b 0 zero_is)
  | inr other ↦ inr (test_eq b 254 (any_left (nat_eq b 1) (nat_eq b 254) other e))
]

flags_taken : (flags : List ℕ) → list_all is_flag flags ≡ true → Each IsFlag flags (map flag_value flags)
flags_taken [] h = tt
flags_taken (b ∷ flags) h = let parts = and_ok (is_flag b) (list_all is_flag flags) h in (flag_at b (nat_eq b 1) refl parts.0, flags_taken flags parts.1)

-- numbers
number_at : (form : Form) (n : ℕ) (t : Bool) → nat_lt n (half form) ≡ t → is_number (half form) n ≡ true → n < 2 * half form → IsNumber form n (if t then Some (Number n) else None)
number_at form n true e h below = (refl, test_lt n (half form) e)
number_at form n false e h below =
    let high = test_le (2 * half form - 2) n (any_left (nat_lt n (half form)) (nat_le (2 * half form - 2) n) h e) in
    last_two n (2 * half form) (omega arith) below

numbers_taken : (form : Form) (numbers : List ℕ) → AllByRecursion (λ n. n < 2 * half form) numbers → list_all (is_number (half form)) numbers ≡ true → Each (IsNumber form) numbers (map (number_value (half form)) numbers)
numbers_taken form [] small h = tt
numbers_taken form (n ∷ numbers) small h =
    let parts = and_ok (is_number (half form) n) (list_all (is_number (half form)) numbers) h in
    (number_at form n (nat_lt n (half form)) refl parts.0 small.0, numbers_taken form numbers small.1 parts.1)

-- strings
string_tests : (table : List ℕ) (offset : ℕ) (past large : Bool) → nat_le (length table) offset ≡ past → nat_le 32768 offset ≡ large
    → (if past || large then Err BadOffset else judged (list_any is_nul (drop offset table)) NoNul) ≡ Ok tt
    → (offset < 32768) × (offset < length table) × (list_any is_nul (drop offset table) ≡ true)
string_tests table offset true large p l h = let bad : ⊥ = cc in absurd bad
string_tests table offset false true p l h = let bad : ⊥ = cc in absurd bad
string_tests table offset false false p l h = (test_gt 32768 offset l, test_gt (length table) offset p, (held_ok (list_any is_nul (drop offset table)) NoNul tt tt h).0)

unit_same : (x : Unit {0}) → x ≡ tt
unit_same x = refl

pub ok_same : {A : Type 0} (x y : A) → ◌≡◌ {A = Result A PackFault} (Ok x) (Ok y) → x ≡ y
ok_same x y e = cc

string_ends : (table : List ℕ) (offset : ℕ) → nat_le 65534 offset ≡ false → offset_judged table offset ≡ Ok tt
    → (offset < 32768) × (offset < length table) × (list_any is_nul (drop offset table) ≡ true)
string_ends table offset kept h =
    let rest : (if nat_le (length table) offset || nat_le 32768 offset then Err BadOffset else judged (list_any is_nul (drop offset table)) NoNul) ≡ Ok tt = rw kept at h in
    string_tests table offset (nat_le (length table) offset) (nat_le 32768 offset) refl refl rest

string_at : (table : List ℕ) (offset : ℕ) (t : Bool) → nat_le 65534 offset ≡ t → offset_judged table offset ≡ Ok tt → offset < 65536 → IsString table offset (string_value table offset)
string_at table offset true e h below =
    let high = test_le 65534 offset e in
    let negative : nat_lt offset 32768 ≡ false = grind (arith, nat_tests) in
    rw negative (last_two offset 65536 (omega arith) below)
string_at table offset false e h below =
    let found = string_ends table offset e h in
    let small : nat_lt offset 32768 ≡ true = grind (arith, nat_tests) in
    let size : length (take offset table) ≡ offset = simp length-take (omega arith) in
    rw small (found.0, (take offset table, drop offset table, sym (take-append-drop offset table), size, stands_taken (drop offset table) found.2))

strings_taken : (table offsets : List ℕ) → AllByRecursion (λ n. n < 65536) offsets → offsets_judged table offsets ≡ Ok tt → Each (IsString table) offsets (map (string_value table) offsets)
strings_taken table [] small h = tt
strings_taken table (o ∷ offsets) small h =
    let first = bind_ok (offset_judged table o) (λ _. offsets_judged table offsets) tt h in
    (string_at table o (nat_le 65534 o) refl (first.1 ∙ ap (λ x. Ok x) (unit_same first.0)) small.0, strings_taken table offsets small.1 first.2)

-- the checks of the sections
pub record AreJudged (parts : Parts) : Type 0 where
  pub names : ends_with_nul parts.names ≡ true
  pub flags : list_all is_flag parts.flags ≡ true
  pub numbers : list_all (is_number (half parts.form)) (numbers_in parts.form parts.numbers) ≡ true
  pub strings : offsets_judged parts.table (words parts.offsets) ≡ Ok tt

judged_taken : (parts : Parts) → parts_judged parts ≡ Ok tt → AreJudged parts
unfolding parts_judged
judged_taken parts h =
    let names = bind_ok (judged (ends_with_nul parts.names) NoNul) _ tt h in
    let flags = bind_ok (judged (list_all is_flag parts.flags) BadFlag) _ tt names.2 in
    let numbers = bind_ok (judged (list_all (is_number (half parts.form)) (numbers_in parts.form parts.numbers)) BadNumber) _ tt flags.2 in
    record {
      names = (held_ok (ends_with_nul parts.names) NoNul tt names.0 names.1).0;
      flags = (held_ok (list_all is_flag parts.flags) BadFlag tt flags.0 flags.1).0;
      numbers = (held_ok (list_all (is_number (half parts.form)) (numbers_in parts.form parts.numbers)) BadNumber tt numbers.0 numbers.1).0;
      strings = numbers.2;
    }

-- the sizes in the header
pub record TakesSizes (bytes : List ℕ) (sizes : Sizes) (rest : List ℕ) : Type 0 where
  pub whole : bytes ≡ word sizes.names ++ (word sizes.flags ++ (word sizes.numbers ++ (word sizes.offsets ++ (word sizes.table ++ rest))))
  pub names : sizes.names < 32768
  pub flags : sizes.flags ≤ 44
  pub numbers : sizes.numbers ≤ 39
  pub offsets : sizes.offsets ≤ 414
  pub table : sizes.table < 32768
  pub small : AreBytes rest

sizes_taken : (bytes : List ℕ) (x : Sizes × List ℕ) → AreBytes bytes → sizes_of bytes ≡ Ok x → TakesSizes bytes x.0 x.1
unfolding sizes_of
sizes_taken bytes x small h =
    let names = bind_ok (word_of bytes) _ x h in
    let a = word_taken bytes names.0 small names.1 in
    let flags = bind_ok (word_of names.0.1) _ x names.2 in
    let b = word_taken names.0.1 flags.0 a.1 flags.1 in
    let numbers = bind_ok (word_of flags.0.1) _ x flags.2 in
    let c = word_taken flags.0.1 numbers.0 b.1 numbers.1 in
    let offsets = bind_ok (word_of numbers.0.1) _ x numbers.2 in
    let d = word_taken numbers.0.1 offsets.0 c.1 offsets.1 in
    let table = bind_ok (word_of offsets.0.1) _ x offsets.2 in
    let e = word_taken offsets.0.1 table.0 d.1 table.1 in
    let sizes : Sizes = record { names = names.0.0; flags = flags.0.0; numbers = numbers.0.0; offsets = offsets.0.0; table = table.0.0 } in
    let fit = held_ok (sizes_fit sizes) BadCount (sizes, table.0.1) x table.2 in
    let t0 = and_ok (nat_lt sizes.names 32768) _ fit.0 in
    let t1 = and_ok (nat_le sizes.flags 44) _ t0.1 in
    let t2 = and_ok (nat_le sizes.numbers 39) _ t1.1 in
    let t3 = and_ok (nat_le sizes.offsets 414) _ t2.1 in
    let same : sizes ≡ x.0 = ap (λ (y : Sizes × List ℕ). y.0) fit.1 in
    let behind : table.0.1 ≡ x.1 = ap (λ (y : Sizes × List ℕ). y.1) fit.1 in
    let whole = a.0 ∙ ap (λ r. word names.0.0 ++ r) (b.0 ∙ ap (λ r. word flags.0.0 ++ r) (c.0 ∙ ap (λ r. word numbers.0.0 ++ r) (d.0 ∙ ap (λ r. word offsets.0.0 ++ r) e.0))) in
    let read : TakesSizes bytes sizes table.0.1 = record {
      whole = whole;
      names = test_lt sizes.names 32768 t0.0;
      flags = test_le sizes.flags 44 t1.0;
      numbers = test_le sizes.numbers 39 t2.0;
      offsets = test_le sizes.offsets 414 t3.0;
      table = test_lt sizes.table 32768 t3.1;
      small = e.1;
    } in
    subst (λ r. TakesSizes bytes x.0 r) behind (subst (λ s. TakesSizes bytes s table.0.1) same read)

-- the sections after the header
pub record TakesSections (form : Form) (sizes : Sizes) (bytes : List ℕ) (parts : Parts) (padding rest : List ℕ) : Type 0 where
  pub whole : bytes ≡ parts.names ++ (parts.flags ++ (padding ++ (parts.numbers ++ (parts.offsets ++ (parts.table ++ rest)))))
  pub form_is : parts.form ≡ form
  pub names : length parts.names ≡ sizes.names
  pub flags : length parts.flags ≡ sizes.flags
  pub padding_size : length padding ≡ (sizes.names + sizes.flags) % 2
  pub numbers : length parts.numbers ≡ width form * sizes.numbers
  pub offsets : length parts.offsets ≡ 2 * sizes.offsets
  pub table : length parts.table ≡ sizes.table
  pub numbers_small : AreBytes parts.numbers
  pub offsets_small : AreBytes parts.offsets

sections_taken : (form : Form) (sizes : Sizes) (bytes : List ℕ) (parts : Parts) → AreBytes bytes → sections_of form sizes bytes ≡ Ok parts
    → (padding : List ℕ) × (rest : List ℕ) × TakesSections form sizes bytes parts padding rest
unfolding sections_of
sections_taken form sizes bytes parts small h =
    let names = bind_ok (cut_at sizes.names bytes) _ parts h in
    let a = cut_taken sizes.names bytes names.0 small names.1 in
    let flags = bind_ok (cut_at sizes.flags names.0.1) _ parts names.2 in
    let b = cut_taken sizes.flags names.0.1 flags.0 a.3 flags.1 in
    let padding = bind_ok (cut_at ((sizes.names + sizes.flags) % 2) flags.0.1) _ parts flags.2 in
    let c = cut_taken ((sizes.names + sizes.flags) % 2) flags.0.1 padding.0 b.3 padding.1 in
    let numbers = bind_ok (cut_at (width form * sizes.numbers) padding.0.1) _ parts padding.2 in
    let d = cut_taken (width form * sizes.numbers) padding.0.1 numbers.0 c.3 numbers.1 in
    let offsets = bind_ok (cut_at (2 * sizes.offsets) numbers.0.1) _ parts numbers.2 in
    let e = cut_taken (2 * sizes.offsets) numbers.0.1 offsets.0 d.3 offsets.1 in
    let table = bind_ok (cut_at sizes.table offsets.0.1) _ parts offsets.2 in
    let f = cut_taken sizes.table offsets.0.1 table.0 e.3 table.1 in
    let made : Parts = record { form = form; names = names.0.0; flags = flags.0.0; numbers = numbers.0.0; offsets = offsets.0.0; table = table.0.0 } in
    let same : made ≡ parts = ok_same made parts table.2 in
    let whole = a.0 ∙ ap (λ r. names.0.0 ++ r) (b.0 ∙ ap (λ r. flags.0.0 ++ r) (c.0 ∙ ap (λ r. padding.0.0 ++ r) (d.0 ∙ ap (λ r. numbers.0.0 ++ r) (e.0 ∙ ap (λ r. offsets.0.0 ++ r) f.0)))) in
    let taken : TakesSections form sizes bytes made padding.0.0 table.0.1 = record {
      whole = whole;
      form_is = refl;
      names = a.1;
      flags = b.1;
      padding_size = c.1;
      numbers = d.1;
      offsets = e.1;
      table = f.1;
      numbers_small = d.2;
      offsets_small = e.2;
    } in
    (padding.0.0, table.0.1, subst (λ p. TakesSections form sizes bytes p padding.0.0 table.0.1) same taken)

form_tests : (number : ℕ) (form : Form) (legacy wide : Bool) → nat_eq number 282 ≡ legacy → nat_eq number 542 ≡ wide
    → (if legacy then Ok Legacy else (if wide then Ok Wide else Err BadMagic)) ≡ Ok form → number ≡ magic form
form_tests number form true wide l w h = subst (λ f. number ≡ magic f) (ok_same Legacy form h) (test_eq number 282 l)
form_tests number form false true l w h = subst (λ f. number ≡ magic f) (ok_same Wide form h) (test_eq number 542 w)
form_tests number form false false l w h = let bad : ⊥ = cc in absurd bad

form_taken : (number : ℕ) (form : Form) → form_of number ≡ Ok form → number ≡ magic form
form_taken number form h = form_tests number form (nat_eq number 282) (nat_eq number 542) refl refl h

-- the sections of a file that was read
pub held_of : Parts → List ℕ → Sections
held_of parts padding = record {
  form = parts.form;
  names = parts.names;
  flags = parts.flags;
  padding = padding;
  numbers = numbers_in parts.form parts.numbers;
  offsets = words parts.offsets;
  table = parts.table;
  flag_values = flag_values parts;
  number_values = number_values parts;
  string_values = string_values parts;
}

-- the steps of a successful reading, and their results
whole_joins : (file header behind : List ℕ) (number names flags numbers offsets table : ℕ) (form : Form)
    (names_bytes flags_bytes padding numbers_bytes offsets_bytes table_bytes rest : List ℕ) (values places : List ℕ)
    → file ≡ word number ++ header → number ≡ magic form
    → header ≡ word names ++ (word flags ++ (word numbers ++ (word offsets ++ (word table ++ behind))))
    → behind ≡ names_bytes ++ (flags_bytes ++ (padding ++ (numbers_bytes ++ (offsets_bytes ++ (table_bytes ++ rest)))))
    → length names_bytes ≡ names → length flags_bytes ≡ flags → length values ≡ numbers → length places ≡ offsets → length table_bytes ≡ table
    → flat_map (number_bytes form) values ≡ numbers_bytes → flat_map word places ≡ offsets_bytes
    → file ≡ layout form names_bytes flags_bytes padding values places table_bytes rest
unfolding layout
whole_joins file header behind number names flags numbers offsets table form names_bytes flags_bytes padding numbers_bytes offsets_bytes table_bytes rest values places
    e0 e1 e2 e3 a b c d e f g = rw (a, b, c, d, e, f, g, ← e1) (e0 ∙ ap (λ r. word number ++ r) (e2 ∙ ap (λ r. word names ++ (word flags ++ (word numbers ++ (word offsets ++ (word table ++ r))))) e3))

held_taken : (parts : Parts) (number : ℕ) (sizes : Sizes) (file header behind padding rest : List ℕ)
    → file ≡ word number ++ header → number ≡ magic parts.form → TakesSizes header sizes behind
    → TakesSections parts.form sizes behind parts padding rest → AreJudged parts
    → HasSections (held_of parts padding) file (entry_of parts) rest
unfolding held_of entry_of
held_taken parts number sizes file header behind padding rest front form head body right =
    let numbers = numbers_whole parts.form parts.numbers sizes.numbers body.numbers_small body.numbers in
    let offsets = words_whole parts.offsets sizes.offsets body.offsets_small body.offsets in
    record {
      whole = whole_joins file header behind number sizes.names sizes.flags sizes.numbers sizes.offsets sizes.table parts.form
          parts.names parts.flags padding parts.numbers parts.offsets parts.table rest (numbers_in parts.form parts.numbers) (words parts.offsets)
          front form head.whole body.whole body.names body.flags numbers.1 offsets.1 body.table numbers.0 offsets.0;
      names_size = subst (λ n. n < 32768) (sym body.names) head.names;
      flags_size = subst (λ n. n ≤ 44) (sym body.flags) head.flags;
      padding_size = rw (body.names, body.flags) body.padding_size;
      numbers_size = subst (λ n. n ≤ 39) (sym numbers.1) head.numbers;
      offsets_size = subst (λ n. n ≤ 414) (sym offsets.1) head.offsets;
      table_size = subst (λ n. n < 32768) (sym body.table) head.table;
      names = (ends_taken parts.names right.names, stands_taken parts.names (ends_any parts.names right.names));
      flags = flags_taken parts.flags right.flags;
      numbers = numbers_taken parts.form (numbers_in parts.form parts.numbers) (numbers_small parts.form parts.numbers body.numbers_small) right.numbers;
      strings = strings_taken parts.table (words parts.offsets) (words_small parts.offsets body.offsets_small) right.strings;
      values = refl;
    }

parts_taken : (file : List ℕ) (parts : Parts) → AreBytes file → parts_of file ≡ Ok parts → (rest : List ℕ) × IsPacked file (entry_of parts) rest
unfolding parts_of
parts_taken file parts small h =
    let front = bind_ok (word_of file) _ parts h in
    let a = word_taken file front.0 small front.1 in
    let form = bind_ok (form_of front.0.0) _ parts front.2 in
    let sizes = bind_ok (sizes_of front.0.1) _ parts form.2 in
    let b = sizes_taken front.0.1 sizes.0 a.1 sizes.1 in
    let sections = bind_ok (sections_of form.0 sizes.0.0 sizes.0.1) _ parts sizes.2 in
    let c = sections_taken form.0 sizes.0.0 sizes.0.1 sections.0 b.small sections.1 in
    let right = bind_ok (parts_judged sections.0) _ parts sections.2 in
    let judged_right = judged_taken sections.0 (right.1 ∙ ap (λ x. Ok x) (unit_same right.0)) in
    let same : sections.0 ≡ parts = ok_same sections.0 parts right.2 in
    let is_form : form.0 ≡ sections.0.form = sym c.2.form_is in
    let body = subst (λ f. TakesSections f sizes.0.0 sizes.0.1 sections.0 c.0 c.1) is_form c.2 in
    let number = form_taken front.0.0 form.0 form.1 ∙ ap magic is_form in
    let held = held_taken sections.0 front.0.0 sizes.0.0 file front.0.1 sizes.0.1 c.0 c.1 a.0 number b body judged_right in
    subst (λ p. (rest : List ℕ) × IsPacked file (entry_of p) rest) same (c.1, (held_of sections.0 c.0, held))

pub read_is_packed : ReadIsPacked
unfolding read_of
read_is_packed file entry small h =
    let parts = bind_ok (parts_of file) (λ p. Ok (entry_of p)) entry h in
    subst (λ e. (rest : List ℕ) × IsPacked file e rest) (ok_same (entry_of parts.0) entry parts.2) (parts_taken file parts.0 small parts.1)
