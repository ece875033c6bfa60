-- Names of capabilities and decimal numbers have only letters and digits.
use Rattle.std.proofs.Common.{◌≡◌, ℕ, ◌+◌, ◌*◌, ◌-◌, ◌/◌, ◌%◌, ◌^◌, ◌<◌, ◌≤◌, zero, suc, Bool, true, false, not, ◌&&◌, ◌||◌, List, [], ◌∷◌, ◌++◌, length, get_or, Option, Some, None, Ok, Err, refl, sym, ap, ◌∙◌, ⊎_elim, arith}
use Rattle.std.specs.Prelude.{if◌then◌else◌, ◌==◌, nat_le, nat_lt, option_map, option_and_then, is_some, decimal}
use Rattle.std.specs.List.{list_all}
use Rattle.std.proofs.lemmas.Bool.{and_parts, ltb-true, not-true, agree_below, agree_below_at, cases_eq}
use Rattle.std.proofs.lemmas.Bool.Decides.{nat_tests}
use Rattle.std.proofs.lemmas.Fmt.{decimal_by_steps, decimal_digit, first_decimal}
use Rattle.std.proofs.lemmas.List.Folds.{list_all-append}
use Rattle.ti_caps.specs.Table.{name_at, row_at}
use Rattle.ti_source.specs.declared.layout.Mark.{Mark}
use Rattle.ti_source.specs.declared.types.FaultKind.TheVariants as faults
use Rattle.ti_source.specs.Fields.{is_use, is_skipped}
use Rattle.ti_source.specs.Layout.{is_white, skip_white, trim_end, mark_of, marked_with, marked_at, onto_name, marked_in}
use Rattle.ti_source.specs.Numbers.{below_base, digit_in, digits_from, behind_zero, spelled_number, ranged, number_of}
use Rattle.ti_source.proofs.Layouts.{not_trimmed}
use Rattle.ti_source.proofs.Spellings.{both_true, is_inline, is_mute, Passes, passes_both, mute_passes}

-- a letter or a digit
abbrev pub is_word_byte : ℕ → Bool
is_word_byte b = (nat_le 48 b && nat_le b 57) || ((nat_le 65 b && nat_le b 90) || (nat_le 97 b && nat_le b 122))

unfoldable is_safe : ℕ → Bool
is_safe b = not (is_word_byte b) || (not (is_white b) && (not (b == 46) && (not (is_some (mark_of b)) && (is_mute b && is_inline b))))

each_is_safe : agree_below is_safe (λ _. true) 123 ≡ true
unfolding is_safe is_mute
each_is_safe = refl

pub record WordByte (b : ℕ) : Type 0 where
  pub white : is_white b ≡ false
  pub period : (b == 46) ≡ false
  pub mark : mark_of b ≡ None
  pub mute : is_mute b ≡ true
  pub inline : is_inline b ≡ true

pub none_there : {A : Type 0} (o : Option A) → is_some o ≡ false → o ≡ None
none_there None e = refl
none_there (Some x) e = cc

word_small : (b : ℕ) → is_word_byte b ≡ true → b < 123
word_small b e = grind (arith, nat_tests)

pub word_byte : (b : ℕ) → is_word_byte b ≡ true → WordByte b
unfolding is_safe
word_byte b e =
    let safe : is_safe b ≡ true = agree_below_at is_safe (λ _. true) 123 b each_is_safe (word_small b e) in
    let inner = ap (λ t. not t || (not (is_white b) && (not (b == 46) && (not (is_some (mark_of b)) && (is_mute b && is_inline b))))) (sym e) ∙ safe in
    let a = and_parts (not (is_white b)) (not (b == 46) && (not (is_some (mark_of b)) && (is_mute b && is_inline b))) inner in
    let c = and_parts (not (b == 46)) (not (is_some (mark_of b)) && (is_mute b && is_inline b)) a.1 in
    let d = and_parts (not (is_some (mark_of b))) (is_mute b && is_inline b) c.1 in
    let f = and_parts (is_mute b) (is_inline b) d.1 in
    record {
      white = not-true (is_white b) a.0;
      period = not-true (b == 46) c.0;
      mark = none_there (mark_of b) (not-true (is_some (mark_of b)) d.0);
      mute = f.0;
      inline = f.1;
    }

abbrev pub is_word : List ℕ → Bool
is_word xs = list_all is_word_byte xs

pub word_passes : (xs : List ℕ) → is_word xs ≡ true → Passes xs
word_passes [] e = λ rest. refl
word_passes (b ∷ xs) e =
    let parts = and_parts (is_word_byte b) (is_word xs) e in
    passes_both (b ∷ []) xs (mute_passes b (word_byte b parts.0).mute) (word_passes xs parts.1)

pub word_inline : (xs : List ℕ) → is_word xs ≡ true → list_all is_inline xs ≡ true
word_inline [] e = refl
word_inline (b ∷ xs) e =
    let parts = and_parts (is_word_byte b) (is_word xs) e in
    both_true (is_inline b) (list_all is_inline xs) (word_byte b parts.0).inline (word_inline xs parts.1)

pub word_skips : (xs rest : List ℕ) → is_word xs ≡ true → 0 < length xs → skip_white (xs ++ rest) ≡ xs ++ rest
word_skips [] rest e h = absurd (omega arith)
word_skips (b ∷ xs) rest e h = ap (λ t. if t then skip_white (xs ++ rest) else b ∷ (xs ++ rest)) (word_byte b (and_parts (is_word_byte b) (is_word xs) e).0).white

pub word_read : (xs rest : List ℕ) → is_word xs ≡ true → 0 < length xs → is_skipped (xs ++ rest) ≡ false
word_read [] rest e h = absurd (omega arith)
word_read (b ∷ xs) rest e h = (word_byte b (and_parts (is_word_byte b) (is_word xs) e).0).period

pub word_marked : (xs value : List ℕ) (m : ℕ) (mark : Mark) → is_word xs ≡ true → mark_of m ≡ Some mark → marked_in (xs ++ (m ∷ value)) ≡ Some (marked_with xs mark value)
word_marked [] value m mark e h = ap (λ o. marked_at o m value (marked_in value)) h
word_marked (b ∷ xs) value m mark e h =
    let parts = and_parts (is_word_byte b) (is_word xs) e in
    ap (λ o. marked_at o b (xs ++ (m ∷ value)) (marked_in (xs ++ (m ∷ value)))) (word_byte b parts.0).mark
    ∙ ap (option_map (onto_name b)) (word_marked xs value m mark parts.1 h)

pub word_unmarked : (xs : List ℕ) → is_word xs ≡ true → marked_in xs ≡ None
word_unmarked [] e = refl
word_unmarked (b ∷ xs) e =
    let parts = and_parts (is_word_byte b) (is_word xs) e in
    ap (λ o. marked_at o b xs (marked_in xs)) (word_byte b parts.0).mark ∙ ap (option_map (onto_name b)) (word_unmarked xs parts.1)

word_at : (xs : List ℕ) (i : ℕ) → is_word xs ≡ true → i < length xs → is_word_byte (get_or xs i 0) ≡ true
word_at [] i e h = absurd (omega arith)
word_at (b ∷ xs) zero e h = (and_parts (is_word_byte b) (is_word xs) e).0
word_at (b ∷ xs) (suc i) e h = word_at xs i (and_parts (is_word_byte b) (is_word xs) e).1 (omega arith)

pub word_trimmed : (xs : List ℕ) → is_word xs ≡ true → 0 < length xs → trim_end xs ≡ xs
word_trimmed xs e h = sym (not_trimmed xs h (word_byte (get_or xs (length xs - 1) 0) (word_at xs (length xs - 1) e (omega arith))).white)

-- the names of the table
unfoldable is_name : ℕ → Bool
is_name place = nat_lt 0 (length (name_at place)) && (is_word (name_at place) && not (is_use (name_at place)))

each_is_name : agree_below is_name (λ _. true) 497 ≡ true
unfolding is_name name_at row_at
each_is_name = refl

pub record NameWord (place : ℕ) : Type 0 where
  pub some : 0 < length (name_at place)
  pub word : is_word (name_at place) ≡ true
  pub no_use : is_use (name_at place) ≡ false

pub name_word : (place : ℕ) → place < 497 → NameWord place
unfolding is_name
name_word place h =
    let good : is_name place ≡ true = agree_below_at is_name (λ _. true) 497 place each_is_name h in
    let a = and_parts (nat_lt 0 (length (name_at place))) (is_word (name_at place) && not (is_use (name_at place))) good in
    let b = and_parts (is_word (name_at place)) (not (is_use (name_at place))) a.1 in
    record { some = ltb-true 0 (length (name_at place)) a.0; word = b.0; no_use = not-true (is_use (name_at place)) b.1 }

-- decimal numbers
join_step : (base before : ℕ) (xs ys : List ℕ) (digit : Option ℕ) → ((n : ℕ) → digits_from base n (xs ++ ys) ≡ option_and_then (λ k. digits_from base k ys) (digits_from base n xs)) → option_and_then (λ d. digits_from base (before * base + d) (xs ++ ys)) digit ≡ option_and_then (λ k. digits_from base k ys) (option_and_then (λ d. digits_from base (before * base + d) xs) digit)
join_step base before xs ys None h = refl
join_step base before xs ys (Some d) h = h (before * base + d)

digits_join : (base before : ℕ) (xs ys : List ℕ) → digits_from base before (xs ++ ys) ≡ option_and_then (λ n. digits_from base n ys) (digits_from base before xs)
digits_join base before [] ys = refl
digits_join base before (b ∷ xs) ys = join_step base before xs ys (digit_in base b) (λ n. digits_join base n xs ys)

pub digit_reads : (digit : ℕ) → digit < 10 → digit_in 10 (48 + digit) ≡ Some digit
unfolding digit_in
digit_reads digit h =
    let back : 48 + digit - 48 ≡ digit = omega arith in
    let low : nat_le 48 (48 + digit) ≡ true = grind (arith, nat_tests) in
    let high : nat_le (48 + digit) 57 ≡ true = grind (arith, nat_tests) in
    let small : nat_lt digit 10 ≡ true = grind (arith, nat_tests) in
    ap (λ t. below_base 10 (if t then Some (48 + digit - 48) else (if nat_le 97 (48 + digit) && nat_le (48 + digit) 102 then Some (48 + digit - 87) else (if nat_le 65 (48 + digit) && nat_le (48 + digit) 70 then Some (48 + digit - 55) else None)))) (both_true (nat_le 48 (48 + digit)) (nat_le (48 + digit) 57) low high)
    ∙ (ap (λ n. below_base 10 (Some n)) back ∙ ap (λ t. if t then Some digit else None) small)

digit_word : (digit : ℕ) → digit < 10 → is_word_byte (48 + digit) ≡ true
digit_word digit h = grind (arith, nat_tests)

pub record IsDecimal (n : ℕ) (ds : List ℕ) : Type 0 where
  pub word : is_word ds ≡ true
  pub some : 0 < length ds
  pub value : digits_from 10 0 ds ≡ Some n

one_digit : (n : ℕ) → n < 10 → IsDecimal n ((48 + n) ∷ [])
one_digit n h = record {
  word = ap (λ t. t && true) (digit_word n h);
  some = omega arith;
  value = ap (option_and_then (λ d. digits_from 10 (0 * 10 + d) [])) (digit_reads n h) ∙ (let e : 0 * 10 + n ≡ n = omega arith in ap Some e);
}

longer : (ds : List ℕ) (b : ℕ) → 0 < length (ds ++ b ∷ [])
longer [] b = omega arith
longer (d ∷ ds) b = omega arith

more_digits : (n : ℕ) (ds : List ℕ) → 10 ≤ n → IsDecimal (n / 10) ds → IsDecimal n (ds ++ ((48 + n % 10) ∷ []))
more_digits n ds h d =
    let small : n % 10 < 10 = omega arith in
    let e : n / 10 * 10 + n % 10 ≡ n = omega arith in
    record {
      word = list_all-append is_word_byte ds ((48 + n % 10) ∷ []) ∙ both_true (is_word ds) (is_word ((48 + n % 10) ∷ [])) d.word (ap (λ t. t && true) (digit_word (n % 10) small));
      some = longer ds (48 + n % 10);
      value =
          digits_join 10 0 ds ((48 + n % 10) ∷ [])
          ∙ (ap (option_and_then (λ k. digits_from 10 k ((48 + n % 10) ∷ []))) d.value
          ∙ (ap (option_and_then (λ k. digits_from 10 (n / 10 * 10 + k) [])) (digit_reads (n % 10) small) ∙ ap Some e));
    }

pub decimal_is : (n : ℕ) → n < 2 ^ 64 → IsDecimal n (decimal n)
decimal_is n h = decimal_by_steps IsDecimal one_digit more_digits n h

leading : (n : ℕ) (ds : List ℕ) → 48 < get_or ds 0 0 → digits_from 10 0 ds ≡ Some n → spelled_number ds ≡ Some n
unfolding spelled_number
leading n [] h e = absurd (omega arith)
leading n (b ∷ rest) h e =
    let other : (b == 48) ≡ false = grind (arith, nat_tests) in
    ap (λ t. if t then behind_zero rest else digits_from 10 0 (b ∷ rest)) other ∙ e

decimal_spelled : (n : ℕ) → n < 2 ^ 64 → spelled_number (decimal n) ≡ Some n
unfolding spelled_number
decimal_spelled n h =
    ⊎_elim (λ (e : n ≡ 0). ap spelled_number (ap decimal e ∙ decimal_digit 0 (omega arith)) ∙ ap Some (sym e))
    (λ (e : n ≡ 0 → ⊥). leading n (decimal n) (first_decimal n (omega arith) h) (decimal_is n h).value) (cases_eq n 0)

pub number_reads : (n : ℕ) → n < 2 ^ 31 → number_of (decimal n) ≡ Ok n
unfolding number_of
number_reads n h =
    let wide : n < 2 ^ 64 = omega arith in
    let d = decimal_is n wide in
    let inside : nat_le n 2147483647 ≡ true = grind (arith, nat_tests) in
    ap (λ xs. ranged (spelled_number xs)) (word_trimmed (decimal n) d.word d.some) ∙ (ap ranged (decimal_spelled n wide) ∙ ap (λ t. if t then Ok n else Err faults.NumberRange) inside)
