-- A word of hexadecimal digits, read and written.
use Rattle.std.proofs.Common.{◌≡◌, ℕ, ◌+◌, ◌-◌, ◌*◌, ◌/◌, ◌%◌, ◌<◌, ◌≤◌, ◌==◌, ◌&&◌, nat_le, nat_lt, not, Bool, true, false, if◌then◌else◌, suc, List, [], ◌∷◌, length, Option, Some, None, Result, Ok, Err, refl, sym, ap, ◌∙◌, subst, arith}
use Rattle.std.specs.Prelude.{slice_index, bytes_eq}
use Rattle.std.specs.List.{list_all}
use Rattle.std.proofs.lemmas.Bool.{agree_below, agree_below_at, and_from, and_parts, ltb-true, leb-true, eqb-true}
use Rattle.std.proofs.lemmas.Bool.Decides.{nat_tests}
use Rattle.std.proofs.lemmas.Option.{same_Some, none-some}
use Rattle.std.proofs.lemmas.Slice.Eq.{bytes_eq-Decides}
use Rattle.hex.specs.Hex.{◌>>=◌, encode_with, encode_lower, decode_of, decode_pairs, pair_value, value_at, digit_or_error, hex_digit_value, lower_digits, IsBytes}
use Rattle.hex.specs.declared.error.FromHexError.{FromHexError}
use Rattle.hex.proofs.HexLemmas.{decode_of-encode_lower, decode_of-ok, decode_of-even}
use Rattle.ti_lines.specs.Hex.{hex_text, is_upper, decoded, lacks_upper, has_lower_digits, hex_in}

-- a digit that isn't upper case is the one of its value
abbrev is_own_digit : ℕ → Option ℕ → Bool
is_own_digit c None = true
is_own_digit c (Some v) = (slice_index lower_digits v == c) && nat_lt v 16

unfoldable is_own : ℕ → Bool
is_own c = if is_upper c then true else is_own_digit c (hex_digit_value c)

each_is_own : agree_below is_own (λ _. true) 103 ≡ true
unfolding is_own
each_is_own = refl

-- the digit of a value, and its bound
record Own (c v : ℕ) : Type 0 where
  digit : slice_index lower_digits v ≡ c
  small : v < 16

own_from : (c v : ℕ) (o : Option ℕ) → o ≡ Some v → is_own_digit c o ≡ true → Own c v
own_from c v None e h = absurd (none-some v e)
own_from c v (Some w) e h =
    let p = and_parts (slice_index lower_digits w == c) (nat_lt w 16) h in
    subst (λ (x : ℕ). Own c x) (same_Some w v e) (record { digit = eqb-true _ c p.0; small = ltb-true w 16 p.1 })

chosen_not : (b : Bool) (x : Bool) → (if b then true else x) ≡ true → not b ≡ true → x ≡ true
chosen_not true x h n = cc
chosen_not false x h n = h

if_some : (b : Bool) (x v : ℕ) (o : Option ℕ) (P : Type 0) → (if b then Some x else o) ≡ Some v → (b ≡ true → P) → (o ≡ Some v → P) → P
if_some true x v o P h p q = p refl
if_some false x v o P h p q = q h

digit_small : (c v : ℕ) → hex_digit_value c ≡ Some v → c < 103
digit_small c v h = if_some (nat_le 65 c && nat_le c 70) (c - 55) v _ (c < 103) h (λ t. let le : c ≤ 70 = leb-true c 70 (and_parts (nat_le 65 c) (nat_le c 70) t).1 in omega (arith, le))
    (λ k. if_some (nat_le 97 c && nat_le c 102) (c - 87) v _ (c < 103) k (λ t. let le : c ≤ 102 = leb-true c 102 (and_parts (nat_le 97 c) (nat_le c 102) t).1 in omega (arith, le))
    (λ m. if_some (nat_le 48 c && nat_le c 57) (c - 48) v None (c < 103) m (λ t. let le : c ≤ 57 = leb-true c 57 (and_parts (nat_le 48 c) (nat_le c 57) t).1 in omega (arith, le)) (λ n. absurd (none-some v n))))

own : (c v : ℕ) → hex_digit_value c ≡ Some v → not (is_upper c) ≡ true → Own c v
unfolding is_own
own c v h n = own_from c v (hex_digit_value c) h (chosen_not (is_upper c) (is_own_digit c (hex_digit_value c)) (agree_below_at is_own (λ _. true) 103 c each_is_own (digit_small c v h)) n)

-- a value that `?` finds in the logic of hexadecimal texts
value_found : (c i v : ℕ) (o : Option ℕ) → digit_or_error c i o ≡ Ok v → o ≡ Some v
value_found c i v None h = cc
value_found c i v (Some w) h = cc

record Pair (high low i byte : ℕ) : Type 0 where
  h : ℕ
  l : ℕ
  high_is : hex_digit_value high ≡ Some h
  low_is : hex_digit_value low ≡ Some l
  whole : h * 16 + l ≡ byte

then_value : (h : ℕ) (r : Result ℕ FromHexError) (byte : ℕ) → (r >>= (λ l. Ok (h * 16 + l))) ≡ Ok byte → (l : ℕ) × (r ≡ Ok l) × (h * 16 + l ≡ byte)
then_value h (Ok l) byte e = (l, refl, cc)
then_value h (Err x) byte e = cc

first_value : (r : Result ℕ FromHexError) (f : ℕ → Result ℕ FromHexError) (byte : ℕ) → (r >>= f) ≡ Ok byte → (h : ℕ) × (r ≡ Ok h) × (f h ≡ Ok byte)
first_value (Ok h) f byte e = (h, refl, e)
first_value (Err x) f byte e = cc

pair_found : (high low i byte : ℕ) → pair_value high low i ≡ Ok byte → Pair high low i byte
pair_found high low i byte e =
    let p = first_value (value_at high i) (λ h. value_at low (i + 1) >>= (λ l. Ok (h * 16 + l))) byte e in
    let q = then_value p.0 (value_at low (i + 1)) byte p.2 in
    record { h = p.0; l = q.0; high_is = value_found high i p.0 (hex_digit_value high) p.1; low_is = value_found low (i + 1) q.0 (hex_digit_value low) q.1; whole = q.2 }

more_pairs : (r : Result ℕ FromHexError) (s : Result (List ℕ) FromHexError) (bytes : List ℕ) → (r >>= (λ byte. s >>= (λ rest. Ok (byte ∷ rest)))) ≡ Ok bytes
    → (byte : ℕ) × (rest : List ℕ) × (r ≡ Ok byte) × (s ≡ Ok rest) × (byte ∷ rest ≡ bytes)
more_pairs (Ok byte) (Ok rest) bytes e = (byte, rest, refl, refl, cc)
more_pairs (Ok byte) (Err x) bytes e = cc
more_pairs (Err x) s bytes e = cc

-- the digits of the bytes are the text
pub encoded_again : (i : ℕ) (text bytes : List ℕ) → lacks_upper text ≡ true → decode_pairs i text ≡ Ok bytes → encode_lower bytes ≡ text
unfolding decode_pairs encode_with
encoded_again i [] bytes low e = ap encode_lower (sym (same_ok [] bytes e))
  where
    same_ok : (x y : List ℕ) → ◌≡◌ {A = Result (List ℕ) FromHexError} (Ok x) (Ok y) → x ≡ y
    same_ok x y h = cc
encoded_again i (d ∷ []) bytes low e = cc
encoded_again i (high ∷ l ∷ rest) bytes low e =
    let p = more_pairs (pair_value high l i) (decode_pairs (i + 2) rest) bytes e in
    let d = pair_found high l i p.0 p.2 in
    let a = and_parts (not (is_upper high)) (not (is_upper l) && lacks_upper rest) low in
    let b = and_parts (not (is_upper l)) (lacks_upper rest) a.1 in
    let x = own high d.h d.high_is a.0 in
    let y = own l d.l d.low_is b.0 in
    let upper : p.0 / 16 ≡ d.h = omega (arith, d.whole, y.small) in
    let lower : p.0 % 16 ≡ d.l = omega (arith, d.whole, y.small) in
    ap encode_lower (sym p.4) ∙ ap (λ (n : ℕ). slice_index lower_digits n ∷ slice_index lower_digits (p.0 % 16) ∷ encode_lower p.1) upper
    ∙ ap (λ (n : ℕ). slice_index lower_digits d.h ∷ slice_index lower_digits n ∷ encode_lower p.1) lower
    ∙ ap (λ (n : ℕ). n ∷ slice_index lower_digits d.l ∷ encode_lower p.1) x.digit
    ∙ ap (λ (n : ℕ). high ∷ n ∷ encode_lower p.1) y.digit
    ∙ ap (λ (t : List ℕ). high ∷ l ∷ t) (encoded_again (i + 2) rest p.1 b.1 p.3)

-- a text that is read as bytes is how they are written
pub record IsHex (text bytes : List ℕ) : Type 0 where
  pub spelled : hex_text bytes ≡ text
  pub bytes_are : IsBytes bytes

decoded_some : (r : Result (List ℕ) FromHexError) (bytes : List ℕ) → decoded r ≡ Some bytes → r ≡ Ok bytes
decoded_some (Ok x) bytes h = ap (λ (y : List ℕ). Ok y) (same_Some x bytes h)
decoded_some (Err e) bytes h = absurd (none-some bytes h)

some_hex : (bytes : List ℕ) → 0 < length bytes → hex_text bytes ≡ encode_lower bytes
some_hex [] h = absurd (omega (arith, h))
some_hex (b ∷ bytes) h = refl

if_dash : (b : Bool) (text bytes : List ℕ) (o : Option (List ℕ)) (P : Type 0) → (if b then Some [] else o) ≡ Some bytes → (b ≡ true → [] ≡ bytes → P) → (o ≡ Some bytes → P) → P
if_dash true text bytes o P h p q = p refl (same_Some [] bytes h)
if_dash false text bytes o P h p q = q h

if_lower : (b : Bool) (bytes : List ℕ) (o : Option (List ℕ)) → (if b then o else None) ≡ Some bytes → (b ≡ true) × (o ≡ Some bytes)
if_lower true bytes o h = (refl, h)
if_lower false bytes o h = absurd (none-some bytes h)

no_bytes : IsBytes []
no_bytes i = omega arith

pub hex_written : (text bytes : List ℕ) → hex_in text ≡ Some bytes → IsHex text bytes
hex_written text bytes h = if_dash (bytes_eq text (45 ∷ [])) text bytes _ (IsHex text bytes) h
    (λ t e. subst (λ (b : List ℕ). IsHex text b) e (record { spelled = sym ((bytes_eq-Decides text (45 ∷ [])).0 t); bytes_are = no_bytes }))
    (λ k.
    let p = if_lower (has_lower_digits text) bytes (decoded (decode_of text)) k in
    let q = and_parts (not (length text == 0)) (lacks_upper text) p.0 in
    let d : decode_of text ≡ Ok bytes = decoded_some (decode_of text) bytes p.1 in
    let o = decode_of-ok text bytes d in
    let some : 0 < length bytes = digits_there text bytes q.0 o.2 in
    record {
      spelled = some_hex bytes some ∙ encoded_again 0 text bytes q.1 (sym (decode_of-even text o.0) ∙ d);
      bytes_are = o.3;
    })
  where
    digits_there : (text bytes : List ℕ) → not (length text == 0) ≡ true → length text ≡ 2 * length bytes → 0 < length bytes
    digits_there [] bytes h e = cc
    digits_there (c ∷ text) bytes h e = omega (arith, e)

-- a text of bytes is read as those bytes
pub encoded_each : (test : ℕ → Bool) → agree_below (λ v. test (slice_index lower_digits v)) (λ _. true) 16 ≡ true → (bytes : List ℕ) → IsBytes bytes → list_all test (encode_lower bytes) ≡ true
unfolding encode_with
encoded_each test each [] h = refl
encoded_each test each (b ∷ bytes) h =
    let small : b < 256 = h 0 in
    and_from _ _ (digit (b / 16) (omega (arith, small))) (and_from _ _ (digit (b % 16) (omega arith)) (encoded_each test each bytes (λ i. h (suc i))))
  where
    digit : (v : ℕ) → v < 16 → test (slice_index lower_digits v) ≡ true
    digit v lt = agree_below_at (λ v. test (slice_index lower_digits v)) (λ _. true) 16 v each lt

encoded_lower : (bytes : List ℕ) → IsBytes bytes → lacks_upper (encode_lower bytes) ≡ true
encoded_lower bytes h = encoded_each (λ d. not (is_upper d)) refl bytes h

and_false : (x : Bool) → (x && false) ≡ false
and_false true = refl
and_false false = refl

not_dash : (b : ℕ) (bytes : List ℕ) → bytes_eq (encode_lower (b ∷ bytes)) (45 ∷ []) ≡ false
unfolding encode_with
not_dash b bytes = and_false (slice_index lower_digits (b / 16) == 45)

no_zero : (x : ℕ) (xs : List ℕ) → not (length (x ∷ xs) == 0) ≡ true
no_zero x xs = let e : (length (x ∷ xs) == 0) ≡ false = grind (arith, nat_tests) in ap not e

digits_written : (b : ℕ) (bytes : List ℕ) → not (length (encode_lower (b ∷ bytes)) == 0) ≡ true
unfolding encode_with
digits_written b bytes = no_zero (slice_index lower_digits (b / 16)) (slice_index lower_digits (b % 16) ∷ encode_lower bytes)

pub hex_read : (bytes : List ℕ) → IsBytes bytes → hex_in (hex_text bytes) ≡ Some bytes
hex_read [] h = refl
hex_read (b ∷ bytes) h =
    let text = encode_lower (b ∷ bytes) in
    ap (λ (t : Bool). if t then Some [] else (if has_lower_digits text then decoded (decode_of text) else None)) (not_dash b bytes)
    ∙ ap (λ (t : Bool). if t then decoded (decode_of text) else None) (and_from (not (length text == 0)) (lacks_upper text) (digits_written b bytes) (encoded_lower (b ∷ bytes) h))
    ∙ ap decoded (decode_of-encode_lower (b ∷ bytes) h)
