-- A control sequence of digits, its function, and the character sets that it keeps.
use Rattle.std.proofs.Common.{◌≡◌, ℕ, ◌-◌, ◌^◌, ◌<◌, ◌≤◌, ◌&&◌, Bool, true, false, if◌then◌else◌, map, List, [], ◌∷◌, ◌++◌, length, take, get_or, min, Option, Some, refl, sym, ap, ◌∙◌, inl, inr, arith, length-append, append_assoc, lit<}
use Rattle.std.proofs.lemmas.Fmt.{length-decimal-le}
use Rattle.std.proofs.lemmas.List.{take_at, get_or_at}
use Rattle.std.specs.Fmt as std
use Rattle.std.specs.List.{AllByRecursion, list_all}
use Rattle.vt_term.specs.Text.{IsFinal, IsParameter, IsWhole}
use Rattle.vt_term.specs.Parameters.{number_of, numbers, is_numeral}
use Rattle.vt_term.specs.Function.{function_of, marked, named, of_numbers, sequence}
use Rattle.vt_term.proofs.Decimals as numerals
use Rattle.vt_term.proofs.Moves.{SpellsNumber, spells}
use Rattle.ti_forms.specs.Forms.{with_number, with_numbers}

named_by : (front : List ℕ) (last : ℕ) → sequence (front ++ last ∷ []) ≡ named last front
named_by front last =
    let n : length (front ++ last ∷ []) - 1 ≡ length front = omega (arith, length-append front (last ∷ [])) in
    let b : get_or (front ++ last ∷ []) (length (front ++ last ∷ []) - 1) 0 ≡ last = get_or_at front last [] 0 _ (sym n) in
    let f : take (length (front ++ last ∷ []) - 1) (front ++ last ∷ []) ≡ front = take_at front (last ∷ []) _ (sym n) in
    ap (λ (k : ℕ). named k (take (length (front ++ last ∷ []) - 1) (front ++ last ∷ []))) b ∙ ap (λ (l : List ℕ). named last l) f

-- a number that fits a machine number
pub small : (n : ℕ) → n ≤ 501 → n < 2 ^ 64
small n le = omega (arith, le, lit< {m = 502} {n = 2 ^ 64} tt)

spelled_number : (n : ℕ) (ds : List ℕ) → n ≤ 65535 → SpellsNumber n ds → number_of ds ≡ Some n
spelled_number n [] le h = absurd (omega (arith, h.some))
spelled_number n (d ∷ ds) le h = ap (λ (k : ℕ). Some k) (ap (λ (k : ℕ). min 65535 k) h.value ∙ omega (arith, le))

number_read : (n : ℕ) → n ≤ 501 → number_of (std.decimal n) ≡ Some n
number_read n h = spelled_number n (std.decimal n) (omega (arith, h)) (spells n (small n h))

-- the bytes between CSI and the final byte, for two numbers
front_of : ℕ → ℕ → List ℕ
front_of m n = std.decimal m ++ 59 ∷ std.decimal n

body_of : (m n last : ℕ) → with_numbers m n last ≡ 27 ∷ 91 ∷ (front_of m n ++ last ∷ [])
unfolding front_of
body_of m n last = ap (λ (l : List ℕ). 27 ∷ 91 ∷ l) (sym (append_assoc (std.decimal m) (59 ∷ std.decimal n) (last ∷ [])))

and_weaker : (a b c : Bool) → (b ≡ true → c ≡ true) → (a && b) ≡ true → (a && c) ≡ true
and_weaker true b c f h = f h
and_weaker false b c f h = h

all_numeral : (xs ys : List ℕ) → list_all is_numeral xs ≡ true → list_all is_numeral ys ≡ true → list_all is_numeral (xs ++ ys) ≡ true
all_numeral [] ys h k = k
all_numeral (x ∷ xs) ys h k = and_weaker (is_numeral x) (list_all is_numeral xs) (list_all is_numeral (xs ++ ys)) (λ e. all_numeral xs ys e k) h

front_numeral : (m n : ℕ) → m ≤ 501 → n ≤ 501 → list_all is_numeral (front_of m n) ≡ true
unfolding front_of
front_numeral m n h k = all_numeral (std.decimal m) (59 ∷ std.decimal n) (spells m (small m h)).numeral (spells n (small n k)).numeral

front_numbers : (m n : ℕ) → m ≤ 501 → n ≤ 501 → numbers (front_of m n) ≡ Some m ∷ Some n ∷ []
unfolding front_of
front_numbers m n h k =
    ap (λ (l : List (List ℕ)). map number_of l) (numerals.pieces_piece (std.decimal m) (std.decimal n) (spells m (small m h)).no_semicolon)
    ∙ ap (λ (l : List (Option ℕ)). number_of (std.decimal m) ∷ l) (numerals.numbers_last (std.decimal n) (spells n (small n k)).no_semicolon)
    ∙ ap (λ (x : Option ℕ). x ∷ number_of (std.decimal n) ∷ []) (number_read m h)
    ∙ ap (λ (x : Option ℕ). Some m ∷ x ∷ []) (number_read n k)

numbers_one : (n : ℕ) → n ≤ 501 → numbers (std.decimal n) ≡ Some n ∷ []
numbers_one n h = numerals.numbers_last (std.decimal n) (spells n (small n h)).no_semicolon ∙ ap (λ (x : Option ℕ). x ∷ []) (number_read n h)

if_true : {A : Type 0} (b : Bool) (x y : A) → b ≡ true → (if b then x else y) ≡ x
if_true b x y e = rw e refl

-- a sequence of digits and semicolons names the function of its numbers
by_digits : (front : List ℕ) (last : ℕ) (ns : List (Option ℕ)) → list_all is_numeral front ≡ true → numbers front ≡ ns → named last front ≡ of_numbers last ns
by_digits front last ns h e =
    if_true (list_all is_numeral front) (of_numbers last (numbers front)) (marked last front) h
    ∙ ap (λ (l : List (Option ℕ)). of_numbers last l) e

pub number_function : (n last : ℕ) → n ≤ 501 → function_of (with_number n last) ≡ of_numbers last (Some n ∷ [])
number_function n last h = named_by (std.decimal n) last ∙ by_digits (std.decimal n) last (Some n ∷ []) (spells n (small n h)).numeral (numbers_one n h)

pub numbers_function : (m n last : ℕ) → m ≤ 501 → n ≤ 501 → function_of (with_numbers m n last) ≡ of_numbers last (Some m ∷ Some n ∷ [])
numbers_function m n last h k =
    ap function_of (body_of m n last)
    ∙ named_by (front_of m n) last
    ∙ by_digits (front_of m n) last (Some m ∷ Some n ∷ []) (front_numeral m n h k) (front_numbers m n h k)

-- the sequences are tokens
digits_few : (n : ℕ) → n ≤ 501 → length (std.decimal n) ≤ 3
digits_few n h = length-decimal-le 3 n (omega arith) (omega (arith, h)) (small n h)

number_short : (n last : ℕ) → n ≤ 501 → length (with_number n last) ≤ 256
number_short n last h = omega (arith, digits_few n h, length-append (std.decimal n) (last ∷ []))

front_short : (m n : ℕ) → m ≤ 501 → n ≤ 501 → length (front_of m n) ≤ 7
unfolding front_of
front_short m n h k = omega (arith, digits_few m h, digits_few n k, length-append (std.decimal m) (59 ∷ std.decimal n))

numbers_short : (m n last : ℕ) → m ≤ 501 → n ≤ 501 → length (with_numbers m n last) ≤ 256
numbers_short m n last h k = omega (arith, front_short m n h k, ap (λ (l : List ℕ). length l) (body_of m n last), length-append (front_of m n) (last ∷ []))

front_parameters : (m n : ℕ) → m ≤ 501 → n ≤ 501 → AllByRecursion IsParameter (front_of m n)
unfolding front_of
front_parameters m n h k = numerals.all_append IsParameter (std.decimal m) (59 ∷ std.decimal n) (spells m (small m h)).parameters ((omega arith, omega arith), (spells n (small n k)).parameters)

pub number_token : (n last : ℕ) → n ≤ 501 → IsFinal last → IsWhole (with_number n last)
number_token n last h f = inr (inl (record {
  parameters = std.decimal n;
  intermediates = [];
  final = last;
  spelled = refl;
  each_parameter = (spells n (small n h)).parameters;
  each_intermediate = tt;
  ends = f;
  short = number_short n last h;
}))

pub numbers_token : (m n last : ℕ) → m ≤ 501 → n ≤ 501 → IsFinal last → IsWhole (with_numbers m n last)
numbers_token m n last h k f = inr (inl (record {
  parameters = front_of m n;
  intermediates = [];
  final = last;
  spelled = body_of m n last;
  each_parameter = front_parameters m n h k;
  each_intermediate = tt;
  ends = f;
  short = numbers_short m n last h k;
}))
