-- A move to a place of the display: the digits of its numbers, and its step.
use Rattle.std.proofs.Common.{◌≡◌, ℕ, ◌+◌, ◌-◌, ◌*◌, ◌/◌, ◌%◌, ◌^◌, ◌<◌, ◌≤◌, ◌==◌, ◌&&◌, Bool, true, false, min, map, List, [], ◌∷◌, ◌++◌, length, take, get_or, refl, sym, ap, ◌∙◌, inl, inr, arith, length-append, append_assoc, Option, Some, lit<, rules}
use Rattle.std.proofs.lemmas.Bool.Decides.{nat_tests}
use Rattle.std.proofs.lemmas.Fmt.{decimal_by_steps, length-decimal-le}
use Rattle.std.proofs.lemmas.List.{take_at, get_or_at}
use Rattle.std.specs.List.{AllByRecursion, list_all}
use Rattle.std.specs.Fmt as std
use Rattle.vt_term.specs.Text.{IsParameter, IsWhole}
use Rattle.vt_term.specs.Parameters.{decimal, number_of, numbers, is_numeral}
use Rattle.vt_term.specs.Function.{CursorPosition, counted, function_of, named, sequence, cursor_position}
use Rattle.vt_term.proofs.Decimals as numerals
use Rattle.vt_term.specs.Moves.{cursor_to}

-- the digits of a number, as a terminal reads them
pub record SpellsNumber (n : ℕ) (ds : List ℕ) : Type 0 where
  pub some : 0 < length ds
  pub parameters : AllByRecursion IsParameter ds
  pub no_semicolon : AllByRecursion (λ b. (b == 59) ≡ false) ds
  pub numeral : list_all is_numeral ds ≡ true
  pub value : decimal 0 ds ≡ n

all_push : (P : ℕ → Type 0) (xs : List ℕ) (y : ℕ) → AllByRecursion P xs → P y → AllByRecursion P (xs ++ y ∷ [])
all_push P [] y h k = (k, tt)
all_push P (x ∷ xs) y h k = (h.0, all_push P xs y h.1 k)

and_weaker : (a b c : Bool) → (b ≡ true → c ≡ true) → (a && b) ≡ true → (a && c) ≡ true
and_weaker true b c f h = f h
and_weaker false b c f h = h

numeral_push : (xs : List ℕ) (y : ℕ) → list_all is_numeral xs ≡ true → is_numeral y ≡ true → list_all is_numeral (xs ++ y ∷ []) ≡ true
numeral_push [] y h k = rw k refl
numeral_push (x ∷ xs) y h k = and_weaker (is_numeral x) (list_all is_numeral xs) (list_all is_numeral (xs ++ y ∷ [])) (λ e. numeral_push xs y e k) h

decimal_push : (n : ℕ) (ds : List ℕ) (d : ℕ) → decimal n (ds ++ d ∷ []) ≡ 10 * decimal n ds + (d - 48)
decimal_push n [] d = refl
decimal_push n (e ∷ ds) d = decimal_push (10 * n + (e - 48)) ds d

is_digit : (d : ℕ) → 48 ≤ d → d ≤ 57 → is_numeral d ≡ true
is_digit d h k = grind (arith, nat_tests)

no_semicolon : (d : ℕ) → d ≤ 57 → (d == 59) ≡ false
no_semicolon d h = grind (arith, nat_tests)

one_digit : (n : ℕ) → n < 10 → SpellsNumber n ((48 + n) ∷ [])
one_digit n lt = record {
  some = lit< tt;
  parameters = ((omega arith, omega arith), tt);
  no_semicolon = (no_semicolon (48 + n) (omega arith), tt);
  numeral = rw (is_digit (48 + n) (omega arith) (omega arith)) refl;
  value = omega arith;
}

more_digits : (n : ℕ) (ds : List ℕ) → 10 ≤ n → SpellsNumber (n / 10) ds → SpellsNumber n (ds ++ ((48 + n % 10) ∷ []))
more_digits n ds le h = record {
  some = omega (arith, h.some, length-append ds ((48 + n % 10) ∷ []));
  parameters = all_push IsParameter ds (48 + n % 10) h.parameters (omega arith, omega arith);
  no_semicolon = all_push (λ b. (b == 59) ≡ false) ds (48 + n % 10) h.no_semicolon (no_semicolon (48 + n % 10) (omega arith));
  numeral = numeral_push ds (48 + n % 10) h.numeral (is_digit (48 + n % 10) (omega arith) (omega arith));
  value = decimal_push 0 ds (48 + n % 10) ∙ (let v : decimal 0 ds ≡ n / 10 = h.value in omega (arith, v));
}

pub spells : (n : ℕ) → n < 2 ^ 64 → SpellsNumber n (std.decimal n)
spells n lt = decimal_by_steps SpellsNumber one_digit more_digits n lt

all_front : (P : ℕ → Type 0) (xs ys : List ℕ) → AllByRecursion P xs → AllByRecursion P ys → AllByRecursion P (xs ++ ys)
all_front P [] ys h k = k
all_front P (x ∷ xs) ys h k = (h.0, all_front P xs ys h.1 k)

all_numeral : (xs ys : List ℕ) → list_all is_numeral xs ≡ true → list_all is_numeral ys ≡ true → list_all is_numeral (xs ++ ys) ≡ true
all_numeral [] ys h k = k
all_numeral (x ∷ xs) ys h k = and_weaker (is_numeral x) (list_all is_numeral xs) (list_all is_numeral (xs ++ ys)) (λ e. all_numeral xs ys e k) h

-- the numbers of two decimals joined by a semicolon
two_numbers : (m n : ℕ) (xs ys : List ℕ) → SpellsNumber m xs → SpellsNumber n ys → numbers (xs ++ 59 ∷ ys) ≡ number_of xs ∷ number_of ys ∷ []
two_numbers m n xs ys h k =
    ap (λ (l : List (List ℕ)). map number_of l) (numerals.pieces_piece xs ys h.no_semicolon)
    ∙ ap (λ (l : List (Option ℕ)). number_of xs ∷ l) (numerals.numbers_last ys k.no_semicolon)

spelled_number : (n : ℕ) (ds : List ℕ) → n ≤ 65535 → SpellsNumber n ds → number_of ds ≡ Some n
spelled_number n [] le h = absurd (omega (arith, h.some))
spelled_number n (d ∷ ds) le h = ap (λ (k : ℕ). Some k) (ap (λ (k : ℕ). min 65535 k) h.value ∙ omega arith)

-- the bytes of CUP before its final byte
front_of : ℕ → ℕ → List ℕ
front_of row col = std.decimal (row + 1) ++ 59 ∷ std.decimal (col + 1)

move_body : (row col : ℕ) → cursor_to row col ≡ 27 ∷ 91 ∷ (front_of row col ++ 72 ∷ [])
unfolding front_of
move_body row col = ap (λ (l : List ℕ). 27 ∷ 91 ∷ l) (sym (append_assoc (std.decimal (row + 1)) (59 ∷ std.decimal (col + 1)) (72 ∷ [])))

named_by : (front : List ℕ) → sequence (front ++ 72 ∷ []) ≡ named 72 front
named_by front =
    let n : length (front ++ 72 ∷ []) - 1 ≡ length front = omega (arith, length-append front (72 ∷ [])) in
    let b : get_or (front ++ 72 ∷ []) (length (front ++ 72 ∷ []) - 1) 0 ≡ 72 = get_or_at front 72 [] 0 _ (sym n) in
    let f : take (length (front ++ 72 ∷ []) - 1) (front ++ 72 ∷ []) ≡ front = take_at front (72 ∷ []) _ (sym n) in
    ap (λ (k : ℕ). named k (take (length (front ++ 72 ∷ []) - 1) (front ++ 72 ∷ []))) b ∙ ap (λ (l : List ℕ). named 72 l) f

counted_place : (n : ℕ) → counted (Some (n + 1)) ≡ n + 1
counted_place n = omega arith

-- a place that, counted from 1, fits a machine number
small : (n : ℕ) → n ≤ 500 → n + 1 < 2 ^ 64
small n le = omega (arith, lit< {m = 501} {n = 2 ^ 64} tt)

front_numeral : (row col : ℕ) → row ≤ 500 → col ≤ 500 → list_all is_numeral (front_of row col) ≡ true
unfolding front_of
front_numeral row col h k =
    all_numeral (std.decimal (row + 1)) (59 ∷ std.decimal (col + 1)) (spells (row + 1) (small row h)).numeral (spells (col + 1) (small col k)).numeral

front_numbers : (row col : ℕ) → row ≤ 500 → col ≤ 500 → numbers (front_of row col) ≡ Some (row + 1) ∷ Some (col + 1) ∷ []
unfolding front_of
front_numbers row col h k =
    let r : SpellsNumber (row + 1) (std.decimal (row + 1)) = spells (row + 1) (small row h) in
    let q : SpellsNumber (col + 1) (std.decimal (col + 1)) = spells (col + 1) (small col k) in
    two_numbers (row + 1) (col + 1) (std.decimal (row + 1)) (std.decimal (col + 1)) r q
    ∙ ap (λ (x : Option ℕ). x ∷ number_of (std.decimal (col + 1)) ∷ []) (spelled_number (row + 1) (std.decimal (row + 1)) (omega arith) r)
    ∙ ap (λ (x : Option ℕ). Some (row + 1) ∷ x ∷ []) (spelled_number (col + 1) (std.decimal (col + 1)) (omega arith) q)

pub move_function : (row col : ℕ) → row ≤ 500 → col ≤ 500 → function_of (cursor_to row col) ≡ CursorPosition (row + 1) (col + 1)
move_function row col h k =
    let n : list_all is_numeral (front_of row col) ≡ true = front_numeral row col h k in
    ap function_of (move_body row col) ∙ named_by (front_of row col) ∙ rw n (ap cursor_position (front_numbers row col h k)
    ∙ ap (λ (r : ℕ). CursorPosition r (counted (Some (col + 1)))) (counted_place row) ∙ ap (λ (q : ℕ). CursorPosition (row + 1) q) (counted_place col))

front_short : (row col : ℕ) → row ≤ 500 → col ≤ 500 → length (front_of row col) ≤ 7
unfolding front_of
front_short row col h k =
    omega (
      arith,
      length-decimal-le 3 (row + 1) (omega arith) (omega arith) (small row h),
      length-decimal-le 3 (col + 1) (omega arith) (omega arith) (small col k),
      length-append (std.decimal (row + 1)) (59 ∷ std.decimal (col + 1)),
    )

pub move_short : (row col : ℕ) → row ≤ 500 → col ≤ 500 → length (cursor_to row col) ≤ 10
move_short row col h k = omega (arith, front_short row col h k, ap (λ (l : List ℕ). length l) (move_body row col), length-append (front_of row col) (72 ∷ []))

front_parameters : (row col : ℕ) → row ≤ 500 → col ≤ 500 → AllByRecursion IsParameter (front_of row col)
unfolding front_of
front_parameters row col h k =
    all_front IsParameter (std.decimal (row + 1)) (59 ∷ std.decimal (col + 1)) (spells (row + 1) (small row h)).parameters ((omega arith, omega arith), (spells (col + 1) (small col k)).parameters)

pub move_token : (row col : ℕ) → row ≤ 500 → col ≤ 500 → IsWhole (cursor_to row col)
move_token row col h k = inr (inl (record {
  parameters = front_of row col;
  intermediates = [];
  final = 72;
  spelled = move_body row col;
  each_parameter = front_parameters row col h k;
  each_intermediate = tt;
  ends = search rules;
  short = omega (arith, move_short row col h k);
}))
