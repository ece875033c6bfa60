-- Each line of a basic certificate, by itself: its tokens, its effect and its text.
use Rattle.std.proofs.Common.{◌≡◌, ◌<◌, ◌≤◌, ◌+◌, ◌^◌, ℕ, zero, suc, Bool, List, [], ◌∷◌, ◌++◌, length, Some, inl, inr, refl, sym, ap, subst, arith, length-append, lit<}
use Rattle.std.specs.Prelude.{codes}
use Rattle.std.specs.Fmt.{decimal}
use Rattle.std.specs.List.{AllByRecursion}
use Rattle.std.proofs.lemmas.Fmt.{decimal_digit, length-decimal-le}
use Rattle.hex.specs.Hex.{IsBytes, encode_lower, encode_with, lower_digits}
use Rattle.hex.proofs.HexLemmas.{length-encode_with}
use Rattle.vt_term.specs.Size.{IsSize}
use Rattle.vt_term.specs.Text.{Splits, IsParameter}
use Rattle.vt_term.specs.Function.{Function, function_of}
use Rattle.vt_term.specs.Moves.{cursor_to}
use Rattle.vt_term.specs.Screen.{Charset}
use Rattle.vt_term.proofs.Sequences.{all_weaker}
use Rattle.vt_term.proofs.Decimals.{all_append}
use Rattle.vt_term.proofs.Moves.{move_function, move_token, move_short, spells}
use Rattle.vt_effects.specs.Basic.{home_text, clear_text, el_text, sgr0_text}
use Rattle.vt_effects.specs.Record.{record_of}
use Rattle.vt_effects.proofs.Basics.{clear_record, cup_record, sgr0_record, home_record, el_record, erase, home_token, el_token, sgr0_token, one_token, clear_splits}
use Rattle.ti_lines.specs.EffectText.{spelled, row_name, col_name}
use Rattle.ti_conforms.specs.Charsets.{IsAmong, charset_after}
use Rattle.ti_rows.specs.declared.rows.Row.{Row}
use Rattle.ti_rows.specs.declared.rows.Row.TheVariants.{Clear, Cup, Home, El, Sgr0}
use Rattle.ti_rows.specs.Asked.{start_of}
use Rattle.ti_rows.specs.Names.{name_in_order}
use Rattle.ti_lines.specs.declared.row_lines.RowLine.{RowLine}
use Rattle.ti_lines.specs.Heads.{size_text, IsSizeText}
use Rattle.ti_lines.specs.RowLines.{IsLine, line_text}
use Rattle.ti_cert.specs.Certificates.{HasEffect, IsAskedFor}
use Rattle.ti_cert.specs.Basic.{basic_bytes, basic_effect, basic_line}
use Rattle.ti_cert.proofs.BasicOrder.{Kind, IsClear, IsCup, IsEl, IsHome, IsSgr0}

-- ---- tokens and effects

pub tokens_of : Row → List (List ℕ)
tokens_of Clear = home_text ∷ erase ∷ []
tokens_of row = basic_bytes row ∷ []

-- the facts known of a row's tokens
pub record HasTokens (rows cols : ℕ) (row : Row) : Type 0 where
  pub splits : Splits (basic_bytes row) (tokens_of row) []
  pub recorded : record_of rows cols (start_of rows cols row) (tokens_of row) ≡ Some (basic_effect row)
  pub keeps_sets : (token : List ℕ) → IsAmong (tokens_of row) token → (c : Charset) → charset_after (function_of token) c ≡ c

clear_tokens : (rows cols : ℕ) → IsSize rows cols → HasTokens rows cols Clear
unfolding tokens_of erase
clear_tokens rows cols size = record { splits = clear_splits; recorded = clear_record rows cols (start_of rows cols Clear) size (home_text ∷ erase ∷ []) clear_splits; keeps_sets = keeps }
  where
    keeps : (token : List ℕ) → IsAmong (home_text ∷ erase ∷ []) token → (c : Charset) → charset_after (function_of token) c ≡ c
    keeps token (inl e) c = rw e refl
    keeps token (inr (inl e)) c = rw e refl
    keeps token (inr (inr a)) c = absurd a

-- a text of one token changes no charset if the token doesn't
one_keeps : (text : List ℕ) → ((c : Charset) → charset_after (function_of text) c ≡ c) → (token : List ℕ) → IsAmong (text ∷ []) token → (c : Charset) → charset_after (function_of token) c ≡ c
one_keeps text keeps token (inl e) c = rw e (keeps c)
one_keeps text keeps token (inr a) c = absurd a

cup_tokens : (rows cols row col : ℕ) → IsSize rows cols → row < rows → col < cols → HasTokens rows cols (Cup row col)
unfolding tokens_of
cup_tokens rows cols row col size h k = record { splits = splits; recorded = cup_record rows cols row col (start_of rows cols (Cup row col)) size h k (cursor_to row col ∷ []) splits; keeps_sets = one_keeps (cursor_to row col) (λ c. ap (λ (f : Function). charset_after f c) (move_function row col row_small col_small)) }
  where
    row_small : row ≤ 500
    row_small = omega (arith, h, size.1)

    col_small : col ≤ 500
    col_small = omega (arith, k, size.3)

    splits : Splits (cursor_to row col) (cursor_to row col ∷ []) []
    splits = one_token (cursor_to row col) (move_token row col row_small col_small)

home_tokens : (rows cols : ℕ) → IsSize rows cols → HasTokens rows cols Home
unfolding tokens_of
home_tokens rows cols size = record { splits = one_token home_text home_token; recorded = home_record rows cols (start_of rows cols Home) size (home_text ∷ []) (one_token home_text home_token); keeps_sets = one_keeps home_text (λ c. refl) }

el_tokens : (rows cols : ℕ) → HasTokens rows cols El
unfolding tokens_of
el_tokens rows cols = record { splits = one_token el_text el_token; recorded = el_record rows cols (start_of rows cols El) (el_text ∷ []) (one_token el_text el_token); keeps_sets = one_keeps el_text (λ c. refl) }

sgr0_tokens : (rows cols : ℕ) → HasTokens rows cols Sgr0
unfolding tokens_of
sgr0_tokens rows cols = record { splits = one_token sgr0_text sgr0_token; recorded = sgr0_record rows cols (start_of rows cols Sgr0) (sgr0_text ∷ []) (one_token sgr0_text sgr0_token); keeps_sets = one_keeps sgr0_text (λ c. refl) }

-- a row of one of these kinds has what the rows of each kind have
by_kind : (P : Row → Type 0) (rows cols : ℕ) (home el : Bool) (row : Row) → P Clear → ((r c : ℕ) → r < rows → c < cols → P (Cup r c)) → P Home → P El → P Sgr0 → Kind rows cols home el row → P row
by_kind P rows cols home el row at_clear at_cup at_home at_el at_sgr0 (IsClear e) = subst P (sym e) at_clear
by_kind P rows cols home el row at_clear at_cup at_home at_el at_sgr0 (IsCup r c e h k) = subst P (sym e) (at_cup r c h k)
by_kind P rows cols home el row at_clear at_cup at_home at_el at_sgr0 (IsHome there e) = subst P (sym e) at_home
by_kind P rows cols home el row at_clear at_cup at_home at_el at_sgr0 (IsEl there e) = subst P (sym e) at_el
by_kind P rows cols home el row at_clear at_cup at_home at_el at_sgr0 (IsSgr0 e) = subst P (sym e) at_sgr0

pub has_tokens : (rows cols : ℕ) (home el : Bool) (row : Row) → IsSize rows cols → Kind rows cols home el row → HasTokens rows cols row
has_tokens rows cols home el row size kind =
    by_kind (HasTokens rows cols) rows cols home el row (clear_tokens rows cols size) (λ r c h k. cup_tokens rows cols r c size h k) (home_tokens rows cols size) (el_tokens rows cols) (sgr0_tokens rows cols) kind

pub has_effect : (rows cols : ℕ) (row : Row) → HasTokens rows cols row → HasEffect rows cols (basic_line row) (basic_effect row)
has_effect rows cols row h = record { tokens = tokens_of row; splits = h.splits; recorded = h.recorded }

pub is_asked_for : (rows cols : ℕ) (home el : Bool) (before : List RowLine) (row : Row) → Kind rows cols home el row → IsAskedFor before (basic_line row)
is_asked_for rows cols home el before row kind = by_kind (λ r. IsAskedFor before (basic_line r)) rows cols home el row refl (λ r c h k. refl) refl refl refl kind

-- ---- texts

-- a line can be written, and is short
pub record HasText (row : Row) : Type 0 where
  pub line_is : IsLine (basic_line row)
  pub short : length (line_text (basic_line row)) < 100

pub is_bytes : (xs : List ℕ) → AllByRecursion (λ b. b < 256) xs → IsBytes xs
is_bytes [] h i = omega arith
is_bytes (x ∷ xs) h zero = h.0
is_bytes (x ∷ xs) h (suc i) = is_bytes xs h.1 i

-- the bytes of a move
small_number : (n : ℕ) → n < 500 → AllByRecursion (λ b. b < 256) (decimal (n + 1))
small_number n h = all_weaker IsParameter (λ b. b < 256) (λ b p. let q = p.1 in omega (arith, q)) (decimal (n + 1)) (spells (n + 1) (omega (arith, h, lit< {m = 501} {n = 2 ^ 64} tt))).parameters

move_bytes : (row col : ℕ) → row < 500 → col < 500 → AllByRecursion (λ b. b < 256) (cursor_to row col)
move_bytes row col h k = (
  omega arith,
  (
    omega arith,
    all_append (λ b. b < 256) (decimal (row + 1)) (59 ∷ (decimal (col + 1) ++ 72 ∷ [])) (small_number row h)
        (omega arith, all_append (λ b. b < 256) (decimal (col + 1)) (72 ∷ []) (small_number col k) (omega arith, tt)),
  ),
)

-- the texts of the lines without parameters

zero_digit : decimal 0 ≡ 48 ∷ []
zero_digit = decimal_digit 0 (omega arith)

clear_line : line_text (basic_line Clear) ≡ codes "clear 1b5b481b5b324a row=0 col=0 nopend all"
unfolding name_in_order spelled encode_with
clear_line = ap (λ (d : List ℕ). codes "clear 1b5b481b5b324a row=" ++ (d ++ (codes " col=" ++ (d ++ codes " nopend all")))) zero_digit

home_line : line_text (basic_line Home) ≡ codes "home 1b5b48 row=0 col=0 nopend"
unfolding name_in_order spelled encode_with
home_line = ap (λ (d : List ℕ). codes "home 1b5b48 row=" ++ (d ++ (codes " col=" ++ (d ++ codes " nopend")))) zero_digit

el_line : line_text (basic_line El) ≡ codes "el 1b5b4b tail"
unfolding name_in_order spelled encode_with
el_line = refl

sgr0_line : line_text (basic_line Sgr0) ≡ codes "sgr0 1b5b6d look:000000 ink:dd"
unfolding name_in_order spelled encode_with
sgr0_line = refl

of_line : (row : Row) (text : List ℕ) → line_text (basic_line row) ≡ text → IsLine (basic_line row) → length text < 100 → HasText row
of_line row text e is short = record { line_is = is; short = subst (λ (t : List ℕ). length t < 100) (sym e) short }

clear_has : HasText Clear
clear_has = of_line Clear (codes "clear 1b5b481b5b324a row=0 col=0 nopend all") clear_line
    (record { numbers = tt; bytes = is_bytes clear_text (omega arith, (omega arith, (omega arith, (omega arith, (omega arith, (omega arith, (omega arith, tt))))))); effect = record { row = omega arith; col = omega arith; erasure = tt; margins = tt } }) (lit< tt)

home_has : HasText Home
home_has = of_line Home (codes "home 1b5b48 row=0 col=0 nopend") home_line
    (record { numbers = tt; bytes = is_bytes home_text (omega arith, (omega arith, (omega arith, tt))); effect = record { row = omega arith; col = omega arith; erasure = tt; margins = tt } }) (lit< tt)

el_has : HasText El
el_has = of_line El (codes "el 1b5b4b tail") el_line (record { numbers = tt; bytes = is_bytes el_text (omega arith, (omega arith, (omega arith, tt))); effect = record { row = tt; col = tt; erasure = tt; margins = tt } }) (lit< tt)

sgr0_has : HasText Sgr0
sgr0_has = of_line Sgr0 (codes "sgr0 1b5b6d look:000000 ink:dd") sgr0_line
    (record { numbers = tt; bytes = is_bytes sgr0_text (omega arith, (omega arith, (omega arith, tt))); effect = record { row = tt; col = tt; erasure = tt; margins = tt } }) (lit< tt)

-- `cup`

abbrev cup_name : List ℕ
cup_name = 99 ∷ 117 ∷ 112 ∷ []

abbrev nopend : List ℕ
nopend = 110 ∷ 111 ∷ 112 ∷ 101 ∷ 110 ∷ 100 ∷ []

cup_text : (row col : ℕ) → line_text (basic_line (Cup row col)) ≡ cup_name ++ 32 ∷ ((decimal row ++ 32 ∷ (decimal col ++ 32 ∷ []))
    ++ (encode_lower (cursor_to row col) ++ 32 ∷ ((row_name ++ 61 ∷ decimal row) ++ 32 ∷ ((col_name ++ 61 ∷ decimal col) ++ 32 ∷ nopend))))
unfolding name_in_order spelled
cup_text row col = refl

three : (n : ℕ) → n < 500 → length (decimal n) ≤ 3
three n h = length-decimal-le 3 n (omega arith) (omega (arith, h)) (omega (arith, h, lit< {m = 501} {n = 2 ^ 64} tt))

cup_short : (row col : ℕ) → row < 500 → col < 500 → length (line_text (basic_line (Cup row col))) < 100
cup_short row col h k =
    let whole = ap (λ (l : List ℕ). length l) (cup_text row col) in
    let r = three row h in
    let c = three col k in
    let m = move_short row col (omega (arith, h)) (omega (arith, k)) in
    let e = length-encode_with lower_digits (cursor_to row col) in
    let a = length-append (decimal row ++ 32 ∷ (decimal col ++ 32 ∷ [])) (encode_lower (cursor_to row col) ++ 32 ∷ ((row_name ++ 61 ∷ decimal row) ++ 32 ∷ ((col_name ++ 61 ∷ decimal col) ++ 32 ∷ nopend))) in
    let b = length-append (decimal row) (32 ∷ (decimal col ++ 32 ∷ [])) in
    let d = length-append (decimal col) (32 ∷ []) in
    let f = length-append (encode_lower (cursor_to row col)) (32 ∷ ((row_name ++ 61 ∷ decimal row) ++ 32 ∷ ((col_name ++ 61 ∷ decimal col) ++ 32 ∷ nopend))) in
    let g = length-append (decimal row) (32 ∷ ((col_name ++ 61 ∷ decimal col) ++ 32 ∷ nopend)) in
    let i = length-append (decimal col) (32 ∷ nopend) in
    omega (arith, whole, r, c, m, e, a, b, d, f, g, i)

cup_has : (row col : ℕ) → row < 500 → col < 500 → HasText (Cup row col)
cup_has row col h k = record {
  line_is = record { numbers = (omega (arith, h), (omega (arith, k), tt)); bytes = is_bytes (cursor_to row col) (move_bytes row col h k); effect = record { row = omega (arith, h); col = omega (arith, k); erasure = tt; margins = tt } };
  short = cup_short row col h k;
}

pub has_text : (rows cols : ℕ) (home el : Bool) (row : Row) → IsSize rows cols → Kind rows cols home el row → HasText row
has_text rows cols home el row size kind =
    by_kind HasText rows cols home el row clear_has (λ r c h k. cup_has r c (omega (arith, h, size.1)) (omega (arith, k, size.3))) home_has el_has sgr0_has kind

-- the first line
pub size_is : (rows cols : ℕ) → IsSize rows cols → IsSizeText (size_text rows cols) rows cols
size_is rows cols size = record { rows_fit = omega (arith, size.1); cols_fit = omega (arith, size.3); spelled = refl }

abbrev size_front : List ℕ
size_front = 116 ∷ 105 ∷ 99 ∷ 101 ∷ 114 ∷ 116 ∷ 32 ∷ 50 ∷ 32 ∷ []

size_spelled : (rows cols : ℕ) → size_text rows cols ≡ size_front ++ (decimal rows ++ 32 ∷ decimal cols)
size_spelled rows cols = refl

pub size_short : (rows cols : ℕ) → IsSize rows cols → length (size_text rows cols) < 100
size_short rows cols size =
    let whole = ap (λ (l : List ℕ). length l) (size_spelled rows cols) in
    let r = length-decimal-le 3 rows (omega arith) (omega (arith, size.1)) (omega (arith, size.1, lit< {m = 501} {n = 2 ^ 64} tt)) in
    let c = length-decimal-le 3 cols (omega arith) (omega (arith, size.3)) (omega (arith, size.3, lit< {m = 501} {n = 2 ^ 64} tt)) in
    let a = length-append (decimal rows) (32 ∷ decimal cols) in
    omega (arith, whole, r, c, a)
