-- A certificate for some size is no longer than the one for the greatest, if all its lines are among the other's.
use Rattle.std.proofs.Common.{◌≡◌, ◌≤◌, ◌<◌, ◌+◌, ◌/◌, ◌%◌, ◌^◌, ℕ, List, [], ◌∷◌, map, length, inl, inr, refl, sym, ap, subst, ◌∙◌, arith, length-append}
use Rattle.std.specs.Fmt.{decimal}
use Rattle.std.proofs.lemmas.Fmt.{decimal_nonempty, decimal_step, length-decimal-le}
use Rattle.vt_term.specs.Size.{IsSize, max_rows, max_cols}
use Rattle.ti_caps.specs.Entry.{Content, string_at}
use Rattle.ti_conforms.specs.Charsets.{IsAmong}
use Rattle.ti_conforms.specs.Entries.{acsc}
use Rattle.ti_lines.specs.declared.row_lines.RowLine.{RowLine}
use Rattle.ti_lines.specs.Heads.{size_text}
use Rattle.ti_lines.specs.RowLines.{line_text}
use Rattle.ti_lines.specs.Texts.{acsc_lines, ended}
use Rattle.ti_cert.specs.Order.{Precedes}
use Rattle.ti_cert.proofs.Elements.{IsWithin}
use Rattle.ti_cert.proofs.Singleness.{never_back}
use Rattle.ti_checker.specs.Limit.{InOrder, text_with}
use Rattle.ti_checker.proofs.Order.{size_of}
use Rattle.ti_checker.proofs.Passages.{heads, length_by_lines}

size_more : (x : RowLine) (xs : List RowLine) → size_of (x ∷ xs) ≡ length (line_text x) + (size_of xs + 1)
size_more x xs = let l = length-append (line_text x) (10 ∷ ended (map line_text xs)) in omega (arith, l)

-- ---- lines that differ from each other

abbrev AreApart : List RowLine → Type 0
AreApart [] = Unit {0}
AreApart (x ∷ xs) = ((z : RowLine) → IsAmong xs z → z ≡ x → ⊥) × AreApart xs

apart : (rows cols : ℕ) (xs : List RowLine) → InOrder rows cols xs → AreApart xs
apart rows cols [] p = tt
apart rows cols (x ∷ xs) p = (λ z a e. by_order z (p.0 z a) e, apart rows cols xs p.1)
  where
    by_order : (z : RowLine) → Precedes rows cols x.row z.row → z ≡ x → ⊥
    by_order z before e = let own = subst (λ (l : RowLine). Precedes rows cols x.row l.row) e before in never_back rows cols x.row x.row own own

-- the lines without one of them
record Without (x : RowLine) (ys : List RowLine) : Type 0 where
  rest : List RowLine
  size : size_of ys ≡ length (line_text x) + (size_of rest + 1)
  others : (z : RowLine) → IsAmong ys z → (z ≡ x → ⊥) → IsAmong rest z

without : (x : RowLine) (ys : List RowLine) → IsAmong ys x → Without x ys
without x [] a = absurd a
without x (y ∷ ys) (inl e) = record {
  rest = ys;
  size = size_more y ys ∙ ap (λ (l : RowLine). length (line_text l) + (size_of ys + 1)) (sym e);
  others = λ z a differs. by_place z a differs;
}
  where
    by_place : (z : RowLine) → IsAmong (y ∷ ys) z → (z ≡ x → ⊥) → IsAmong ys z
    by_place z (inl k) differs = absurd (differs (k ∙ sym e))
    by_place z (inr b) differs = b
without x (y ∷ ys) (inr b) = let w : Without x ys = without x ys b in record {
  rest = y ∷ w.rest;
  size = let n = size_more y ys in let m = size_more y w.rest in let k = w.size in omega (arith, n, m, k);
  others = λ z a differs. by_place w z a differs;
}
  where
    by_place : (w : Without x ys) (z : RowLine) → IsAmong (y ∷ ys) z → (z ≡ x → ⊥) → IsAmong (y ∷ w.rest) z
    by_place w z (inl k) differs = inl k
    by_place w z (inr c) differs = inr (w.others z c differs)

fewer : (xs ys : List RowLine) → AreApart xs → IsWithin xs ys → size_of xs ≤ size_of ys
fewer [] ys p over = omega arith
fewer (x ∷ xs) ys p over =
    let w : Without x ys = without x ys (over x (inl refl)) in
    let k = fewer xs w.rest p.1 (λ z a. w.others z (over z (inr a)) (p.0 z a)) in
    let m = size_more x xs in
    let n = w.size in
    omega (arith, k, m, n)

-- ---- the first lines

size_length : (rows cols : ℕ) → length (size_text rows cols) ≡ 10 + (length (decimal rows) + length (decimal cols))
size_length rows cols = let l = length-append (decimal rows) (32 ∷ decimal cols) in omega (arith, l)

rows_short : (rows cols : ℕ) → IsSize rows cols → length (decimal rows) ≤ 3
rows_short rows cols z = length-decimal-le 3 rows (omega arith) (omega (arith, z.1)) (omega (arith, z.1))

cols_short : (rows cols : ℕ) → IsSize rows cols → length (decimal cols) ≤ 3
cols_short rows cols z = length-decimal-le 3 cols (omega arith) (omega (arith, z.3)) (omega (arith, z.3))

three_digits : (n : ℕ) → 100 ≤ n → n < 2 ^ 64 → 3 ≤ length (decimal n)
three_digits n h small =
    let a = ap (λ (l : List ℕ). length l) (decimal_step n (omega (arith, h)) small) ∙ length-append (decimal (n / 10)) ((48 + n % 10) ∷ []) in
    let b = ap (λ (l : List ℕ). length l) (decimal_step (n / 10) (omega (arith, h)) (omega (arith, small))) ∙ length-append (decimal (n / 10 / 10)) ((48 + n / 10 % 10) ∷ []) in
    let c = decimal_nonempty (n / 10 / 10) (omega (arith, small)) in
    omega (arith, a, b, c)

heads_shorter : (entry : Content) (rows cols : ℕ) → IsSize rows cols → length (ended (heads entry rows cols)) ≤ length (ended (heads entry max_rows max_cols))
heads_shorter entry rows cols z =
    let rest = ended (acsc_lines (string_at entry acsc)) in
    let a = length-append (size_text rows cols) (10 ∷ rest) in
    let b = length-append (size_text max_rows max_cols) (10 ∷ rest) in
    let c = size_length rows cols in
    let d = size_length max_rows max_cols in
    let g = three_digits max_rows (omega arith) (omega arith) in
    let h = three_digits max_cols (omega arith) (omega arith) in
    let e = rows_short rows cols z in
    let f = cols_short rows cols z in
    omega (arith, a, b, c, d, e, f, g, h)

-- ---- the texts

pub shorter : (entry : Content) (rows cols : ℕ) (xs ys : List RowLine) → IsSize rows cols → InOrder rows cols xs → IsWithin xs ys → length (text_with entry rows cols xs) ≤ length (text_with entry max_rows max_cols ys)
shorter entry rows cols xs ys z order over =
    let a = length_by_lines entry rows cols xs in
    let b = length_by_lines entry max_rows max_cols ys in
    let h = heads_shorter entry rows cols z in
    let f = fewer xs ys (apart rows cols xs order) over in
    omega (arith, a, b, h, f)
