-- If the lines of all rows are not too long, those before a row aren't either.
use Rattle.std.proofs.Common.{◌≡◌, ◌⊎◌, inl, inr, ◌<◌, ◌≤◌, ℕ, true, List, [], ◌∷◌, ◌++◌, length, refl, sym, ap, subst, ◌∙◌, arith, length-append}
use Rattle.std.proofs.Math.Nat.{eq-or-lt_of_le}
use Rattle.ti_caps.specs.Entry.{Content}
use Rattle.ti_conforms.specs.Charsets.{IsAmong}
use Rattle.ti_parm.proofs.Numbers.{le_or_ge}
use Rattle.ti_rows.specs.declared.rows.Row.{Row}
use Rattle.ti_rows.specs.Lists.{IsInRange, rank}
use Rattle.ti_rows.specs.Names.{order, capabilities}
use Rattle.ti_rows.proofs.NameFacts.{orders_small}
use Rattle.ti_lines.specs.declared.row_lines.RowLine.{RowLine}
use Rattle.ti_conforms.specs.Entries.{is_checked}
use Rattle.ti_cert.specs.Order.{Precedes, HasLine}
use Rattle.ti_checker.specs.First.{EachWritten, IsDrafted}
use Rattle.ti_cert.specs.Certificates.{limit}
use Rattle.ti_checker.specs.Limit.{InOrder, StaysWithin, FitsLimit, IsFullText, text_with}
use Rattle.ti_checker.proofs.Earliest.{drafted_as}
use Rattle.ti_cert.proofs.Elements.{IsWithin}
use Rattle.ti_checker.proofs.Order.{no_longer}
use Rattle.ti_checker.proofs.Passages.{length_by_lines, last, text_is}

-- ---- those before a row

less_or_not : (a b : ℕ) → (a < b) ⊎ (b ≤ a)
less_or_not a b = by_order (le_or_ge b a)
  where
    by_part : (a ≡ b) ⊎ (a < b) → (a < b) ⊎ (b ≤ a)
    by_part (inl e) = inr (omega (arith, e))
    by_part (inr lt) = inl lt

    by_order : (b ≤ a) ⊎ (a ≤ b) → (a < b) ⊎ (b ≤ a)
    by_order (inl le) = inr le
    by_order (inr le) = by_part (eq-or-lt_of_le le)

before_or_not : (rows cols : ℕ) (one row : Row) → Precedes rows cols one row ⊎ (Precedes rows cols one row → ⊥)
before_or_not rows cols one row = by_order (less_or_not (order one) (order row)) (less_or_not (order row) (order one)) (less_or_not (rank rows cols one) (rank rows cols row))
  where
    neither : order row ≤ order one → (order row < order one) ⊎ (rank rows cols row ≤ rank rows cols one) → Precedes rows cols one row → ⊥
    neither le more (inl lt) = omega (arith, le, lt)
    neither le (inl more) (inr p) = let e = p.0 in omega (arith, more, e)
    neither le (inr more) (inr p) = let lt = p.1 in omega (arith, more, lt)

    by_order : (order one < order row) ⊎ (order row ≤ order one) → (order row < order one) ⊎ (order one ≤ order row) → (rank rows cols one < rank rows cols row) ⊎ (rank rows cols row ≤ rank rows cols one)
        → Precedes rows cols one row ⊎ (Precedes rows cols one row → ⊥)
    by_order (inl lt) other ranks = inl (inl lt)
    by_order (inr le) (inl more) ranks = inr (neither le (inl more))
    by_order (inr le) (inr same) (inl lt) = inl (inr (omega (arith, le, same), lt))
    by_order (inr le) (inr same) (inr more) = inr (neither le (inr more))

-- those lines of a list that come before the row
record Before (rows cols : ℕ) (row : Row) (lines : List RowLine) : Type 0 where
  some : List RowLine
  ordered : InOrder rows cols some
  among : IsWithin some lines
  held : (line : RowLine) → IsAmong some line → Precedes rows cols line.row row
  all : (line : RowLine) → IsAmong lines line → Precedes rows cols line.row row → IsAmong some line

with_first : (rows cols : ℕ) (row : Row) (x : RowLine) (xs : List RowLine) → InOrder rows cols (x ∷ xs) → Precedes rows cols x.row row → Before rows cols row xs → Before rows cols row (x ∷ xs)
with_first rows cols row x xs o p b = record {
  some = x ∷ b.some;
  ordered = (λ other a. o.0 other (b.among other a), b.ordered);
  among = among;
  held = held;
  all = all;
}
  where
    among : IsWithin (x ∷ b.some) (x ∷ xs)
    among line (inl e) = inl e
    among line (inr a) = inr (b.among line a)

    held : (line : RowLine) → IsAmong (x ∷ b.some) line → Precedes rows cols line.row row
    held line (inl e) = subst (λ (l : RowLine). Precedes rows cols l.row row) (sym e) p
    held line (inr a) = b.held line a

    all : (line : RowLine) → IsAmong (x ∷ xs) line → Precedes rows cols line.row row → IsAmong (x ∷ b.some) line
    all line (inl e) q = inl e
    all line (inr a) q = inr (b.all line a q)

without_first : (rows cols : ℕ) (row : Row) (x : RowLine) (xs : List RowLine) → (Precedes rows cols x.row row → ⊥) → Before rows cols row xs → Before rows cols row (x ∷ xs)
without_first rows cols row x xs n b = record {
  some = b.some;
  ordered = b.ordered;
  among = λ line a. inr (b.among line a);
  held = b.held;
  all = all;
}
  where
    all : (line : RowLine) → IsAmong (x ∷ xs) line → Precedes rows cols line.row row → IsAmong b.some line
    all line (inl e) q = absurd (n (subst (λ (l : RowLine). Precedes rows cols l.row row) e q))
    all line (inr a) q = b.all line a q

before : (rows cols : ℕ) (row : Row) (lines : List RowLine) → InOrder rows cols lines → Before rows cols row lines
before rows cols row [] o = record { some = []; ordered = tt; among = λ line a. absurd a; held = λ line a. absurd a; all = λ line a p. absurd a }
before rows cols row (x ∷ xs) o = by_first (before_or_not rows cols x.row row) (before rows cols row xs o.1)
  where
    by_first : Precedes rows cols x.row row ⊎ (Precedes rows cols x.row row → ⊥) → Before rows cols row xs → Before rows cols row (x ∷ xs)
    by_first (inl p) b = with_first rows cols row x xs o p b
    by_first (inr n) b = without_first rows cols row x xs n b

-- ---- their text

pub within_before : (entry : Content) (rows cols : ℕ) (row : Row) → FitsLimit entry rows cols → StaysWithin entry rows cols row
within_before entry rows cols row f = record {
  lines = b.some;
  are = record { ordered = b.ordered; each = λ line a. f.are.each line (b.among line a); held = b.held; all = all };
  short = let k = no_longer rows cols b.some f.lines b.ordered f.are.ordered b.among in
      let m = length_by_lines entry rows cols b.some in
      let n = length_by_lines entry rows cols f.lines in
      let s = f.short in
      omega (arith, k, m, n, s);
}
  where
    b : Before rows cols row f.lines
    b = before rows cols row f.lines f.are.ordered

    all : (other : Row) → IsInRange rows cols other → is_checked entry other ≡ true → Precedes rows cols other row → HasLine b.some other
    all other range checked p =
        let h = f.are.all other range checked tt in
        record { line = h.line; among = b.all h.line h.among (subst (λ (r : Row). Precedes rows cols r row) (sym h.of_row) p); of_row = h.of_row }

-- ---- all of them are written

all_drafted : (entry : Content) (rows cols : ℕ) (text : List ℕ) → IsDrafted entry rows cols (λ row. order row < capabilities) text → IsDrafted entry rows cols (λ row. Unit {0}) text
all_drafted entry rows cols text d = drafted_as entry rows cols (λ row. order row < capabilities) (λ row. Unit {0}) text (λ row range lt. tt) (λ row range checked u. orders_small row) d

pub full_text : (entry : Content) (rows cols : ℕ) (front text : List ℕ) → IsDrafted entry rows cols (λ row. order row < capabilities) front → text ≡ front ++ last → IsFullText entry rows cols text
full_text entry rows cols front text d e =
    let all = all_drafted entry rows cols front d in
    let is : text ≡ text_with entry rows cols all.written.lines = e ∙ (ap (λ (x : List ℕ). x ++ last) all.written.text_is ∙ sym (text_is entry rows cols all.written.lines)) in
    record {
      lines = all.written.lines;
      are = all.written.are;
      text_is = is;
      short = let n = ap (λ (x : List ℕ). length x) e in
          let l = length-append front last in
          let s = all.written.short in
          omega (arith, n, l, s);
    }

pub each_written : (entry : Content) (rows cols : ℕ) (text : List ℕ) → IsDrafted entry rows cols (λ row. order row < capabilities) text → EachWritten entry rows cols
each_written entry rows cols text d =
    let f = full_text entry rows cols text (text ++ last) d refl in
    record {
      stands = λ row range. d.stand row range (orders_small row);
      within = record { lines = f.lines; are = f.are; short = subst (λ (x : List ℕ). length x ≤ limit) f.text_is f.short };
    }
