-- All strings of a certificate together have fewer than 2^26 bytes, and so few have a line, a cell and a resynchronization.
use Rattle.std.proofs.Common.{◌≡◌, ◌≤◌, ◌<◌, ◌^◌, ◌&&◌, ℕ, zero, suc, max, not, Bool, true, false, if◌then◌else◌, List, [], ◌∷◌, ◌++◌, length, length-append, Option, Some, None, refl, arith, slice_index_or}
use Rattle.std.specs.List.{sum_by}
use Rattle.std.proofs.lemmas.List.Sums.{sum_by-cons}
use Rattle.ti_rows.specs.declared.rows.Row.{Row}
use Rattle.ti_rows.specs.declared.rows.Row.TheVariants.{Clear, Cup, El, El1, Ed, Ech, Sgr, Sgr0, Setaf, Setab, Op, Smul, Rev, Blink, Dim, Bold, Invis, Smso, Enacs, Smacs, Rmacs, Csr, Ind, Ri, Civis, Cnorm, Cvvis, Smcup}
use Rattle.vt_term.specs.Color.{Black}
use Rattle.ti_rows.specs.Names.{order, no_attributes}
use Rattle.ti_rows.specs.Right.{sets_visible}
use Rattle.ti_conforms.specs.Table as strings
use Rattle.ti_cert.specs.Certificates.{limit}
use Rattle.ti_cert.specs.Strings.{Strings, group_at, row_string, total}
use Rattle.ti_cert.specs.Table.{CheckedTable, table_of, certified}
use Rattle.ti_conforms.specs.Certified.{IsSmall, cell_limit, or_nothing}
use Rattle.ti_cert.specs.Lengths.{greatest, longest_line, longest_change, singly, longest_in}
use Rattle.ti_cert.proofs.Lengths.{within}

abbrev all_of : List (List ℕ) → ℕ
all_of xs = sum_by (λ x. length x) xs

greatest_few : (xs : List (List ℕ)) → greatest xs ≤ sum_by (λ x. length x) xs
greatest_few [] = omega arith
greatest_few (x ∷ xs) = let h : greatest xs ≤ sum_by (λ x. length x) xs = greatest_few xs in omega (arith, h, sum_by-cons (λ (y : List ℕ). length y) x xs)

group_few : (groups : List (List (List ℕ))) (n : ℕ) → sum_by (λ x. length x) (slice_index_or groups n []) ≤ sum_by (λ group. sum_by (λ x. length x) group) groups
group_few [] n = omega arith
group_few (g ∷ groups) zero = omega (arith, sum_by-cons all_of g groups)
group_few (g ∷ groups) (suc n) =
    let h : sum_by (λ x. length x) (slice_index_or groups n []) ≤ sum_by (λ group. sum_by (λ x. length x) group) groups = group_few groups n in omega (arith, h, sum_by-cons all_of g groups)

pub longest_few : (s : Strings) (row : Row) → total s < limit → longest_line s row < 2 ^ 26
longest_few s row few =
    let a : longest_line s row ≤ sum_by (λ x. length x) (group_at s (order row)) = greatest_few (group_at s (order row)) in
    let b : sum_by (λ x. length x) (group_at s (order row)) ≤ total s = group_few s.groups (order row) in
    omega (arith, a, b, few)

-- the bytes of a row's string, or none
part_few : (s : Strings) (row : Row) (o : Option (List ℕ)) → row_string s row ≡ o → total s < limit → length (or_nothing o) < 2 ^ 26
part_few s row None e few = omega arith
part_few s row (Some x) e few = omega (arith, within s row x e, longest_few s row few)

string_few : (c : CheckedTable) (row : Row) → total c.known.strings < limit → length (or_nothing ((table_of c).line_of row)) < 2 ^ 26
string_few c row few = part_few c.known.strings row (row_string c.known.strings row) refl few

pub sent_few : (s : Strings) (row : Row) (o : Option (List ℕ)) → row_string s row ≡ o → total s < limit → length (strings.or_nothing o) < 2 ^ 26
sent_few s row None e few = omega arith
sent_few s row (Some x) e few = omega (arith, within s row x e, longest_few s row few)

-- the row's string is a part of a resynchronization
resync_part_few : (c : CheckedTable) (row : Row) → total c.known.strings < limit → length (strings.text_of (table_of c) row) < 2 ^ 26
resync_part_few c row few = sent_few c.known.strings row (row_string c.known.strings row) refl few

held_back : (b : Bool) (o : Option (List ℕ)) (n : ℕ) → length (or_nothing o) < n → length (or_nothing (if b then None else o)) < n
held_back true o n h = omega (arith, h)
held_back false o n h = h

either : (b : Bool) (m n k : ℕ) → m < k → n < k → (if b then m else n) < k
either true m n k h j = h
either false m n k h j = j

pub change_few : (c : CheckedTable) → total c.known.strings < limit → longest_change c.known.strings < 2 ^ 30
change_few c few =
    let line : longest_line c.known.strings (Sgr no_attributes) < 2 ^ 26 = longest_few c.known.strings (Sgr no_attributes) few in
    let plain : longest_line c.known.strings Sgr0 < 2 ^ 26 = longest_few c.known.strings Sgr0 few in
    either (strings.has (table_of c) (Sgr no_attributes)) (max (longest_line c.known.strings (Sgr no_attributes)) (longest_line c.known.strings Sgr0)) (singly c.known.strings) (2 ^ 30) (omega (arith, line, plain))
    (omega (arith, string_few c Sgr0 few, string_few c Smul few, string_few c Rev few, string_few c Blink few, string_few c Dim few, string_few c Bold few, string_few c Invis few, string_few c Smso few))

pub cell_few : (c : CheckedTable) → total c.known.strings < limit → cell_limit (certified c) < 2 ^ 31
unfolding longest_in
cell_few c few =
    let s : Strings = c.known.strings in
    let cup : longest_line s (Cup 0 0) < 2 ^ 26 = longest_few s (Cup 0 0) few in
    let setaf : longest_line s (Setaf Black) < 2 ^ 26 = longest_few s (Setaf Black) few in
    let setab : longest_line s (Setab Black) < 2 ^ 26 = longest_few s (Setab Black) few in
    let op : longest_line s Op < 2 ^ 26 = longest_few s Op few in
    let smacs : longest_line s Smacs < 2 ^ 26 = longest_few s Smacs few in
    let rmacs : longest_line s Rmacs < 2 ^ 26 = longest_few s Rmacs few in
    let el : longest_line s El < 2 ^ 26 = longest_few s El few in
    let el1 : longest_line s El1 < 2 ^ 26 = longest_few s El1 few in
    let ed : longest_line s Ed < 2 ^ 26 = longest_few s Ed few in
    let ech : longest_line s (Ech 1) < 2 ^ 26 = longest_few s (Ech 1) few in
    let csr : longest_line s (Csr 0 1) < 2 ^ 26 = longest_few s (Csr 0 1) few in
    let ind : longest_line s Ind < 2 ^ 26 = longest_few s Ind few in
    let ri : longest_line s Ri < 2 ^ 26 = longest_few s Ri few in
    let civis : longest_line s Civis < 2 ^ 26 = longest_few s Civis few in
    let cnorm : longest_line s Cnorm < 2 ^ 26 = longest_few s Cnorm few in
    let cvvis : longest_line s Cvvis < 2 ^ 26 = longest_few s Cvvis few in
    let change : longest_change c.known.strings < 2 ^ 30 = change_few c few in
    let sets : max (longest_line s Smacs) (longest_line s Rmacs) < 2 ^ 26 = omega (arith, smacs, rmacs) in
    let erasure : max (max (longest_line s El) (longest_line s El1)) (max (longest_line s Ed) (longest_line s (Ech 1))) < 2 ^ 26 = omega (arith, el, el1, ed, ech) in
    let scroll : max (longest_line s (Csr 0 1)) (max (longest_line s Ind) (longest_line s Ri)) < 2 ^ 26 = omega (arith, csr, ind, ri) in
    omega (arith, cup, setaf, setab, op, sets, erasure, scroll, civis, cnorm, cvvis, change)

resync_few : (c : CheckedTable) → total c.known.strings < limit → length (strings.resync (table_of c)) < 2 ^ 29
unfolding strings.resync_of
resync_few c few =
    let t : strings.Table = table_of c in
    let a = strings.text_of t Smcup in
    let b = strings.text_of t Enacs in
    let d = strings.text_of t Sgr0 in
    let e = strings.text_of t Rmacs in
    let w = strings.text_of t (strings.widening t) in
    let x = strings.text_of t Clear in
    omega (
      arith,
      length-append ((a ++ b) ++ (d ++ e)) (w ++ x),
      length-append (a ++ b) (d ++ e),
      length-append a b,
      length-append d e,
      length-append w x,
      resync_part_few c Smcup few,
      resync_part_few c Enacs few,
      resync_part_few c Sgr0 few,
      resync_part_few c Rmacs few,
      resync_part_few c (strings.widening t) few,
      resync_part_few c Clear few,
    )

pub is_small : (c : CheckedTable) → total c.known.strings < limit → IsSmall (certified c)
is_small c few = record {
  lines = λ row. held_back (sets_visible row && not (strings.has (table_of c) Cnorm)) ((table_of c).line_of row) (2 ^ 26) (string_few c row few);
  cell = cell_few c few;
  resync = resync_few c few;
}
