-- A line about a capability is in its place, or has the fault that is found.
use Rattle.std.proofs.Common.{◌≡◌, ◌⊎◌, ◌<◌, ◌≤◌, ◌+◌, ◌==◌, ◌||◌, nat_lt, ℕ, Bool, true, false, if◌then◌else◌, List, Option, Some, None, Result, Err, inl, inr, refl, sym, ap, subst, ◌∙◌, arith}
use Rattle.std.proofs.lemmas.Bool.{true≢false, ltb-true, ltb-false, eqb-true, eqb-false, cases_lt, or_cases, or_parts}
use Rattle.std.proofs.lemmas.Option.{same_Some, none-some}
use Rattle.vt_term.specs.Size.{IsSize}
use Rattle.ti_rows.specs.declared.rows.Row.{Row}
use Rattle.ti_rows.specs.Names.{order, first_in_order, HasFirst}
use Rattle.ti_rows.specs.Lists.{IsInRange, next, rank, Follows}
use Rattle.ti_rows.proofs.NameFacts.{firsts_in_order, orders_small}
use Rattle.ti_rows.proofs.ListFacts.{next_follows}
use Rattle.ti_lines.specs.declared.row_lines.RowLine.{RowLine}
use Rattle.ti_cert.specs.Strings.{allows}
use Rattle.ti_cert.specs.Order.{Precedes, HasLine, HasCap, IsRequiredLine, IsLacking, IsFirstLacking, IsLate, IsBehind, IsInPlace}
use Rattle.ti_cert.specs.Places.{next_within, missing, expected, or_row, is_late, or_missing, early_fault, place_fault}
use Rattle.ti_cert.specs.Certificates.{missing_line, Said, JudgesRow, NotAllowed, TooLate, TooEarly}
use Rattle.ti_cert.specs.Audits.{IsLastRow, IsUpTo}
use Rattle.ti_cert.specs.declared.faults.CertFaultKind.{CertFaultKind}
use Rattle.ti_cert.specs.declared.faults.CertFaultKind.TheVariants.{BadLine, OutOfOrder}
use Rattle.ti_cert.proofs.Ranges.{in_range, is_allowed}
use Rattle.ti_cert.proofs.Order.{IsFirstLack, missing_some, missing_none, first_at, from_rank, none_after, none_beyond, next_is, lacks_behind}

abbrev pub refusal : CertFaultKind → Result Said CertFaultKind
refusal kind = Err kind

-- these lines have the first `c` parameter lists of the row's capability
pub record HasFirstLines (rows cols : ℕ) (lines : List RowLine) (row : Row) (c : ℕ) : Type 0 where
  pub there : (other : Row) → IsInRange rows cols other → order other ≡ order row → rank rows cols other < c → HasLine lines other
  pub below : (other : Row) → HasLine lines other → order other ≡ order row → rank rows cols other < c

cap_of_line : (lines : List RowLine) (row other : Row) → HasLine lines row → order row ≡ order other → HasCap lines other
cap_of_line lines row other h o = record { line = h.line; among = h.among; of_cap = ap order h.of_row ∙ o }

-- each line so far precedes a row that isn't late
behind_last : (rows cols : ℕ) (lines : List RowLine) (last : Option Row) (row : Row) (c : ℕ) → IsUpTo rows cols lines last → HasFirstLines rows cols lines row c → is_late last row ≡ false → c ≤ rank rows cols row → IsBehind rows cols lines row
behind_last rows cols lines None row c none has late le = λ line among. absurd (none line among)
behind_last rows cols lines (Some last) row c up has late le = λ line among. by_upper line (up.upper line among)
  where
    last_first : Precedes rows cols last row
    last_first = by_lt (cases_lt (order last) (order row))
      where
        by_lt : (order last < order row) ⊎ (order row ≤ order last) → Precedes rows cols last row
        by_lt (inl h) = inl h
        by_lt (inr h) =
            let g = ltb-false (order row) (order last) late in
            let o : order last ≡ order row = omega (arith, g, h) in
            let k = has.below last up.there o in
            inr (o, omega (arith, k, le))

    by_upper : (line : RowLine) → (line.row ≡ last) ⊎ Precedes rows cols line.row last → Precedes rows cols line.row row
    by_upper line (inl e) = subst (λ (r : Row). Precedes rows cols r row) (sym e) last_first
    by_upper line (inr p) = joined p last_first
      where
        joined : Precedes rows cols line.row last → Precedes rows cols last row → Precedes rows cols line.row row
        joined (inl h) (inl k) = inl (omega (arith, h, k))
        joined (inl h) (inr k) = let k0 = k.0 in inl (omega (arith, h, k0))
        joined (inr h) (inl k) = let h0 = h.0 in inl (omega (arith, h0, k))
        joined (inr h) (inr k) = let h1 = h.1 in let k1 = k.1 in inr (h.0 ∙ k.0, omega (arith, h1, k1))

-- the test of a late line is right
is_late_line : (rows cols : ℕ) (lines : List RowLine) (last : Option Row) (row : Row) → IsUpTo rows cols lines last → is_late last row ≡ true → IsLate rows cols lines row
is_late_line rows cols lines None row none h = absurd (true≢false (sym h))
is_late_line rows cols lines (Some last) row up h =
    record { line = up.there.line; among = up.there.among; late = inr (subst (λ (r : Row). Precedes rows cols row r) (sym up.there.of_row) (inl (ltb-true (order row) (order last) h))) }

-- if no other capability lacks a line, the missing lists are those of the row's own capability before it
own_lacking : (rows cols : ℕ) (lines : List RowLine) (last : Option Row) (row : Row) → IsSize rows cols → IsUpTo rows cols lines last → missing rows cols last (order row) ≡ None
    → (other : Row) → IsLacking rows cols lines (Some row) other → (order other ≡ order row) × (rank rows cols other < rank rows cols row)
own_lacking rows cols lines last row size up none other k = by_before k.before k.due
  where
    by_before : Precedes rows cols other row → IsRequiredLine other ⊎ (HasCap lines other ⊎ (order other ≡ order row)) → (order other ≡ order row) × (rank rows cols other < rank rows cols row)
    by_before (inr h) due = h
    by_before (inl h) (inl d) = absurd (missing_none rows cols lines last (order row) size up none other (record { range = k.range; absent = k.absent; before = h; due = inl d }))
    by_before (inl h) (inr (inl d)) = absurd (missing_none rows cols lines last (order row) size up none other (record { range = k.range; absent = k.absent; before = h; due = inr d }))
    by_before (inl h) (inr (inr o)) = absurd (omega (arith, h, o))

-- the row that is found missing before the row's capability is the first missing one
missing_first : (rows cols : ℕ) (lines : List RowLine) (last : Option Row) (row m : Row) → IsSize rows cols → IsUpTo rows cols lines last → missing rows cols last (order row) ≡ Some m → IsFirstLacking rows cols lines (Some row) m
missing_first rows cols lines last row m size up h = record {
  lacking = record { range = q.lacks.range; absent = q.lacks.absent; before = inl q.lacks.before; due = onto q.lacks.due };
  first = λ other k. by_before other k k.before k.due;
}
  where
    q : IsFirstLack rows cols lines (order row) m
    q = missing_some rows cols lines last (order row) m size up h

    onto : IsRequiredLine m ⊎ HasCap lines m → IsRequiredLine m ⊎ (HasCap lines m ⊎ (order m ≡ order row))
    onto (inl d) = inl d
    onto (inr d) = inr (inl d)

    by_before : (other : Row) → IsLacking rows cols lines (Some row) other → Precedes rows cols other row → IsRequiredLine other ⊎ (HasCap lines other ⊎ (order other ≡ order row)) → (other ≡ m) ⊎ Precedes rows cols m other
    by_before other k (inl b) (inl d) = q.first other (record { range = k.range; absent = k.absent; before = b; due = inl d })
    by_before other k (inl b) (inr (inl d)) = q.first other (record { range = k.range; absent = k.absent; before = b; due = inr d })
    by_before other k (inl b) (inr (inr o)) = absurd (omega (arith, b, o))
    by_before other k (inr b) due = let lt = q.lacks.before in let o = b.0 in inr (inl (omega (arith, lt, o)))

-- the first list of the row's own capability is missing
first_missing : (rows cols : ℕ) (lines : List RowLine) (last : Option Row) (row : Row) (c : ℕ) → IsSize rows cols → IsUpTo rows cols lines last → missing rows cols last (order row) ≡ None → c < rank rows cols row
    → (HasCap lines row → ⊥) → IsFirstLacking rows cols lines (Some row) (or_row (first_in_order (order row)) row)
first_missing rows cols lines last row c size up none lt absent = subst (λ (o : Option Row). IsFirstLacking rows cols lines (Some row) (or_row o row)) (sym f.is_first) (record {
  lacking = record { range = a.0; absent = λ h. absent (cap_of_line lines f.row row h a.2); before = inr (a.2, let z = a.1 in omega (arith, z, lt)); due = inr (inr a.2) };
  first = λ other k. let p = own_lacking rows cols lines last row size up none other k in from_rank rows cols f.row other a.0 k.range (a.2 ∙ sym p.0) (let z = a.1 in omega (arith, z));
})
  where
    f : HasFirst (order row)
    f = firsts_in_order (order row) (orders_small row)

    a : IsInRange rows cols f.row × (rank rows cols f.row ≡ 0) × (order f.row ≡ order row)
    a = first_at rows cols (order row) f.row size (orders_small row) f.is_first

-- the next list of the last line's capability, which is the row's, is missing
next_missing : (rows cols : ℕ) (lines : List RowLine) (last row : Row) (c : ℕ) → IsSize rows cols → IsLastRow rows cols lines last → missing rows cols (Some last) (order row) ≡ None → IsInRange rows cols row → order last ≡ order row
    → rank rows cols last < c → c < rank rows cols row → (o : Option Row) → next rows cols last ≡ o → IsFirstLacking rows cols lines (Some row) (or_row o row)
next_missing rows cols lines last row c size up none range same low lt None e = absurd (none_after rows cols last row size up.range e range (sym same) (omega (arith, low, lt)))
next_missing rows cols lines last row c size up none range same low lt (Some follower) e = record {
  lacking = record { range = f.range; absent = absent; before = inr (so ∙ same, omega (arith, one, low, lt)); due = inr (inr (so ∙ same)) };
  first = λ other k. by_own other k (own_lacking rows cols lines (Some last) row size up none other k);
}
  where
    f : Follows rows cols last follower
    f = next_follows rows cols last follower size up.range e

    so : order follower ≡ order last
    so = f.same_order

    one : rank rows cols follower ≡ rank rows cols last + 1
    one = f.rank_next

    absent : HasLine lines follower → ⊥
    absent hl = by_upper (up.upper hl.line hl.among)
      where
        r : rank rows cols hl.line.row ≡ rank rows cols follower
        r = ap (λ (x : Row). rank rows cols x) hl.of_row

        o : order hl.line.row ≡ order follower
        o = ap order hl.of_row

        by_upper : (hl.line.row ≡ last) ⊎ Precedes rows cols hl.line.row last → ⊥
        by_upper (inl e2) = let r2 : rank rows cols hl.line.row ≡ rank rows cols last = ap (λ (x : Row). rank rows cols x) e2 in omega (arith, r, r2, one)
        by_upper (inr (inl p)) = omega (arith, o, p, so)
        by_upper (inr (inr p)) = let q = p.1 in omega (arith, r, q, one)

    by_own : (other : Row) → IsLacking rows cols lines (Some row) other → (order other ≡ order row) × (rank rows cols other < rank rows cols row) → (other ≡ follower) ⊎ Precedes rows cols follower other
    by_own other k p = by_last (lacks_behind rows cols lines last other up k.range k.absent (inr (cap_of_line lines last other up.there (same ∙ sym p.0))))
      where
        by_last : Precedes rows cols last other → (other ≡ follower) ⊎ Precedes rows cols follower other
        by_last (inl h) = let q = p.0 in absurd (omega (arith, h, q, same))
        by_last (inr h) = let q = h.1 in from_rank rows cols follower other f.range k.range (so ∙ h.0) (omega (arith, q, one))

-- a list of the row's own capability is missing
own_missing : (rows cols : ℕ) (lines : List RowLine) (last : Option Row) (row : Row) (c : ℕ) → IsSize rows cols → IsUpTo rows cols lines last → HasFirstLines rows cols lines row c → IsInRange rows cols row → is_late last row ≡ false
    → missing rows cols last (order row) ≡ None → c < rank rows cols row → IsFirstLacking rows cols lines (Some row) (or_row (expected rows cols last row) row)
own_missing rows cols lines None row c size up has range late none lt = first_missing rows cols lines None row c size up none lt (λ h. up h.line h.among)
own_missing rows cols lines (Some last) row c size up has range late none lt = by_same (order last == order row) refl
  where
    by_same : (t : Bool) → (order last == order row) ≡ t → IsFirstLacking rows cols lines (Some row) (or_row (if t then next_within rows cols last else first_in_order (order row)) row)
    by_same true e =
        let same : order last ≡ order row = eqb-true (order last) (order row) e in
        next_missing rows cols lines last row c size up none range same (has.below last up.there same) lt (next_within rows cols last) (next_is rows cols last up.range (next_within rows cols last) refl)
    by_same false e = first_missing rows cols lines (Some last) row c size up none lt (none_beyond rows cols lines last row up (by_lt (cases_lt (order last) (order row))))
      where
        by_lt : (order last < order row) ⊎ (order row ≤ order last) → order last < order row
        by_lt (inl h) = h
        by_lt (inr h) = let g = ltb-false (order row) (order last) late in absurd (eqb-false (order last) (order row) e (omega (arith, g, h)))

pub placed_wrong : (rows cols : ℕ) (lines : List RowLine) (last : Option Row) (line : RowLine) (c : ℕ) (after : Said) (kind : CertFaultKind) → IsSize rows cols → IsUpTo rows cols lines last → HasFirstLines rows cols lines line.row c
    → place_fault rows cols last c line.row ≡ Some kind → JudgesRow rows cols lines line after (Err kind)
placed_wrong rows cols lines last line c after kind size up has h = by_range (allows rows cols line.row) refl h
  where
    kind_is : (k : CertFaultKind) → Some k ≡ Some kind → refusal kind ≡ refusal k
    kind_is k e = ap (λ (x : CertFaultKind). refusal x) (sym (same_Some k kind e))

    by_early : (t : Bool) → (rank rows cols line.row == c) ≡ t → IsInRange rows cols line.row → is_late last line.row ≡ false → c ≤ rank rows cols line.row → missing rows cols last (order line.row) ≡ None
        → (if t then None else Some (missing_line (or_row (expected rows cols last line.row) line.row))) ≡ Some kind → JudgesRow rows cols lines line after (Err kind)
    by_early true e range late le none f = absurd (none-some kind f)
    by_early false e range late le none f =
        let lt : c < rank rows cols line.row = by_lt (cases_lt c (rank rows cols line.row)) in
        TooEarly range (behind_last rows cols lines last line.row c up has late le) (or_row (expected rows cols last line.row) line.row)
        (own_missing rows cols lines last line.row c size up has range late none lt) (kind_is (missing_line (or_row (expected rows cols last line.row) line.row)) f)
      where
        by_lt : (c < rank rows cols line.row) ⊎ (rank rows cols line.row ≤ c) → c < rank rows cols line.row
        by_lt (inl k) = k
        by_lt (inr k) = absurd (eqb-false (rank rows cols line.row) c e (omega (arith, k, le)))

    by_missing : (o : Option Row) → missing rows cols last (order line.row) ≡ o → IsInRange rows cols line.row → is_late last line.row ≡ false → c ≤ rank rows cols line.row
        → or_missing o (early_fault rows cols last c line.row) ≡ Some kind → JudgesRow rows cols lines line after (Err kind)
    by_missing (Some m) e range late le f = TooEarly range (behind_last rows cols lines last line.row c up has late le) m (missing_first rows cols lines last line.row m size up e) (kind_is (missing_line m) f)
    by_missing None e range late le f = by_early (rank rows cols line.row == c) refl range late le e f

    by_late : (t : Bool) → (is_late last line.row || nat_lt (rank rows cols line.row) c) ≡ t → IsInRange rows cols line.row
        → (if t then Some OutOfOrder else or_missing (missing rows cols last (order line.row)) (early_fault rows cols last c line.row)) ≡ Some kind → JudgesRow rows cols lines line after (Err kind)
    by_late true e range f = TooLate range (by_cases (or_cases (is_late last line.row) (nat_lt (rank rows cols line.row) c) e)) (kind_is OutOfOrder f)
      where
        by_cases : (is_late last line.row ≡ true) ⊎ (nat_lt (rank rows cols line.row) c ≡ true) → IsLate rows cols lines line.row
        by_cases (inl l) = is_late_line rows cols lines last line.row up l
        by_cases (inr l) = let g = has.there line.row range refl (ltb-true (rank rows cols line.row) c l) in record { line = g.line; among = g.among; late = inl g.of_row }
    by_late false e range f =
        let p = or_parts (is_late last line.row) (nat_lt (rank rows cols line.row) c) e in
        by_missing (missing rows cols last (order line.row)) refl range p.0 (ltb-false (rank rows cols line.row) c p.1) f

    by_range : (t : Bool) → allows rows cols line.row ≡ t
        → (if t then (if is_late last line.row || nat_lt (rank rows cols line.row) c then Some OutOfOrder else or_missing (missing rows cols last (order line.row)) (early_fault rows cols last c line.row)) else Some BadLine) ≡ Some kind
        → JudgesRow rows cols lines line after (Err kind)
    by_range true e f = by_late (is_late last line.row || nat_lt (rank rows cols line.row) c) refl (in_range rows cols line.row e) f
    by_range false e f = NotAllowed (λ range. true≢false (sym (is_allowed rows cols line.row range) ∙ e)) (kind_is BadLine f)

pub placed_right : (rows cols : ℕ) (lines : List RowLine) (last : Option Row) (row : Row) (c : ℕ) → IsSize rows cols → IsUpTo rows cols lines last → HasFirstLines rows cols lines row c
    → place_fault rows cols last c row ≡ None → IsInPlace rows cols lines row
placed_right rows cols lines last row c size up has h = by_range (allows rows cols row) refl h
  where
    some_none : {A : Type 0} {B : Type 0} (x : A) → Some x ≡ None → B
    some_none x e = absurd (none-some x (sym e))

    by_early : (t : Bool) → (rank rows cols row == c) ≡ t → IsInRange rows cols row → is_late last row ≡ false → c ≤ rank rows cols row → missing rows cols last (order row) ≡ None
        → (if t then None else Some (missing_line (or_row (expected rows cols last row) row))) ≡ None → IsInPlace rows cols lines row
    by_early false e range late le none f = some_none (missing_line (or_row (expected rows cols last row) row)) f
    by_early true e range late le none f = record {
      range = range;
      behind = behind_last rows cols lines last row c up has late le;
      complete = λ other k.
          let p = own_lacking rows cols lines last row size up none other k in
          let q = p.1 in
          let g : rank rows cols row ≡ c = eqb-true (rank rows cols row) c e in
          k.absent (has.there other k.range p.0 (omega (arith, q, g)));
    }

    by_missing : (o : Option Row) → missing rows cols last (order row) ≡ o → IsInRange rows cols row → is_late last row ≡ false → c ≤ rank rows cols row
        → or_missing o (early_fault rows cols last c row) ≡ None → IsInPlace rows cols lines row
    by_missing (Some m) e range late le f = some_none (missing_line m) f
    by_missing None e range late le f = by_early (rank rows cols row == c) refl range late le e f

    by_late : (t : Bool) → (is_late last row || nat_lt (rank rows cols row) c) ≡ t → IsInRange rows cols row
        → (if t then Some OutOfOrder else or_missing (missing rows cols last (order row)) (early_fault rows cols last c row)) ≡ None → IsInPlace rows cols lines row
    by_late true e range f = some_none OutOfOrder f
    by_late false e range f =
        let p = or_parts (is_late last row) (nat_lt (rank rows cols row) c) e in
        by_missing (missing rows cols last (order row)) refl range p.0 (ltb-false (rank rows cols row) c p.1) f

    by_range : (t : Bool) → allows rows cols row ≡ t
        → (if t then (if is_late last row || nat_lt (rank rows cols row) c then Some OutOfOrder else or_missing (missing rows cols last (order row)) (early_fault rows cols last c row)) else Some BadLine) ≡ None → IsInPlace rows cols lines row
    by_range true e f = by_late (is_late last row || nat_lt (rank rows cols row) c) refl (in_range rows cols row e) f
    by_range false e f = some_none BadLine f
