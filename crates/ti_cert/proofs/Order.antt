-- The consequences of the test of a line's place for the lines before it.
use Rattle.std.proofs.Common.{◌≡◌, ◌⊎◌, ◌<◌, ◌≤◌, ◌+◌, nat_lt, nat_le, ℕ, Bool, true, false, if◌then◌else◌, List, Option, Some, None, inl, inr, refl, sym, ap, subst, ◌∙◌, arith}
use Rattle.std.proofs.lemmas.Bool.{ltb-true, ltb-false, leb-true, leb-false, cases_lt, cases_order, and_parts, and_cases}
use Rattle.std.proofs.lemmas.Option.{same_Some, none-some}
use Rattle.vt_term.specs.Size.{IsSize}
use Rattle.ti_rows.specs.declared.rows.Row.{Row}
use Rattle.ti_rows.specs.Names.{order, first_in_order, HasFirst, capabilities}
use Rattle.ti_rows.specs.Lists.{IsInRange, next, rank, count, IsFirst, Follows}
use Rattle.ti_rows.proofs.NameFacts.{firsts_in_order, orders_small}
use Rattle.ti_rows.proofs.ListFacts.{firsts_in_range, next_follows, ranks_below, last_is_last, one_of_rank}
use Rattle.ti_conforms.proofs.Walks.{same_count}
use Rattle.ti_lines.specs.declared.row_lines.RowLine.{RowLine}
use Rattle.ti_cert.specs.Strings.{allows}
use Rattle.ti_cert.specs.Order.{Precedes, HasLine, HasCap, IsRequiredLine, IsLacking, IsFirstLacking, IsComplete}
use Rattle.ti_cert.specs.Places.{next_within, is_between, required, missing_behind, missing}
use Rattle.ti_cert.specs.Audits.{IsLastRow, IsUpTo}
use Rattle.ti_cert.proofs.Ranges.{is_allowed}
use Rattle.ti_cert.proofs.GroupFacts.{if_true}

less_trans : (rows cols : ℕ) (a b c : Row) → Precedes rows cols a b → Precedes rows cols b c → Precedes rows cols a c
less_trans rows cols a b c (inl h) (inl k) = inl (omega (arith, h, k))
less_trans rows cols a b c (inl h) (inr k) = inl (omega (arith, h, k.0))
less_trans rows cols a b c (inr h) (inl k) = inl (omega (arith, h.0, k))
less_trans rows cols a b c (inr h) (inr k) = inr (h.0 ∙ k.0, omega (arith, h.1, k.1))

-- of any two rows, one precedes the other or both are equal
which_first : (rows cols : ℕ) (a b : Row) → IsInRange rows cols a → IsInRange rows cols b → (a ≡ b) ⊎ (Precedes rows cols a b ⊎ Precedes rows cols b a)
which_first rows cols a b ra rb = by_order (cases_order (order a) (order b))
  where
    by_rank : order a ≡ order b → (rank rows cols a ≡ rank rows cols b) ⊎ ((rank rows cols a < rank rows cols b) ⊎ (rank rows cols b < rank rows cols a)) → (a ≡ b) ⊎ (Precedes rows cols a b ⊎ Precedes rows cols b a)
    by_rank o (inl e) = inl (one_of_rank rows cols a b ra rb o e)
    by_rank o (inr (inl h)) = inr (inl (inr (o, h)))
    by_rank o (inr (inr h)) = inr (inr (inr (sym o, h)))

    by_order : (order a ≡ order b) ⊎ ((order a < order b) ⊎ (order b < order a)) → (a ≡ b) ⊎ (Precedes rows cols a b ⊎ Precedes rows cols b a)
    by_order (inl o) = by_rank o (cases_order (rank rows cols a) (rank rows cols b))
    by_order (inr (inl h)) = inr (inl (inl h))
    by_order (inr (inr h)) = inr (inr (inl h))

-- two rows of one capability are equal, or the one with the lower rank precedes
pub from_rank : (rows cols : ℕ) (a b : Row) → IsInRange rows cols a → IsInRange rows cols b → order a ≡ order b → rank rows cols a ≤ rank rows cols b → (b ≡ a) ⊎ Precedes rows cols a b
from_rank rows cols a b ra rb o h = by_lt (cases_lt (rank rows cols a) (rank rows cols b))
  where
    by_lt : (rank rows cols a < rank rows cols b) ⊎ (rank rows cols b ≤ rank rows cols a) → (b ≡ a) ⊎ Precedes rows cols a b
    by_lt (inl k) = inr (inr (o, k))
    by_lt (inr k) = inl (one_of_rank rows cols b a rb ra (sym o) (omega (arith, h, k)))

-- a line about the row must come before the capability at a place, and isn't among the lines
pub record Lacks (rows cols : ℕ) (lines : List RowLine) (n : ℕ) (row : Row) : Type 0 where
  pub range : IsInRange rows cols row
  pub absent : HasLine lines row → ⊥
  pub before : order row < n
  pub due : IsRequiredLine row ⊎ HasCap lines row

-- a required line, or one of a capability that has lines, comes after the last line if it isn't there
pub lacks_behind : (rows cols : ℕ) (lines : List RowLine) (last row : Row) → IsLastRow rows cols lines last → IsInRange rows cols row → (HasLine lines row → ⊥) → IsRequiredLine row ⊎ HasCap lines row → Precedes rows cols last row
lacks_behind rows cols lines last row l range absent due = by_place (which_first rows cols row last range l.range)
  where
    with_due : IsRequiredLine row ⊎ HasCap lines row → Precedes rows cols row last → ⊥
    with_due (inl d) p = l.complete row (record { range = range; absent = absent; before = p; due = inl d })
    with_due (inr d) p = l.complete row (record { range = range; absent = absent; before = p; due = inr (inl d) })

    by_place : (row ≡ last) ⊎ (Precedes rows cols row last ⊎ Precedes rows cols last row) → Precedes rows cols last row
    by_place (inl e) = absurd (absent (subst (λ (r : Row). HasLine lines r) (sym e) l.there))
    by_place (inr (inl p)) = absurd (with_due due p)
    by_place (inr (inr p)) = p

not_before : (rows cols : ℕ) (a b : Row) → order b < order a → Precedes rows cols a b → ⊥
not_before rows cols a b h (inl k) = omega (arith, h, k)
not_before rows cols a b h (inr k) = omega (arith, h, k.0)

-- no line is about a capability after that of the last line
pub none_beyond : (rows cols : ℕ) (lines : List RowLine) (last row : Row) → IsLastRow rows cols lines last → order last < order row → HasCap lines row → ⊥
none_beyond rows cols lines last row l h c = by_upper (l.upper c.line c.among)
  where
    by_upper : (c.line.row ≡ last) ⊎ Precedes rows cols c.line.row last → ⊥
    by_upper (inl e) = let o : order c.line.row ≡ order last = ap order e in let s : order c.line.row ≡ order row = c.of_cap in omega (arith, h, o, s)
    by_upper (inr p) = let s : order c.line.row ≡ order row = c.of_cap in not_before rows cols c.line.row last (omega (arith, h, s)) p

-- no list follows the last of a capability
pub none_after : (rows cols : ℕ) (last row : Row) → IsSize rows cols → IsInRange rows cols last → next rows cols last ≡ None → IsInRange rows cols row → order row ≡ order last → rank rows cols last < rank rows cols row → ⊥
none_after rows cols last row size rl none range o h =
    let most : rank rows cols last + 1 ≡ count rows cols last = last_is_last rows cols last size rl none in
    let alike : count rows cols row ≡ count rows cols last = same_count rows cols row last o in
    let below : rank rows cols row < count rows cols row = ranks_below rows cols row size range in
    omega (arith, most, alike, below, h)

pub next_is : (rows cols : ℕ) (last : Row) → IsInRange rows cols last → (o : Option Row) → next_within rows cols last ≡ o → next rows cols last ≡ o
next_is rows cols last range o h = sym (if_true (allows rows cols last) (next rows cols last) (is_allowed rows cols last range)) ∙ h

-- the first required capability between two places
record IsFirstRequired (rows cols from to : ℕ) (row : Row) : Type 0 where
  range : IsInRange rows cols row
  rank_zero : rank rows cols row ≡ 0
  from_is : from ≤ order row
  to_is : order row < to
  needed : IsRequiredLine row
  first : (other : Row) → IsRequiredLine other → from ≤ order other → order row ≤ order other

between : (from n to : ℕ) → is_between from n to ≡ true → (from ≤ n) × (n < to)
between from n to h = let p = and_parts (nat_le from n) (nat_lt n to) h in (leb-true from n p.0, ltb-true n to p.1)

not_between : (from n to : ℕ) → is_between from n to ≡ false → from ≤ n → n < to → ⊥
not_between from n to h f t = by_cases (and_cases (nat_le from n) (nat_lt n to) h)
  where
    by_cases : (nat_le from n ≡ false) ⊎ (nat_lt n to ≡ false) → ⊥
    by_cases (inl e) = let g = leb-false from n e in omega (arith, g, f)
    by_cases (inr e) = let g = ltb-false n to e in omega (arith, g, t)

pub first_at : (rows cols n : ℕ) (row : Row) → IsSize rows cols → n < capabilities → first_in_order n ≡ Some row → IsInRange rows cols row × (rank rows cols row ≡ 0) × (order row ≡ n)
first_at rows cols n row size small h =
    let f : HasFirst n = firsts_in_order n small in
    let same : f.row ≡ row = same_Some f.row row (sym f.is_first ∙ h) in
    let g : IsFirst rows cols row = firsts_in_range rows cols n row size h in
    (g.range, g.rank_zero, ap order (sym same) ∙ f.ordered)

at_least : (from n to : ℕ) (row other : Row) → order row ≡ n → IsRequiredLine other → from ≤ order other → ((m : ℕ) → (m ≡ 4) ⊎ ((m ≡ 14) ⊎ (m ≡ 36)) → from ≤ m → n ≤ m) → order row ≤ order other
at_least from n to row other o r f least = let h = least (order other) r f in omega (arith, o, h)

required_some : (rows cols from to : ℕ) (row : Row) → IsSize rows cols → required from to ≡ Some row → IsFirstRequired rows cols from to row
required_some rows cols from to row size h = by_clear (is_between from 4 to) refl h
  where
    made : (n : ℕ) → (from ≤ n) × (n < to) → IsInRange rows cols row × (rank rows cols row ≡ 0) × (order row ≡ n) → (n ≡ 4) ⊎ ((n ≡ 14) ⊎ (n ≡ 36))
        → ((m : ℕ) → (m ≡ 4) ⊎ ((m ≡ 14) ⊎ (m ≡ 36)) → from ≤ m → n ≤ m) → IsFirstRequired rows cols from to row
    made n b f which least = record {
      range = f.0;
      rank_zero = f.1;
      from_is = let o : order row ≡ n = f.2 in let g = b.0 in omega (arith, o, g);
      to_is = let o : order row ≡ n = f.2 in let g = b.1 in omega (arith, o, g);
      needed = subst (λ (m : ℕ). (m ≡ 4) ⊎ ((m ≡ 14) ⊎ (m ≡ 36))) (sym f.2) which;
      first = λ other r g. at_least from n to row other f.2 r g least;
    }

    by_sgr0 : (t : Bool) → is_between from 36 to ≡ t → is_between from 4 to ≡ false → is_between from 14 to ≡ false → (if t then first_in_order 36 else None) ≡ Some row → IsFirstRequired rows cols from to row
    by_sgr0 true b c d e = made 36 (between from 36 to b) (first_at rows cols 36 row size (omega arith) e) (inr (inr refl)) least
      where
        least : (m : ℕ) → (m ≡ 4) ⊎ ((m ≡ 14) ⊎ (m ≡ 36)) → from ≤ m → 36 ≤ m
        least m (inl k) f = absurd (not_between from 4 to c (omega (arith, k, f)) (let g = (between from 36 to b).1 in omega (arith, g)))
        least m (inr (inl k)) f = absurd (not_between from 14 to d (omega (arith, k, f)) (let g = (between from 36 to b).1 in omega (arith, g)))
        least m (inr (inr k)) f = omega (arith, k)
    by_sgr0 false b c d e = cc

    by_cup : (t : Bool) → is_between from 14 to ≡ t → is_between from 4 to ≡ false → (if t then first_in_order 14 else (if is_between from 36 to then first_in_order 36 else None)) ≡ Some row → IsFirstRequired rows cols from to row
    by_cup true b c e = made 14 (between from 14 to b) (first_at rows cols 14 row size (omega arith) e) (inr (inl refl)) least
      where
        least : (m : ℕ) → (m ≡ 4) ⊎ ((m ≡ 14) ⊎ (m ≡ 36)) → from ≤ m → 14 ≤ m
        least m (inl k) f = absurd (not_between from 4 to c (omega (arith, k, f)) (let g = (between from 14 to b).1 in omega (arith, g)))
        least m (inr (inl k)) f = omega (arith, k)
        least m (inr (inr k)) f = omega (arith, k)
    by_cup false b c e = by_sgr0 (is_between from 36 to) refl c b e

    by_clear : (t : Bool) → is_between from 4 to ≡ t → (if t then first_in_order 4 else (if is_between from 14 to then first_in_order 14 else (if is_between from 36 to then first_in_order 36 else None))) ≡ Some row
        → IsFirstRequired rows cols from to row
    by_clear true b e = made 4 (between from 4 to b) (first_at rows cols 4 row size (omega arith) e) (inl refl) least
      where
        least : (m : ℕ) → (m ≡ 4) ⊎ ((m ≡ 14) ⊎ (m ≡ 36)) → from ≤ m → 4 ≤ m
        least m (inl k) f = omega (arith, k)
        least m (inr (inl k)) f = omega (arith, k)
        least m (inr (inr k)) f = omega (arith, k)
    by_clear false b e = by_cup (is_between from 14 to) refl b e

not_first : (n : ℕ) {A : Type 0} → n < capabilities → first_in_order n ≡ None → A
not_first n small h = let f : HasFirst n = firsts_in_order n small in absurd (none-some f.row (sym h ∙ f.is_first))

required_none : (from to : ℕ) → required from to ≡ None → (row : Row) → IsRequiredLine row → from ≤ order row → order row < to → ⊥
required_none from to h row r f t = by_clear (is_between from 4 to) refl h
  where
    which : is_between from 4 to ≡ false → is_between from 14 to ≡ false → is_between from 36 to ≡ false → IsRequiredLine row → ⊥
    which a b c (inl e) = not_between from 4 to a (omega (arith, e, f)) (omega (arith, e, t))
    which a b c (inr (inl e)) = not_between from 14 to b (omega (arith, e, f)) (omega (arith, e, t))
    which a b c (inr (inr e)) = not_between from 36 to c (omega (arith, e, f)) (omega (arith, e, t))

    by_sgr0 : (u : Bool) → is_between from 36 to ≡ u → is_between from 4 to ≡ false → is_between from 14 to ≡ false → (if u then first_in_order 36 else None) ≡ None → ⊥
    by_sgr0 true b c d e = not_first 36 (omega arith) e
    by_sgr0 false b c d e = which c d b r

    by_cup : (u : Bool) → is_between from 14 to ≡ u → is_between from 4 to ≡ false → (if u then first_in_order 14 else (if is_between from 36 to then first_in_order 36 else None)) ≡ None → ⊥
    by_cup true b c e = not_first 14 (omega arith) e
    by_cup false b c e = by_sgr0 (is_between from 36 to) refl c b e

    by_clear : (u : Bool) → is_between from 4 to ≡ u → (if u then first_in_order 4 else (if is_between from 14 to then first_in_order 14 else (if is_between from 36 to then first_in_order 36 else None))) ≡ None → ⊥
    by_clear true b e = not_first 4 (omega arith) e
    by_clear false b e = by_cup (is_between from 14 to) refl b e

-- the row's line is the first one that must come before the capability at a place and isn't there
pub record IsFirstLack (rows cols : ℕ) (lines : List RowLine) (n : ℕ) (row : Row) : Type 0 where
  pub lacks : Lacks rows cols lines n row
  pub first : (other : Row) → Lacks rows cols lines n other → (other ≡ row) ⊎ Precedes rows cols row other

by_required : (rows cols : ℕ) (lines : List RowLine) (from n : ℕ) (row : Row) → IsFirstRequired rows cols from n row → (HasCap lines row → ⊥)
    → ((other : Row) → Lacks rows cols lines n other → IsRequiredLine other × (from ≤ order other)) → IsFirstLack rows cols lines n row
by_required rows cols lines from n row q none others = record {
  lacks = record { range = q.range; absent = λ h. none (record { line = h.line; among = h.among; of_cap = ap order h.of_row }); before = q.to_is; due = inl q.needed };
  first = λ other l. by_order other l (q.first other (others other l).0 (others other l).1);
}
  where
    by_order : (other : Row) → Lacks rows cols lines n other → order row ≤ order other → (other ≡ row) ⊎ Precedes rows cols row other
    by_order other l h = by_lt (cases_lt (order row) (order other))
      where
        by_lt : (order row < order other) ⊎ (order other ≤ order row) → (other ≡ row) ⊎ Precedes rows cols row other
        by_lt (inl k) = inr (inl k)
        by_lt (inr k) = let z = q.rank_zero in from_rank rows cols row other q.range l.range (omega (arith, h, k)) (omega (arith, z))

-- after a last line whose capability is whole, or is that of the place, a lacking line is a required one of a later
-- capability
later_required : (rows cols : ℕ) (lines : List RowLine) (last : Row) (n : ℕ) → IsSize rows cols → IsLastRow rows cols lines last → (order last < n → next rows cols last ≡ None)
    → (other : Row) → Lacks rows cols lines n other → IsRequiredLine other × (order last + 1 ≤ order other)
later_required rows cols lines last n size l whole other k = by_place (lacks_behind rows cols lines last other l k.range k.absent k.due)
  where
    by_due : order last < order other → IsRequiredLine other ⊎ HasCap lines other → IsRequiredLine other × (order last + 1 ≤ order other)
    by_due h (inl d) = (d, omega (arith, h))
    by_due h (inr d) = absurd (none_beyond rows cols lines last other l h d)

    by_place : Precedes rows cols last other → IsRequiredLine other × (order last + 1 ≤ order other)
    by_place (inl h) = by_due h k.due
    by_place (inr h) = let o = k.before in absurd (none_after rows cols last other size l.range (whole (omega (arith, h.0, o))) k.range (sym h.0) h.1)

pub missing_some : (rows cols : ℕ) (lines : List RowLine) (last : Option Row) (n : ℕ) (row : Row) → IsSize rows cols → IsUpTo rows cols lines last → missing rows cols last n ≡ Some row → IsFirstLack rows cols lines n row
missing_some rows cols lines None n row size none h =
    by_required rows cols lines 0 n row (required_some rows cols 0 n row size h) (λ c. none c.line c.among) (λ other k. (of_due k.due, omega arith))
  where
    of_due : {other : Row} → IsRequiredLine other ⊎ HasCap lines other → IsRequiredLine other
    of_due (inl d) = d
    of_due (inr c) = absurd (none c.line c.among)
missing_some rows cols lines (Some last) n row size l h = by_next (next_within rows cols last) refl h
  where
    behind : (order last < n → next rows cols last ≡ None) → required (order last + 1) n ≡ Some row → IsFirstLack rows cols lines n row
    behind whole e =
        let q = required_some rows cols (order last + 1) n row size e in
        by_required rows cols lines (order last + 1) n row q (none_beyond rows cols lines last row l (let f = q.from_is in omega (arith, f))) (later_required rows cols lines last n size l whole)

    rest : (follower : Row) → next rows cols last ≡ Some follower → order last < n → follower ≡ row → IsFirstLack rows cols lines n row
    rest follower e lt same = subst (λ (r : Row). IsFirstLack rows cols lines n r) same (record {
      lacks = record { range = f.range; absent = absent; before = omega (arith, lt, f.same_order); due = inr (record { line = l.there.line; among = l.there.among; of_cap = ap order l.there.of_row ∙ sym f.same_order }) };
      first = λ other k. first other k (lacks_behind rows cols lines last other l k.range k.absent k.due);
    })
      where
        f : Follows rows cols last follower
        f = next_follows rows cols last follower size l.range e

        absent : HasLine lines follower → ⊥
        absent hl = by_upper (l.upper hl.line hl.among)
          where
            by_upper : (hl.line.row ≡ last) ⊎ Precedes rows cols hl.line.row last → ⊥
            by_upper (inl e2) = let r : rank rows cols follower ≡ rank rows cols last = ap (λ (x : Row). rank rows cols x) (sym hl.of_row ∙ e2) in omega (arith, r, f.rank_next)
            by_upper (inr (inl p)) = let r : order hl.line.row ≡ order follower = ap order hl.of_row in omega (arith, r, p, f.same_order)
            by_upper (inr (inr p)) = let r : rank rows cols hl.line.row ≡ rank rows cols follower = ap (λ (x : Row). rank rows cols x) hl.of_row in let q = p.1 in omega (arith, r, q, f.rank_next)

        first : (other : Row) → Lacks rows cols lines n other → Precedes rows cols last other → (other ≡ follower) ⊎ Precedes rows cols follower other
        first other k (inl p) = inr (inl (omega (arith, p, f.same_order)))
        first other k (inr p) = let q = p.1 in from_rank rows cols follower other f.range k.range (f.same_order ∙ p.0) (omega (arith, q, f.rank_next))

    by_lt : (follower : Row) → next_within rows cols last ≡ Some follower → (t : Bool) → nat_lt (order last) n ≡ t → (if t then Some follower else required (order last + 1) n) ≡ Some row → IsFirstLack rows cols lines n row
    by_lt follower e true lt same = rest follower (next_is rows cols last l.range (Some follower) e) (ltb-true (order last) n lt) (same_Some follower row same)
    by_lt follower e false lt same = behind (λ k. let g = ltb-false (order last) n lt in absurd (omega (arith, g, k))) same

    by_next : (o : Option Row) → next_within rows cols last ≡ o → missing_behind o (order last) n ≡ Some row → IsFirstLack rows cols lines n row
    by_next None e same = behind (λ k. next_is rows cols last l.range None e) same
    by_next (Some follower) e same = by_lt follower e (nat_lt (order last) n) refl same

pub missing_none : (rows cols : ℕ) (lines : List RowLine) (last : Option Row) (n : ℕ) → IsSize rows cols → IsUpTo rows cols lines last → missing rows cols last n ≡ None → (row : Row) → Lacks rows cols lines n row → ⊥
missing_none rows cols lines None n size none h row k = required_none 0 n h row (of_due k.due) (omega arith) k.before
  where
    of_due : {other : Row} → IsRequiredLine other ⊎ HasCap lines other → IsRequiredLine other
    of_due (inl d) = d
    of_due (inr c) = absurd (none c.line c.among)
missing_none rows cols lines (Some last) n size l h row k = by_next (next_within rows cols last) refl h
  where
    behind : (order last < n → next rows cols last ≡ None) → required (order last + 1) n ≡ None → ⊥
    behind whole e = let q = later_required rows cols lines last n size l whole row k in required_none (order last + 1) n e row q.0 q.1 k.before

    by_lt : (follower : Row) → (t : Bool) → nat_lt (order last) n ≡ t → (if t then Some follower else required (order last + 1) n) ≡ None → ⊥
    by_lt follower true lt same = absurd (none-some follower (sym same))
    by_lt follower false lt same = behind (λ m. let g = ltb-false (order last) n lt in absurd (omega (arith, g, m))) same

    by_next : (o : Option Row) → next_within rows cols last ≡ o → missing_behind o (order last) n ≡ None → ⊥
    by_next None e same = behind (λ m. next_is rows cols last l.range None e) same
    by_next (Some follower) e same = by_lt follower (nat_lt (order last) n) refl same

-- a line that is missing before the last line of the text is missing before the place after all capabilities
lacks_at_end : (rows cols : ℕ) (lines : List RowLine) (row : Row) → IsLacking rows cols lines None row → Lacks rows cols lines capabilities row
lacks_at_end rows cols lines row k = record { range = k.range; absent = k.absent; before = orders_small row; due = due k.due }
  where
    due : IsRequiredLine row ⊎ (HasCap lines row ⊎ ⊥) → IsRequiredLine row ⊎ HasCap lines row
    due (inl d) = inl d
    due (inr (inl c)) = inr c
    due (inr (inr z)) = absurd z

pub missing_at_end : (rows cols : ℕ) (lines : List RowLine) (last : Option Row) (row : Row) → IsSize rows cols → IsUpTo rows cols lines last → missing rows cols last capabilities ≡ Some row → IsFirstLacking rows cols lines None row
missing_at_end rows cols lines last row size up h =
    let m = missing_some rows cols lines last capabilities row size up h in
    record { lacking = record { range = m.lacks.range; absent = m.lacks.absent; before = tt; due = due m.lacks.due }; first = λ other k. m.first other (lacks_at_end rows cols lines other k) }
  where
    due : IsRequiredLine row ⊎ HasCap lines row → IsRequiredLine row ⊎ (HasCap lines row ⊎ ⊥)
    due (inl d) = inl d
    due (inr c) = inr (inl c)

pub complete_at_end : (rows cols : ℕ) (lines : List RowLine) (last : Option Row) → IsSize rows cols → IsUpTo rows cols lines last → missing rows cols last capabilities ≡ None → IsComplete rows cols lines None
complete_at_end rows cols lines last size up h row k = missing_none rows cols lines last capabilities size up h row (lacks_at_end rows cols lines row k)
