-- The rows of a basic certificate are in order, and none of them is missing.
use Rattle.std.proofs.Common.{◌≡◌, ◌⊎◌, ◌<◌, ◌≤◌, ◌+◌, ◌*◌, ◌==◌, ℕ, zero, suc, Bool, true, false, if◌then◌else◌, List, [], ◌∷◌, ◌++◌, map, Option, Some, None, inl, inr, refl, sym, ap, subst, ◌∙◌, arith}
use Rattle.std.specs.List.{flat_map, range_with_len}
use Rattle.std.proofs.Math.Nat.{mul-le-mul_right}
use Rattle.std.proofs.lemmas.Bool.{cases_eq}
use Rattle.ti_conforms.specs.Charsets.{IsAmong}
use Rattle.ti_rows.specs.declared.rows.Row.{Row}
use Rattle.ti_rows.specs.declared.rows.Row.TheVariants.{Clear, Cup, Home, El, Sgr0}
use Rattle.ti_rows.specs.Names.{order}
use Rattle.ti_rows.specs.Lists.{IsInRange}
use Rattle.ti_lines.specs.declared.row_lines.RowLine.{RowLine}
use Rattle.ti_cert.specs.Order.{Precedes, HasLine, HasCap, IsRequiredLine, IsOfCap, IsLacking, IsComplete, IsInPlace}
use Rattle.ti_cert.specs.Basic.{basic_line, is_basic, places, only_if, basic_rows}
use Rattle.ti_cert.proofs.Elements.{among_front, among_behind, among_either, RisesBy}
use Rattle.ti_cert.proofs.Singleness.{never_itself, never_back}

-- ---- rows that rise

abbrev pub Rises : ℕ → ℕ → List Row → Type 0
Rises rows cols list = RisesBy (Precedes rows cols) list

rises_both : (rows cols : ℕ) (xs ys : List Row) → Rises rows cols xs → Rises rows cols ys → ((x y : Row) → IsAmong xs x → IsAmong ys y → Precedes rows cols x y) → Rises rows cols (xs ++ ys)
rises_both rows cols [] ys p q h = q
rises_both rows cols (x ∷ xs) ys p q h =
    (λ y a. by_part y (among_either xs ys y a), rises_both rows cols xs ys p.1 q (λ u v a b. h u v (inr a) b))
  where
    by_part : (y : Row) → IsAmong xs y ⊎ IsAmong ys y → Precedes rows cols x y
    by_part y (inl a) = p.0 y a
    by_part y (inr a) = h x y (inl refl) a

-- ---- the places of the screen

abbrev of_line : ℕ → ℕ → ℕ → List Row
of_line row from n = map (λ col. Cup row col) (range_with_len from n)

record InLine (row from n : ℕ) (other : Row) : Type 0 where
  col : ℕ
  is : other ≡ Cup row col
  low : from ≤ col
  high : col < from + n

in_line : (row from n : ℕ) (other : Row) → IsAmong (of_line row from n) other → InLine row from n other
in_line row from zero other a = absurd a
in_line row from (suc n) other (inl e) = record { col = from; is = e; low = omega arith; high = omega arith }
in_line row from (suc n) other (inr a) = let k = in_line row (from + 1) n other a in let l = k.low in let h = k.high in record { col = k.col; is = k.is; low = omega (arith, l); high = omega (arith, h) }

line_has : (row from n col : ℕ) → from ≤ col → col < from + n → IsAmong (of_line row from n) (Cup row col)
line_has row from zero col l h = absurd (omega (arith, l, h))
line_has row from (suc n) col l h = elim (cases_eq col from) [
  | inl e ↦ inl (ap (λ (c : ℕ). Cup row c) e)
  | inr other ↦ inr (line_has row (from + 1) n col (omega (arith, l, other)) (omega (arith, h)))
]

further : (p a b : ℕ) → a < b → p + a < p + b
further p a b h = omega (arith, h)

line_rises : (rows cols row from n : ℕ) → Rises rows cols (of_line row from n)
line_rises rows cols row from zero = tt
line_rises rows cols row from (suc n) = (
  λ other a. let k = in_line row (from + 1) n other a in let l = k.low in
      subst (λ (r : Row). Precedes rows cols (Cup row from) r) (sym k.is) (inr (refl, further (row * cols) from k.col (omega (arith, l)))),
  line_rises rows cols row (from + 1) n,
)

abbrev of_lines : ℕ → ℕ → ℕ → List Row
of_lines cols from n = flat_map (λ row. of_line row 0 cols) (range_with_len from n)

record InLines (cols from n : ℕ) (other : Row) : Type 0 where
  row : ℕ
  col : ℕ
  is : other ≡ Cup row col
  low : from ≤ row
  high : row < from + n
  within : col < cols

in_lines : (cols from n : ℕ) (other : Row) → IsAmong (of_lines cols from n) other → InLines cols from n other
in_lines cols from zero other a = absurd a
in_lines cols from (suc n) other a = by_line (among_either (of_line from 0 cols) (of_lines cols (from + 1) n) other a) (λ b. in_lines cols (from + 1) n other b)
  where
    by_line : IsAmong (of_line from 0 cols) other ⊎ IsAmong (of_lines cols (from + 1) n) other → (IsAmong (of_lines cols (from + 1) n) other → InLines cols (from + 1) n other) → InLines cols from (suc n) other
    by_line (inl b) later = let k = in_line from 0 cols other b in let h = k.high in record { row = from; col = k.col; is = k.is; low = omega arith; high = omega arith; within = omega (arith, h) }
    by_line (inr b) later = let k = later b in let l = k.low in let h = k.high in record { row = k.row; col = k.col; is = k.is; low = omega (arith, l); high = omega (arith, h); within = k.within }

lines_have : (cols from n row col : ℕ) → from ≤ row → row < from + n → col < cols → IsAmong (of_lines cols from n) (Cup row col)
lines_have cols from zero row col l h w = absurd (omega (arith, l, h))
lines_have cols from (suc n) row col l h w = elim (cases_eq row from) [
  | inl e ↦ among_front (of_line from 0 cols) (of_lines cols (from + 1) n) (Cup row col) (subst (λ (r : ℕ). IsAmong (of_line r 0 cols) (Cup row col)) e (line_has row 0 cols col (omega arith) (omega (arith, w))))
  | inr other ↦ among_behind (of_line from 0 cols) (of_lines cols (from + 1) n) (Cup row col) (lines_have cols (from + 1) n row col (omega (arith, l, other)) (omega (arith, h)) w)
]

-- a place in an earlier line comes before one in a later line
later_line : (rows cols a b c d : ℕ) → a < b → c < cols → Precedes rows cols (Cup a c) (Cup b d)
later_line rows cols a b c d h w = inr (refl, let m = mul-le-mul_right {m = a + 1} {n = b} cols (omega (arith, h)) in below (a * cols) (b * cols) c d cols w (next a cols m))
  where
    next : (a k : ℕ) → (a + 1) * k ≤ b * k → a * k + k ≤ b * k
    next a k m = omega (arith, m)

    below : (p q c d k : ℕ) → c < k → p + k ≤ q → p + c < q + d
    below p q c d k x y = omega (arith, x, y)

lines_rise : (rows cols from n : ℕ) → Rises rows cols (of_lines cols from n)
lines_rise rows cols from zero = tt
lines_rise rows cols from (suc n) = rises_both rows cols (of_line from 0 cols) (of_lines cols (from + 1) n) (line_rises rows cols from 0 cols) (lines_rise rows cols (from + 1) n) before
  where
    before : (x y : Row) → IsAmong (of_line from 0 cols) x → IsAmong (of_lines cols (from + 1) n) y → Precedes rows cols x y
    before x y a b =
        let i = in_line from 0 cols x a in
        let j = in_lines cols (from + 1) n y b in
        let h = i.high in
        let l = j.low in
        subst (λ (r : Row). Precedes rows cols r y) (sym i.is) (subst (λ (r : Row). Precedes rows cols (Cup from i.col) r) (sym j.is)
        (later_line rows cols from j.row i.col j.col (omega (arith, l)) (omega (arith, h))))

-- ---- all rows

only_one : (there : Bool) (row other : Row) → IsAmong (only_if there row) other → (there ≡ true) × (other ≡ row)
only_one true row other (inl e) = (refl, e)
only_one true row other (inr a) = absurd a
only_one false row other a = absurd a

one_rises : (rows cols : ℕ) (there : Bool) (row : Row) → Rises rows cols (only_if there row)
one_rises rows cols true row = (λ other a. absurd a, tt)
one_rises rows cols false row = tt

-- each row of the list, by its kind
pub data Kind (rows cols : ℕ) (home el : Bool) (row : Row) : Type 0 where
  IsClear : row ≡ Clear → Kind rows cols home el row
  IsCup : (r c : ℕ) → row ≡ Cup r c → r < rows → c < cols → Kind rows cols home el row
  IsEl : el ≡ true → row ≡ El → Kind rows cols home el row
  IsHome : home ≡ true → row ≡ Home → Kind rows cols home el row
  IsSgr0 : row ≡ Sgr0 → Kind rows cols home el row

abbrev after_places : Bool → Bool → List Row
after_places home el = only_if el El ++ (only_if home Home ++ Sgr0 ∷ [])

kind_after : (rows cols : ℕ) (home el : Bool) (row : Row) → IsAmong (after_places home el) row → Kind rows cols home el row
kind_after rows cols home el row a = by_el (among_either (only_if el El) (only_if home Home ++ Sgr0 ∷ []) row a)
  where
    by_home : IsAmong (only_if home Home) row ⊎ IsAmong (Sgr0 ∷ []) row → Kind rows cols home el row
    by_home (inl b) = let k = only_one home Home row b in IsHome k.0 k.1
    by_home (inr (inl e)) = IsSgr0 e
    by_home (inr (inr b)) = absurd b

    by_el : IsAmong (only_if el El) row ⊎ IsAmong (only_if home Home ++ Sgr0 ∷ []) row → Kind rows cols home el row
    by_el (inl b) = let k = only_one el El row b in IsEl k.0 k.1
    by_el (inr b) = by_home (among_either (only_if home Home) (Sgr0 ∷ []) row b)

pub kind_of : (rows cols : ℕ) (home el : Bool) (row : Row) → IsAmong (basic_rows rows cols home el) row → Kind rows cols home el row
kind_of rows cols home el row (inl e) = IsClear e
kind_of rows cols home el row (inr a) = by_place (among_either (places rows cols) (after_places home el) row a)
  where
    by_place : IsAmong (places rows cols) row ⊎ IsAmong (after_places home el) row → Kind rows cols home el row
    by_place (inl b) = let k = in_lines cols 0 rows row b in let h = k.high in IsCup k.row k.col k.is (omega (arith, h)) k.within
    by_place (inr b) = kind_after rows cols home el row b

has_one : (row : Row) → IsAmong (only_if true row) row
has_one row = inl refl

pub each_there : (rows cols : ℕ) (home el : Bool) (row : Row) → IsInRange rows cols row → is_basic home el row ≡ true → IsAmong (basic_rows rows cols home el) row
each_there rows cols home el Clear range is = inl refl
each_there rows cols home el (Cup r c) range is = inr (among_front (places rows cols) (after_places home el) (Cup r c) (lines_have cols 0 rows r c (omega arith) (let h = range.0 in omega (arith, h)) range.1))
each_there rows cols home el El range is = inr (among_behind (places rows cols) (after_places home el) El (among_front (only_if el El) (only_if home Home ++ Sgr0 ∷ []) El (subst (λ (b : Bool). IsAmong (only_if b El) El) (sym is) (has_one El))))
each_there rows cols home el Home range is =
    inr (among_behind (places rows cols) (after_places home el) Home (among_behind (only_if el El) (only_if home Home ++ Sgr0 ∷ []) Home
    (among_front (only_if home Home) (Sgr0 ∷ []) Home (subst (λ (b : Bool). IsAmong (only_if b Home) Home) (sym is) (has_one Home)))))
each_there rows cols home el Sgr0 range is =
    inr (among_behind (places rows cols) (after_places home el) Sgr0 (among_behind (only_if el El) (only_if home Home ++ Sgr0 ∷ []) Sgr0 (among_behind (only_if home Home) (Sgr0 ∷ []) Sgr0 (inl refl))))
each_there rows cols home el _ range is = cc

pub in_range : (rows cols : ℕ) (home el : Bool) (row : Row) → Kind rows cols home el row → IsInRange rows cols row × (is_basic home el row ≡ true)
in_range rows cols home el row (IsClear e) = rw e (tt, refl)
in_range rows cols home el row (IsCup r c e h k) = rw e ((h, k), refl)
in_range rows cols home el row (IsEl there e) = rw e (tt, there)
in_range rows cols home el row (IsHome there e) = rw e (tt, there)
in_range rows cols home el row (IsSgr0 e) = rw e (tt, refl)

by_order : (rows cols : ℕ) (a b x y : Row) → a ≡ x → b ≡ y → order x < order y → Precedes rows cols a b
by_order rows cols a b x y e f h = rw (e, f) (inl h)

pub rows_rise : (rows cols : ℕ) (home el : Bool) → Rises rows cols (basic_rows rows cols home el)
rows_rise rows cols home el = (clear_first, rises_both rows cols (places rows cols) (after_places home el) (lines_rise rows cols 0 rows) after places_first)
  where
    home_sgr0 : Rises rows cols (only_if home Home ++ Sgr0 ∷ [])
    home_sgr0 = rises_both rows cols (only_if home Home) (Sgr0 ∷ []) (one_rises rows cols home Home) (λ other a. absurd a, tt) first
      where
        first : (x y : Row) → IsAmong (only_if home Home) x → IsAmong (Sgr0 ∷ []) y → Precedes rows cols x y
        first x y a (inl e) = by_order rows cols x y Home Sgr0 (only_one home Home x a).1 e (omega arith)
        first x y a (inr b) = absurd b

    after : Rises rows cols (after_places home el)
    after = rises_both rows cols (only_if el El) (only_if home Home ++ Sgr0 ∷ []) (one_rises rows cols el El) home_sgr0 first
      where
        first : (x y : Row) → IsAmong (only_if el El) x → IsAmong (only_if home Home ++ Sgr0 ∷ []) y → Precedes rows cols x y
        first x y a b = by_part (among_either (only_if home Home) (Sgr0 ∷ []) y b)
          where
            by_part : IsAmong (only_if home Home) y ⊎ IsAmong (Sgr0 ∷ []) y → Precedes rows cols x y
            by_part (inl c) = by_order rows cols x y El Home (only_one el El x a).1 (only_one home Home y c).1 (omega arith)
            by_part (inr (inl e)) = by_order rows cols x y El Sgr0 (only_one el El x a).1 e (omega arith)
            by_part (inr (inr c)) = absurd c

    from_kind : (x y z : Row) → x ≡ z → order z < 21 → IsAmong (after_places home el) y → Precedes rows cols x y
    from_kind x y z e h a = by_el (among_either (only_if el El) (only_if home Home ++ Sgr0 ∷ []) y a)
      where
        by_home : IsAmong (only_if home Home) y ⊎ IsAmong (Sgr0 ∷ []) y → Precedes rows cols x y
        by_home (inl b) = by_order rows cols x y z Home e (only_one home Home y b).1 (omega (arith, h))
        by_home (inr (inl f)) = by_order rows cols x y z Sgr0 e f (omega (arith, h))
        by_home (inr (inr b)) = absurd b

        by_el : IsAmong (only_if el El) y ⊎ IsAmong (only_if home Home ++ Sgr0 ∷ []) y → Precedes rows cols x y
        by_el (inl b) = by_order rows cols x y z El e (only_one el El y b).1 (omega (arith, h))
        by_el (inr b) = by_home (among_either (only_if home Home) (Sgr0 ∷ []) y b)

    places_first : (x y : Row) → IsAmong (places rows cols) x → IsAmong (after_places home el) y → Precedes rows cols x y
    places_first x y a b = let k = in_lines cols 0 rows x a in from_kind x y (Cup k.row k.col) k.is (omega arith) b

    clear_first : (y : Row) → IsAmong (places rows cols ++ after_places home el) y → Precedes rows cols Clear y
    clear_first y a = by_place (among_either (places rows cols) (after_places home el) y a)
      where
        by_place : IsAmong (places rows cols) y ⊎ IsAmong (after_places home el) y → Precedes rows cols Clear y
        by_place (inl b) = let k = in_lines cols 0 rows y b in by_order rows cols Clear y Clear (Cup k.row k.col) refl k.is (omega arith)
        by_place (inr b) = from_kind Clear y Clear refl (omega arith) b

-- ---- the order of the lines

abbrev listed_at : Bool → Bool → ℕ → Bool
listed_at home el n = if n == 4 then true else (if n == 14 then true else (if n == 24 then home else (if n == 21 then el else (if n == 36 then true else false))))

by_place_of : (home el : Bool) (row : Row) → is_basic home el row ≡ listed_at home el (order row)
by_place_of home el Clear = refl
by_place_of home el (Cup r c) = refl
by_place_of home el Home = refl
by_place_of home el El = refl
by_place_of home el Sgr0 = refl
by_place_of home el _ = refl

pub same_kind : (home el : Bool) (a b : Row) → order a ≡ order b → is_basic home el a ≡ is_basic home el b
same_kind home el a b e = by_place_of home el a ∙ (ap (listed_at home el) e ∙ sym (by_place_of home el b))

required_listed : (home el : Bool) (row : Row) → IsRequiredLine row → is_basic home el row ≡ true
required_listed home el row (inl e) = same_kind home el row Clear e
required_listed home el row (inr (inl e)) = same_kind home el row (Cup 0 0) e
required_listed home el row (inr (inr e)) = same_kind home el row Sgr0 e

-- these lines are there already, and these rows are left
pub record IsReady (rows cols : ℕ) (home el : Bool) (before : List RowLine) (rest : List Row) : Type 0 where
  pub whole : (row : Row) → IsInRange rows cols row → is_basic home el row ≡ true → HasLine before row ⊎ IsAmong rest row
  pub earlier : (line : RowLine) → IsAmong before line → (row : Row) → IsAmong rest row → Precedes rows cols line.row row
  pub listed : (line : RowLine) → IsAmong before line → is_basic home el line.row ≡ true
  pub each : (row : Row) → IsAmong rest row → Kind rows cols home el row
  pub rises : Rises rows cols rest

pub ready_first : (rows cols : ℕ) (home el : Bool) → IsReady rows cols home el [] (basic_rows rows cols home el)
ready_first rows cols home el = record {
  whole = λ row range is. inr (each_there rows cols home el row range is);
  earlier = λ line a. absurd a;
  listed = λ line a. absurd a;
  each = λ row a. kind_of rows cols home el row a;
  rises = rows_rise rows cols home el;
}

due_listed : (home el : Bool) (before : List RowLine) (next : Option Row) (row : Row) → ((line : RowLine) → IsAmong before line → is_basic home el line.row ≡ true) → (IsOfCap next row → is_basic home el row ≡ true)
    → IsRequiredLine row ⊎ (HasCap before row ⊎ IsOfCap next row) → is_basic home el row ≡ true
due_listed home el before next row listed own (inl d) = required_listed home el row d
due_listed home el before next row listed own (inr (inl c)) = same_kind home el row c.line.row (sym c.of_cap) ∙ listed c.line c.among
due_listed home el before next row listed own (inr (inr o)) = own o

pub ready_place : (rows cols : ℕ) (home el : Bool) (before : List RowLine) (row : Row) (rest : List Row) → IsReady rows cols home el before (row ∷ rest) → IsInPlace rows cols before row
ready_place rows cols home el before row rest r = record {
  range = (in_range rows cols home el row (r.each row (inl refl))).0;
  behind = λ line a. r.earlier line a row (inl refl);
  complete = λ other k. never other k (r.whole other k.range (due_listed home el before (Some row) other r.listed (λ o. same_kind home el other row o ∙ (in_range rows cols home el row (r.each row (inl refl))).1) k.due));
}
  where
    never : (other : Row) → IsLacking rows cols before (Some row) other → HasLine before other ⊎ IsAmong (row ∷ rest) other → ⊥
    never other k (inl h) = k.absent h
    never other k (inr (inl e)) = never_itself rows cols row (subst (λ (x : Row). Precedes rows cols x row) e k.before)
    never other k (inr (inr a)) = never_back rows cols row other (r.rises.0 other a) k.before

pub ready_end : (rows cols : ℕ) (home el : Bool) (before : List RowLine) → IsReady rows cols home el before [] → IsComplete rows cols before None
ready_end rows cols home el before r other k = never (r.whole other k.range (due_listed home el before None other r.listed (λ o. absurd o) k.due))
  where
    never : HasLine before other ⊎ ⊥ → ⊥
    never (inl h) = k.absent h
    never (inr z) = z

pub ready_next : (rows cols : ℕ) (home el : Bool) (before : List RowLine) (row : Row) (rest : List Row) → IsReady rows cols home el before (row ∷ rest) → IsReady rows cols home el (basic_line row ∷ before) rest
ready_next rows cols home el before row rest r = record {
  whole = λ other range is. there other (r.whole other range is);
  earlier = λ line a other b. earlier line other a b;
  listed = λ line a. listed line a;
  each = λ other a. r.each other (inr a);
  rises = r.rises.1;
}
  where
    there : (other : Row) → HasLine before other ⊎ IsAmong (row ∷ rest) other → HasLine (basic_line row ∷ before) other ⊎ IsAmong rest other
    there other (inl h) = inl (record { line = h.line; among = inr h.among; of_row = h.of_row })
    there other (inr (inl e)) = inl (record { line = basic_line row; among = inl refl; of_row = sym e })
    there other (inr (inr a)) = inr a

    earlier : (line : RowLine) (other : Row) → IsAmong (basic_line row ∷ before) line → IsAmong rest other → Precedes rows cols line.row other
    earlier line other (inl e) b = subst (λ (l : RowLine). Precedes rows cols l.row other) (sym e) (r.rises.0 other b)
    earlier line other (inr a) b = r.earlier line a other (inr b)

    listed : (line : RowLine) → IsAmong (basic_line row ∷ before) line → is_basic home el line.row ≡ true
    listed line (inl e) = subst (λ (l : RowLine). is_basic home el l.row ≡ true) (sym e) (in_range rows cols home el row (r.each row (inl refl))).1
    listed line (inr a) = r.listed line a
