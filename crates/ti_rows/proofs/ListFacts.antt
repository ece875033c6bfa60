-- The parameter lists of a row, one after another, and their places.
use Rattle.std.proofs.Common.{◌≡◌, ℕ, zero, suc, ◌+◌, ◌-◌, ◌*◌, ◌/◌, ◌%◌, ◌<◌, ◌≤◌, inl, inr, ◌==◌, nat_lt, Bool, true, false, if◌then◌else◌, List, [], ◌∷◌, Option, Some, None, refl, sym, ap, ◌∙◌, subst, arith, add-one}
use Rattle.std.specs.Cmp.{nat_cmp_is}
use Rattle.std.specs.Cmp.Lexicographic.{slice_cmp}
use Rattle.std.specs.Ordering.{nat_cmp, is_lt, ordering_then}
use Rattle.std.specs.declared.cmp.Ordering.{Ordering}
use Rattle.std.specs.declared.cmp.Ordering.TheVariants.{Less, Equal, Greater}
use Rattle.std.proofs.lemmas.Option.{same_Some, none-some, slice_get_within}
use Rattle.std.proofs.lemmas.Bool.{agree_below, ltb-true, ltb-false, eqb-true, cases_order}
use Rattle.std.proofs.Math.Nat.{add-mul, mul-add, mul-le-mul_right, mul-div_cancel_left}
use Rattle.vt_term.specs.Size.{IsSize}
use Rattle.vt_term.specs.Color.{Color, color, color_number, Black, Red, Green, Yellow, Blue, Magenta, Cyan, White}
use Rattle.ti_rows.specs.Bits.{bit, number_of}
use Rattle.ti_rows.specs.Names.{order, firsts, first_in_order, no_attributes, HasFirst, capabilities}
use Rattle.ti_rows.specs.Params.{params, only_number, two_numbers, only_color, nine_bits}
use Rattle.ti_rows.specs.Rows.{Attributes, Row, Clear, Cup, Home, Cr, Hpa, Vpa, Cub1, Cuf1, Cuu1, Cud1, Cub, Cuf, Cuu, Cud, El, El1, Ed, Ech, Sgr, Sgr0, Setaf, Setab, Op, Smul, Rev, Blink, Dim, Bold, Invis, Smso, Enacs, Smacs, Rmacs, Csr, Ind, Ri, Civis, Cnorm, Cvvis, Smcup, Rmcup, Bel}
use Rattle.ti_rows.specs.Lists.{IsInRange, attributes_of, above, next, rank, count, IsFirst, FirstsInRange, Follows, NextFollows, LastIsLast, RanksBelow, OneOfRank, HasRank, EachReached}
use Rattle.ti_rows.proofs.NameFacts.{each_at, firsts_in_order}
use Rattle.ti_rows.proofs.Readers.{color_back, color_small, Same, same_plain, same_made}

if_some : {G : Type 0} (b : Bool) (x other : Row) (o : Option Row) → (if b then Some x else o) ≡ Some other → (b ≡ true → x ≡ other → G) → (b ≡ false → o ≡ Some other → G) → G
if_some true x other o h there left = there refl (same_Some x other h)
if_some false x other o h there left = left refl h

if_none : {G : Type 0} (b : Bool) (x : Row) (o : Option Row) → (if b then Some x else o) ≡ None → (b ≡ false → o ≡ None → G) → G
if_none true x o h k = absurd (none-some x (sym h))
if_none false x o h k = k refl h

no_row : {G : Type 0} (other : Row) → None ≡ Some other → G
no_row other h = absurd (none-some other h)

-- lines of `cup`
next_line : (row col cols : ℕ) → col < cols → cols ≤ col + 1 → (row + 1) * cols + 0 ≡ row * cols + col + 1
next_line row col cols lt le = omega (arith, add-mul row 1 cols, lt, le)

line_before : (row more col cols : ℕ) → row < more → col < cols → row * cols + col < more * cols
line_before row more col cols lt within = let le : row + 1 ≤ more = omega (arith, lt) in omega (arith, add-mul row 1 cols, mul-le-mul_right cols le, within)

-- lists of `csr`
above_next : (rows top : ℕ) → above rows (top + 1) ≡ above rows top + (rows - 1 - top)
above_next rows top = ap (λ (n : ℕ). above rows n) (add-one top)

above_rises : (rows top more : ℕ) → top < more → above rows top + (rows - 1 - top) ≤ above rows more
above_rises rows top zero lt = absurd (omega (arith, lt))
above_rises rows top (suc more) lt = elim (cases_order top more) [
  | inl e ↦ rw (e) omega arith
  | inr (inl under) ↦ omega (arith, above_rises rows top more under)
  | inr (inr over) ↦ absurd (omega (arith, lt, over))
]

list_before : (rows top bottom more : ℕ) → top < bottom → bottom < rows → top < more → above rows top + (bottom - top - 1) < above rows more
list_before rows top bottom more order within lt = omega (arith, above_rises rows top more lt, order, within)

last_list : (rows top : ℕ) → top + 2 ≡ rows → above rows (rows - 1) ≡ above rows top + 1
last_list rows top e = let one : rows - 1 ≡ top + 1 = omega (arith, e) in ap (λ (n : ℕ). above rows n) one ∙ above_next rows top ∙ omega (arith, e)

-- lists of numbers in order
less_here : (a b : ℕ) (xs ys : List ℕ) → a < b → slice_cmp nat_cmp (a ∷ xs) (b ∷ ys) ≡ Less
less_here a b xs ys lt = ap (λ (o : Ordering). ordering_then o (slice_cmp nat_cmp xs ys)) (sym (nat_cmp_is a b Less lt))

less_later : (a : ℕ) (xs ys : List ℕ) → slice_cmp nat_cmp xs ys ≡ Less → slice_cmp nat_cmp (a ∷ xs) (a ∷ ys) ≡ Less
less_later a xs ys h = ap (λ (o : Ordering). ordering_then o (slice_cmp nat_cmp xs ys)) (sym (nat_cmp_is a a Equal refl)) ∙ h

less_from : (o : Ordering) → is_lt o ≡ true → o ≡ Less
less_from Less e = refl
less_from Equal e = cc
less_from Greater e = cc

-- attributes
bit_small : (b : Bool) → bit b ≤ 1
bit_small true = omega arith
bit_small false = omega arith

digit : (x : ℕ) (b : Bool) → x ≡ bit b → (x == 1) ≡ b
digit x true h = ap (λ (n : ℕ). n == 1) h
digit x false h = ap (λ (n : ℕ). n == 1) h

same_attributes : {s s' u u' r r' k k' d d' b b' i i' : Bool} → s ≡ s' → u ≡ u' → r ≡ r' → k ≡ k' → d ≡ d' → b ≡ b' → i ≡ i'
    → ◌≡◌ {A = Attributes} (record { standout = s; underline = u; reverse = r; blink = k; dim = d; bold = b; invisible = i }) (record { standout = s'; underline = u'; reverse = r'; blink = k'; dim = d'; bold = b'; invisible = i' })
same_attributes a b c d e f g = cc

-- the digits of a set's number, from the last on
record Digits (n : ℕ) (a : Attributes) : Type 0 where
  standout : n / 64 ≡ bit a.standout
  underline : n / 32 % 2 ≡ bit a.underline
  reverse : n / 16 % 2 ≡ bit a.reverse
  blink : n / 8 % 2 ≡ bit a.blink
  dim : n / 4 % 2 ≡ bit a.dim
  bold : n / 2 % 2 ≡ bit a.bold
  invisible : n % 2 ≡ bit a.invisible

digits_of : (n s u r k d b i : ℕ) → s ≤ 1 → u ≤ 1 → r ≤ 1 → k ≤ 1 → d ≤ 1 → b ≤ 1 → i ≤ 1 → n ≡ 64 * s + 32 * u + 16 * r + 8 * k + 4 * d + 2 * b + i
    → (n / 64 ≡ s) × (n / 32 % 2 ≡ u) × (n / 16 % 2 ≡ r) × (n / 8 % 2 ≡ k) × (n / 4 % 2 ≡ d) × (n / 2 % 2 ≡ b) × (n % 2 ≡ i)
digits_of n s u r k d b i hs hu hr hk hd hb hi e = (omega arith, omega arith, omega arith, omega arith, omega arith, omega arith, omega arith)

attributes_back : (a : Attributes) → attributes_of (number_of a) ≡ a
unfolding attributes_of
attributes_back a =
    let p = digits_of (number_of a) (bit a.standout) (bit a.underline) (bit a.reverse) (bit a.blink) (bit a.dim) (bit a.bold) (bit a.invisible)
    (bit_small a.standout) (bit_small a.underline) (bit_small a.reverse) (bit_small a.blink) (bit_small a.dim) (bit_small a.bold) (bit_small a.invisible) refl in
    same_attributes (digit _ a.standout p.0) (digit _ a.underline p.1) (digit _ a.reverse p.2) (digit _ a.blink p.3) (digit _ a.dim p.4) (digit _ a.bold p.5) (digit _ a.invisible p.6)

unfoldable is_back : ℕ → Bool
is_back n = number_of (attributes_of n) == n

each_is_back : agree_below is_back (λ _. true) 128 ≡ true
unfolding is_back attributes_of
each_is_back = refl

number_back : (n : ℕ) → n < 128 → number_of (attributes_of n) ≡ n
unfolding is_back
number_back n lt = eqb-true _ n (each_at is_back 128 n each_is_back lt)

unfoldable is_rising : ℕ → Bool
is_rising n = is_lt (slice_cmp nat_cmp (params (Sgr (attributes_of n))) (params (Sgr (attributes_of (n + 1)))))

each_is_rising : agree_below is_rising (λ _. true) 127 ≡ true
unfolding is_rising attributes_of
each_is_rising = refl

bits_rise : (a : Attributes) → number_of a < 127 → slice_cmp nat_cmp (params (Sgr a)) (params (Sgr (attributes_of (number_of a + 1)))) ≡ Less
unfolding is_rising
bits_rise a lt = subst (λ (x : Attributes). slice_cmp nat_cmp (params (Sgr x)) (params (Sgr (attributes_of (number_of a + 1)))) ≡ Less) (attributes_back a) (less_from _ (each_at is_rising 127 (number_of a) each_is_rising lt))

-- colors
next_color : (c : Color) → nat_lt (color_number c) 7 ≡ true → color_number (color (color_number c + 1)) ≡ color_number c + 1
next_color Black h = refl
next_color Red h = refl
next_color Green h = refl
next_color Yellow h = refl
next_color Blue h = refl
next_color Magenta h = refl
next_color Cyan h = refl
next_color White h = absurd (omega (arith, ltb-true 7 7 h))

-- the list that follows
became : (rows cols : ℕ) (row other x : Row) → x ≡ other → Follows rows cols row x → Follows rows cols row other
became rows cols row other x e f = subst (λ (o : Row). Follows rows cols row o) e f

pub next_follows : NextFollows
next_follows rows cols (Cup row col) other z g h = if_some (nat_lt (col + 1) cols) (Cup row (col + 1)) other _ h
    (λ t same. became rows cols (Cup row col) other _ same (record { range = (g.0, ltb-true (col + 1) cols t); rank_next = omega arith; same_order = refl; same_count = refl; ascends = less_later row (col ∷ []) ((col + 1) ∷ []) (less_here col (col + 1) [] [] (omega arith)) }))
    (λ f k. if_some (nat_lt (row + 1) rows) (Cup (row + 1) 0) other None k
    (λ t same. became rows cols (Cup row col) other _ same (record { range = (ltb-true (row + 1) rows t, omega (arith, g.1)); rank_next = next_line row col cols g.1 (ltb-false (col + 1) cols f); same_order = refl; same_count = refl; ascends = less_here row (row + 1) (col ∷ []) (0 ∷ []) (omega arith) }))
    (λ e none. no_row other none))
next_follows rows cols (Hpa col) other z g h = if_some (nat_lt (col + 1) cols) (Hpa (col + 1)) other None h (λ t same. became rows cols (Hpa col) other _ same (record { range = ltb-true (col + 1) cols t; rank_next = omega arith; same_order = refl; same_count = refl; ascends = less_here col (col + 1) [] [] (omega arith) })) (λ f none. no_row other none)
next_follows rows cols (Vpa row) other z g h = if_some (nat_lt (row + 1) rows) (Vpa (row + 1)) other None h (λ t same. became rows cols (Vpa row) other _ same (record { range = ltb-true (row + 1) rows t; rank_next = omega arith; same_order = refl; same_count = refl; ascends = less_here row (row + 1) [] [] (omega arith) })) (λ f none. no_row other none)
next_follows rows cols (Cub n) other z g h = if_some (nat_lt (n + 1) cols) (Cub (n + 1)) other None h (λ t same. became rows cols (Cub n) other _ same (record { range = (omega arith, ltb-true (n + 1) cols t); rank_next = omega (arith, g.0); same_order = refl; same_count = refl; ascends = less_here n (n + 1) [] [] (omega arith) })) (λ f none. no_row other none)
next_follows rows cols (Cuf n) other z g h = if_some (nat_lt (n + 1) cols) (Cuf (n + 1)) other None h (λ t same. became rows cols (Cuf n) other _ same (record { range = (omega arith, ltb-true (n + 1) cols t); rank_next = omega (arith, g.0); same_order = refl; same_count = refl; ascends = less_here n (n + 1) [] [] (omega arith) })) (λ f none. no_row other none)
next_follows rows cols (Cuu n) other z g h = if_some (nat_lt (n + 1) rows) (Cuu (n + 1)) other None h (λ t same. became rows cols (Cuu n) other _ same (record { range = (omega arith, ltb-true (n + 1) rows t); rank_next = omega (arith, g.0); same_order = refl; same_count = refl; ascends = less_here n (n + 1) [] [] (omega arith) })) (λ f none. no_row other none)
next_follows rows cols (Cud n) other z g h = if_some (nat_lt (n + 1) rows) (Cud (n + 1)) other None h (λ t same. became rows cols (Cud n) other _ same (record { range = (omega arith, ltb-true (n + 1) rows t); rank_next = omega (arith, g.0); same_order = refl; same_count = refl; ascends = less_here n (n + 1) [] [] (omega arith) })) (λ f none. no_row other none)
next_follows rows cols (Ech n) other z g h = if_some (nat_lt n cols) (Ech (n + 1)) other None h (λ t same. became rows cols (Ech n) other _ same (record { range = (omega arith, omega (arith, ltb-true n cols t)); rank_next = omega (arith, g.0); same_order = refl; same_count = refl; ascends = less_here n (n + 1) [] [] (omega arith) })) (λ f none. no_row other none)
next_follows rows cols (Sgr a) other z g h = if_some (nat_lt (number_of a) 127) _ other None h (λ t same. became rows cols (Sgr a) other _ same (record { range = tt; rank_next = number_back (number_of a + 1) (let lt : number_of a < 127 = ltb-true _ 127 t in omega (arith, lt)); same_order = refl; same_count = refl; ascends = bits_rise a (ltb-true _ 127 t) })) (λ f none. no_row other none)
next_follows rows cols (Setaf c) other z g h = if_some (nat_lt (color_number c) 7) _ other None h (λ t same. became rows cols (Setaf c) other _ same (record { range = tt; rank_next = next_color c t; same_order = refl; same_count = refl; ascends = less_here (color_number c) _ [] [] (let e = next_color c t in omega (arith, e)) })) (λ f none. no_row other none)
next_follows rows cols (Setab c) other z g h = if_some (nat_lt (color_number c) 7) _ other None h (λ t same. became rows cols (Setab c) other _ same (record { range = tt; rank_next = next_color c t; same_order = refl; same_count = refl; ascends = less_here (color_number c) _ [] [] (let e = next_color c t in omega (arith, e)) })) (λ f none. no_row other none)
next_follows rows cols (Csr top bottom) other z g h = if_some (nat_lt (bottom + 1) rows) (Csr top (bottom + 1)) other _ h
    (λ t same. became rows cols (Csr top bottom) other _ same (record { range = (omega (arith, g.0), ltb-true (bottom + 1) rows t); rank_next = omega (arith, g.0); same_order = refl; same_count = refl; ascends = less_later top (bottom ∷ []) ((bottom + 1) ∷ []) (less_here bottom (bottom + 1) [] [] (omega arith)) }))
    (λ f k. if_some (nat_lt (top + 2) rows) (Csr (top + 1) (top + 2)) other None k
    (λ t same. became rows cols (Csr top bottom) other _ same (record { range = (omega arith, ltb-true (top + 2) rows t); rank_next = omega (arith, above_next rows top, g.0, g.1, ltb-false (bottom + 1) rows f); same_order = refl; same_count = refl; ascends = less_here top (top + 1) (bottom ∷ []) ((top + 2) ∷ []) (omega arith) }))
    (λ e none. no_row other none))
next_follows rows cols row other z g h = no_row other h

pub ranks_below : RanksBelow
ranks_below rows cols (Cup row col) z g = line_before row rows col cols g.0 g.1
ranks_below rows cols (Hpa col) z g = g
ranks_below rows cols (Vpa row) z g = g
ranks_below rows cols (Cub n) z g = omega (arith, g.0, g.1)
ranks_below rows cols (Cuf n) z g = omega (arith, g.0, g.1)
ranks_below rows cols (Cuu n) z g = omega (arith, g.0, g.1)
ranks_below rows cols (Cud n) z g = omega (arith, g.0, g.1)
ranks_below rows cols (Ech n) z g = omega (arith, g.0, g.1)
ranks_below rows cols (Sgr a) z g = omega (arith, bit_small a.standout, bit_small a.underline, bit_small a.reverse, bit_small a.blink, bit_small a.dim, bit_small a.bold, bit_small a.invisible)
ranks_below rows cols (Setaf c) z g = color_small c
ranks_below rows cols (Setab c) z g = color_small c
ranks_below rows cols (Csr top bottom) z g = list_before rows top bottom (rows - 1) g.0 g.1 (omega (arith, g.0, g.1))
ranks_below rows cols row z g = omega arith

pub last_is_last : LastIsLast
last_is_last rows cols (Cup row col) z g h = if_none (nat_lt (col + 1) cols) (Cup row (col + 1)) _ h (λ f k. if_none (nat_lt (row + 1) rows) (Cup (row + 1) 0) None k
    (λ e none. let last : row + 1 ≡ rows = omega (arith, ltb-false (row + 1) rows e, g.0) in omega (arith, add-mul row 1 cols, ltb-false (col + 1) cols f, g.1, ap (λ (n : ℕ). n * cols) last)))
last_is_last rows cols (Hpa col) z g h = if_none (nat_lt (col + 1) cols) (Hpa (col + 1)) None h (λ f none. omega (arith, ltb-false (col + 1) cols f, g))
last_is_last rows cols (Vpa row) z g h = if_none (nat_lt (row + 1) rows) (Vpa (row + 1)) None h (λ f none. omega (arith, ltb-false (row + 1) rows f, g))
last_is_last rows cols (Cub n) z g h = if_none (nat_lt (n + 1) cols) (Cub (n + 1)) None h (λ f none. omega (arith, ltb-false (n + 1) cols f, g.0, g.1))
last_is_last rows cols (Cuf n) z g h = if_none (nat_lt (n + 1) cols) (Cuf (n + 1)) None h (λ f none. omega (arith, ltb-false (n + 1) cols f, g.0, g.1))
last_is_last rows cols (Cuu n) z g h = if_none (nat_lt (n + 1) rows) (Cuu (n + 1)) None h (λ f none. omega (arith, ltb-false (n + 1) rows f, g.0, g.1))
last_is_last rows cols (Cud n) z g h = if_none (nat_lt (n + 1) rows) (Cud (n + 1)) None h (λ f none. omega (arith, ltb-false (n + 1) rows f, g.0, g.1))
last_is_last rows cols (Ech n) z g h = if_none (nat_lt (n) cols) (Ech (n + 1)) None h (λ f none. omega (arith, ltb-false (n) cols f, g.0, g.1))
last_is_last rows cols (Sgr a) z g h = if_none (nat_lt (number_of a) 127) _ None h (λ f none. omega (arith, ltb-false (number_of a) 127 f, ranks_below rows cols (Sgr a) z tt))
last_is_last rows cols (Setaf c) z g h = if_none (nat_lt (color_number c) 7) (Setaf (color (color_number c + 1))) None h (λ f none. omega (arith, ltb-false (color_number c) 7 f, color_small c))
last_is_last rows cols (Setab c) z g h = if_none (nat_lt (color_number c) 7) (Setab (color (color_number c + 1))) None h (λ f none. omega (arith, ltb-false (color_number c) 7 f, color_small c))
last_is_last rows cols (Csr top bottom) z g h = if_none (nat_lt (bottom + 1) rows) (Csr top (bottom + 1)) _ h (λ f k. if_none (nat_lt (top + 2) rows) (Csr (top + 1) (top + 2)) None k
    (λ e none. omega (arith, last_list rows top (omega (arith, ltb-false (bottom + 1) rows f, ltb-false (top + 2) rows e, g.0, g.1)), ltb-false (bottom + 1) rows f, ltb-false (top + 2) rows e, g.0, g.1)))
last_is_last rows cols row z g h = refl

-- each place is reached
reach_next : (rows cols k : ℕ) (row : Row) (o : Option Row) (r : HasRank rows cols row k) → IsSize rows cols → next rows cols r.other ≡ o → k + 1 < count rows cols row → HasRank rows cols row (k + 1)
reach_next rows cols k row None r z e lt = absurd (omega (arith, last_is_last rows cols r.other z r.range e, r.rank_is, r.same_count, lt))
reach_next rows cols k row (Some n) r z e lt = let f : Follows rows cols r.other n = next_follows rows cols r.other n z r.range e in record {
  other = n;
  range = f.range;
  rank_is = f.rank_next ∙ ap (λ (x : ℕ). x + 1) r.rank_is;
  same_order = f.same_order ∙ r.same_order;
  same_count = f.same_count ∙ r.same_count;
}

pub each_reached : EachReached
each_reached rows cols row z g first zero lt = record { other = row; range = g; rank_is = first; same_order = refl; same_count = refl }
each_reached rows cols row z g first (suc k) lt =
    subst (λ (x : ℕ). HasRank rows cols row x) (add-one k) (reach_next rows cols k row _ (each_reached rows cols row z g first k (omega (arith, lt))) z refl (omega (arith, lt)))

-- two lists at one place are equal
same_line : (row col other col2 cols : ℕ) → col < cols → col2 < cols → row * cols + col ≡ other * cols + col2 → row ≡ other
same_line row col other col2 cols a b h = elim (cases_order row other) [
  | inl e ↦ e
  | inr (inl lt) ↦ absurd (omega (arith, line_before row other col cols lt a, h))
  | inr (inr lt) ↦ absurd (omega (arith, line_before other row col2 cols lt b, h))
]

cups_differ : (cols row col other col2 : ℕ) → col < cols → col2 < cols → row * cols + col ≡ other * cols + col2 → (row ≡ other) × (col ≡ col2)
cups_differ cols row col other col2 a b h = let e : row ≡ other = same_line row col other col2 cols a b h in
    (e, omega (arith, h, ap (λ (n : ℕ). n * cols) e))

same_top : (rows top bottom other bottom2 : ℕ) → top < bottom → bottom < rows → other < bottom2 → bottom2 < rows → above rows top + (bottom - top - 1) ≡ above rows other + (bottom2 - other - 1) → top ≡ other
same_top rows top bottom other bottom2 a b c d h = elim (cases_order top other) [
  | inl e ↦ e
  | inr (inl lt) ↦ absurd (omega (arith, list_before rows top bottom other a b lt, h))
  | inr (inr lt) ↦ absurd (omega (arith, list_before rows other bottom2 top c d lt, h))
]

csrs_differ : (rows top bottom other bottom2 : ℕ) → top < bottom → bottom < rows → other < bottom2 → bottom2 < rows
    → above rows top + (bottom - top - 1) ≡ above rows other + (bottom2 - other - 1) → (top ≡ other) × (bottom ≡ bottom2)
csrs_differ rows top bottom other bottom2 a b c d h = let e : top ≡ other = same_top rows top bottom other bottom2 a b c d h in
    (e, omega (arith, h, ap (λ (n : ℕ). above rows n) e, e, a, c))

-- for pairs of rows whose places decide that they are equal
same_rank : (rows cols : ℕ) {A : Type 0} (make : A → Row) (row other : Row) → IsInRange rows cols other → rank rows cols row ≡ rank rows cols other
    → ((x : A) → IsInRange rows cols (make x) → rank rows cols row ≡ rank rows cols (make x) → row ≡ make x) → Same make other → row ≡ other
same_rank rows cols make row other g h decide s =
    decide s.inside (subst (λ (r : Row). IsInRange rows cols r) (sym s.is) g) (h ∙ ap (λ (r : Row). rank rows cols r) (sym s.is)) ∙ s.is

cup_same : (a b c d : ℕ) → a ≡ c → b ≡ d → Cup a b ≡ Cup c d
cup_same a b c d e f = cc

csr_same : (a b c d : ℕ) → a ≡ c → b ≡ d → Csr a b ≡ Csr c d
csr_same a b c d e f = cc

pub one_of_rank : OneOfRank
one_of_rank rows cols Clear other g i same h = same_plain Clear other (λ numbers. refl) same
one_of_rank rows cols (Cup row col) other g i same h = same_rank rows cols (λ (p : ℕ × ℕ). Cup p.0 p.1) (Cup row col) other i h (λ p q e. let d = cups_differ cols row col p.0 p.1 g.1 q.1 e in cup_same row col p.0 p.1 d.0 d.1) (same_made (λ (p : ℕ × ℕ). Cup p.0 p.1) two_numbers (Cup row col) other (λ numbers. refl) same)
one_of_rank rows cols Home other g i same h = same_plain Home other (λ numbers. refl) same
one_of_rank rows cols Cr other g i same h = same_plain Cr other (λ numbers. refl) same
one_of_rank rows cols (Hpa col) other g i same h = same_rank rows cols (λ (m : ℕ). Hpa m) (Hpa col) other i h (λ m q e. ap (λ (x : ℕ). Hpa x) (e)) (same_made (λ (m : ℕ). Hpa m) only_number (Hpa col) other (λ numbers. refl) same)
one_of_rank rows cols (Vpa row) other g i same h = same_rank rows cols (λ (m : ℕ). Vpa m) (Vpa row) other i h (λ m q e. ap (λ (x : ℕ). Vpa x) (e)) (same_made (λ (m : ℕ). Vpa m) only_number (Vpa row) other (λ numbers. refl) same)
one_of_rank rows cols Cub1 other g i same h = same_plain Cub1 other (λ numbers. refl) same
one_of_rank rows cols Cuf1 other g i same h = same_plain Cuf1 other (λ numbers. refl) same
one_of_rank rows cols Cuu1 other g i same h = same_plain Cuu1 other (λ numbers. refl) same
one_of_rank rows cols Cud1 other g i same h = same_plain Cud1 other (λ numbers. refl) same
one_of_rank rows cols (Cub n) other g i same h = same_rank rows cols (λ (m : ℕ). Cub m) (Cub n) other i h (λ m q e. ap (λ (x : ℕ). Cub x) (omega (arith, e, g.0, q.0))) (same_made (λ (m : ℕ). Cub m) only_number (Cub n) other (λ numbers. refl) same)
one_of_rank rows cols (Cuf n) other g i same h = same_rank rows cols (λ (m : ℕ). Cuf m) (Cuf n) other i h (λ m q e. ap (λ (x : ℕ). Cuf x) (omega (arith, e, g.0, q.0))) (same_made (λ (m : ℕ). Cuf m) only_number (Cuf n) other (λ numbers. refl) same)
one_of_rank rows cols (Cuu n) other g i same h = same_rank rows cols (λ (m : ℕ). Cuu m) (Cuu n) other i h (λ m q e. ap (λ (x : ℕ). Cuu x) (omega (arith, e, g.0, q.0))) (same_made (λ (m : ℕ). Cuu m) only_number (Cuu n) other (λ numbers. refl) same)
one_of_rank rows cols (Cud n) other g i same h = same_rank rows cols (λ (m : ℕ). Cud m) (Cud n) other i h (λ m q e. ap (λ (x : ℕ). Cud x) (omega (arith, e, g.0, q.0))) (same_made (λ (m : ℕ). Cud m) only_number (Cud n) other (λ numbers. refl) same)
one_of_rank rows cols El other g i same h = same_plain El other (λ numbers. refl) same
one_of_rank rows cols El1 other g i same h = same_plain El1 other (λ numbers. refl) same
one_of_rank rows cols Ed other g i same h = same_plain Ed other (λ numbers. refl) same
one_of_rank rows cols (Ech n) other g i same h = same_rank rows cols (λ (m : ℕ). Ech m) (Ech n) other i h (λ m q e. ap (λ (x : ℕ). Ech x) (omega (arith, e, g.0, q.0))) (same_made (λ (m : ℕ). Ech m) only_number (Ech n) other (λ numbers. refl) same)
one_of_rank rows cols (Sgr a) other g i same h = same_rank rows cols (λ (b : Attributes). Sgr b) (Sgr a) other i h (λ b q e. ap (λ (x : Attributes). Sgr x) (sym (attributes_back a) ∙ ap attributes_of e ∙ attributes_back b)) (same_made (λ (b : Attributes). Sgr b) nine_bits (Sgr a) other (λ numbers. refl) same)
one_of_rank rows cols Sgr0 other g i same h = same_plain Sgr0 other (λ numbers. refl) same
one_of_rank rows cols (Setaf c) other g i same h = same_rank rows cols (λ (d : Color). Setaf d) (Setaf c) other i h (λ d q e. ap (λ (x : Color). Setaf x) (sym (color_back c) ∙ ap color e ∙ color_back d)) (same_made (λ (d : Color). Setaf d) only_color (Setaf c) other (λ numbers. refl) same)
one_of_rank rows cols (Setab c) other g i same h = same_rank rows cols (λ (d : Color). Setab d) (Setab c) other i h (λ d q e. ap (λ (x : Color). Setab x) (sym (color_back c) ∙ ap color e ∙ color_back d)) (same_made (λ (d : Color). Setab d) only_color (Setab c) other (λ numbers. refl) same)
one_of_rank rows cols Op other g i same h = same_plain Op other (λ numbers. refl) same
one_of_rank rows cols Smul other g i same h = same_plain Smul other (λ numbers. refl) same
one_of_rank rows cols Rev other g i same h = same_plain Rev other (λ numbers. refl) same
one_of_rank rows cols Blink other g i same h = same_plain Blink other (λ numbers. refl) same
one_of_rank rows cols Dim other g i same h = same_plain Dim other (λ numbers. refl) same
one_of_rank rows cols Bold other g i same h = same_plain Bold other (λ numbers. refl) same
one_of_rank rows cols Invis other g i same h = same_plain Invis other (λ numbers. refl) same
one_of_rank rows cols Smso other g i same h = same_plain Smso other (λ numbers. refl) same
one_of_rank rows cols Enacs other g i same h = same_plain Enacs other (λ numbers. refl) same
one_of_rank rows cols Smacs other g i same h = same_plain Smacs other (λ numbers. refl) same
one_of_rank rows cols Rmacs other g i same h = same_plain Rmacs other (λ numbers. refl) same
one_of_rank rows cols (Csr top bottom) other g i same h = same_rank rows cols (λ (p : ℕ × ℕ). Csr p.0 p.1) (Csr top bottom) other i h (λ p q e. let d = csrs_differ rows top bottom p.0 p.1 g.0 g.1 q.0 q.1 e in csr_same top bottom p.0 p.1 d.0 d.1) (same_made (λ (p : ℕ × ℕ). Csr p.0 p.1) two_numbers (Csr top bottom) other (λ numbers. refl) same)
one_of_rank rows cols Ind other g i same h = same_plain Ind other (λ numbers. refl) same
one_of_rank rows cols Ri other g i same h = same_plain Ri other (λ numbers. refl) same
one_of_rank rows cols Civis other g i same h = same_plain Civis other (λ numbers. refl) same
one_of_rank rows cols Cnorm other g i same h = same_plain Cnorm other (λ numbers. refl) same
one_of_rank rows cols Cvvis other g i same h = same_plain Cvvis other (λ numbers. refl) same
one_of_rank rows cols Smcup other g i same h = same_plain Smcup other (λ numbers. refl) same
one_of_rank rows cols Rmcup other g i same h = same_plain Rmcup other (λ numbers. refl) same
one_of_rank rows cols Bel other g i same h = same_plain Bel other (λ numbers. refl) same

-- the sum of csr's lists, as a product
mul_up : (t k n : ℕ) → n ≡ k + 1 → t * n ≡ t * k + t
mul_up t k n e = ap (λ (x : ℕ). t * x) e ∙ mul-add t k 1 ∙ omega arith

doubled : (rows top : ℕ) → top < rows → 2 * above rows top ≡ top * (2 * rows - 1 - top)
doubled rows zero lt = omega arith
doubled rows (suc top) lt =
    let down : 2 * rows - 1 - top ≡ (2 * rows - 1 - suc top) + 1 = omega (arith, lt) in
    omega (arith, doubled rows top (omega (arith, lt)), mul_up top (2 * rows - 1 - suc top) (2 * rows - 1 - top) down, add-mul top 1 (2 * rows - 1 - suc top), lt)

pub above_product : (rows top : ℕ) → top < rows → top * (2 * rows - 1 - top) / 2 ≡ above rows top
above_product rows top lt = ap (λ (n : ℕ). n / 2) (sym (doubled rows top lt)) ∙ mul-div_cancel_left (above rows top) (omega arith)

-- the first lists
first_of : (rows cols : ℕ) (row : Row) → IsSize rows cols → first_in_order (order row) ≡ Some row → IsFirst rows cols row
unfolding first_in_order
first_of rows cols (Cup row col) z h = subst (λ (r : Row). IsFirst rows cols r) (same_Some (Cup 0 0) (Cup row col) h) (record { range = (omega (arith, z), omega (arith, z)); rank_zero = omega arith })
first_of rows cols (Hpa col) z h = subst (λ (r : Row). IsFirst rows cols r) (same_Some (Hpa 0) (Hpa col) h) (record { range = omega (arith, z); rank_zero = refl })
first_of rows cols (Vpa row) z h = subst (λ (r : Row). IsFirst rows cols r) (same_Some (Vpa 0) (Vpa row) h) (record { range = omega (arith, z); rank_zero = refl })
first_of rows cols (Cub n) z h = subst (λ (r : Row). IsFirst rows cols r) (same_Some (Cub 1) (Cub n) h) (record { range = (omega arith, omega (arith, z)); rank_zero = refl })
first_of rows cols (Cuf n) z h = subst (λ (r : Row). IsFirst rows cols r) (same_Some (Cuf 1) (Cuf n) h) (record { range = (omega arith, omega (arith, z)); rank_zero = refl })
first_of rows cols (Cuu n) z h = subst (λ (r : Row). IsFirst rows cols r) (same_Some (Cuu 1) (Cuu n) h) (record { range = (omega arith, omega (arith, z)); rank_zero = refl })
first_of rows cols (Cud n) z h = subst (λ (r : Row). IsFirst rows cols r) (same_Some (Cud 1) (Cud n) h) (record { range = (omega arith, omega (arith, z)); rank_zero = refl })
first_of rows cols (Ech n) z h = subst (λ (r : Row). IsFirst rows cols r) (same_Some (Ech 1) (Ech n) h) (record { range = (omega arith, omega (arith, z)); rank_zero = refl })
first_of rows cols (Sgr a) z h = subst (λ (r : Row). IsFirst rows cols r) (same_Some (Sgr no_attributes) (Sgr a) h) (record { range = tt; rank_zero = refl })
first_of rows cols (Setaf c) z h = subst (λ (r : Row). IsFirst rows cols r) (same_Some (Setaf Black) (Setaf c) h) (record { range = tt; rank_zero = refl })
first_of rows cols (Setab c) z h = subst (λ (r : Row). IsFirst rows cols r) (same_Some (Setab Black) (Setab c) h) (record { range = tt; rank_zero = refl })
first_of rows cols (Csr top bottom) z h = subst (λ (r : Row). IsFirst rows cols r) (same_Some (Csr 0 1) (Csr top bottom) h) (record { range = (omega arith, omega (arith, z)); rank_zero = refl })
first_of rows cols row z h = record { range = tt; rank_zero = refl }

below_42 : (n : ℕ) (row : Row) → first_in_order n ≡ Some row → n < capabilities
unfolding first_in_order
below_42 n row h = slice_get_within firsts n row h

pub firsts_in_range : FirstsInRange
firsts_in_range rows cols n row z h =
    let f : HasFirst n = firsts_in_order n (below_42 n row h) in
    let e : order row ≡ n = ap order (same_Some row f.row (sym h ∙ f.is_first)) ∙ f.ordered in
    first_of rows cols row z (ap first_in_order e ∙ h)
