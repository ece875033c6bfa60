-- A row of a rectangle is copied if a part of it is copied and the rest is equal.
use Rattle.std.proofs.Common.{◌≡◌, ℕ, ◌+◌, ◌-◌, ◌<◌, ◌≤◌, ◌⊎◌, Bool, true, false, List, length, get_or, refl, sym, ap, ◌∙◌, inl, inr, arith, if◌then◌else◌}
use Rattle.std.proofs.lemmas.Bool.{cases_lt}
use Rattle.std.proofs.lemmas.Bool.Decides.{nat_tests}
use Rattle.std.proofs.lemmas.List.{get_or_default}
use Rattle.grids.specs.declared.areas.Area.{Area}
use Rattle.grids.specs.declared.areas.Place.{Place}
use Rattle.grids.specs.Grids as base
use Rattle.grids.proofs.Drawings.{cell_at-drawn_in, drawn_same, drawn_kept}
use Rattle.cur_drawing.specs.declared.spans.Span.{Span}
use Rattle.cur_drawing.specs.Cells.{Content, space}
use Rattle.cur_drawing.specs.Grids.{Grid, Fits, cell_at, copied, drawn_in, filled, is_in, line_at, moved_to, one, row_of, taken}
use Rattle.cur_drawing.specs.Calls.{place}
use Rattle.cur_screens.specs.Differences.{AreEqualAt, AreEqualIn, DifferAt, HasChanges}

-- these places of the row k
abbrev part_of : Area → ℕ → Span → Area
part_of a k s = record { top = a.top + k; left = a.left + s.at; rows = 1; cols = s.size }

-- outside these places the row and its source are equal
abbrev pub AreEqualBeside : Area → Place → ℕ → Span → Grid → Grid → Type 0
AreEqualBeside a from k s source g = (x : ℕ) → x < a.cols → (x < s.at) ⊎ (s.at + s.size ≤ x) → cell_at g (a.top + k) (a.left + x) ≡ cell_at source (from.row + k) (from.col + x)

chosen : (p q : Bool) (x y z : Content) → (p ≡ true → q ≡ true) → (p ≡ true → x ≡ y) → (p ≡ false → q ≡ true → z ≡ y) → (if p then x else z) ≡ (if q then y else z)
chosen true true x y z up same rest = same refl
chosen true false x y z up same rest = absurd (let h : false ≡ true = up refl in cc)
chosen false true x y z up same rest = rest refl refl
chosen false false x y z up same rest = refl

in_row : (a : Area) (k i j : ℕ) → is_in (row_of a k) i j ≡ true → i ≡ a.top + k
in_row a k i j h = grind (arith, nat_tests)

after_left : (a : Area) (k i j : ℕ) → is_in (row_of a k) i j ≡ true → a.left ≤ j
after_left a k i j h = grind (arith, nat_tests)

before_right : (a : Area) (k i j : ℕ) → is_in (row_of a k) i j ≡ true → j < a.left + a.cols
before_right a k i j h = grind (arith, nat_tests)

in_this_row : (a : Area) (k x : ℕ) → x < a.cols → is_in (row_of a k) (a.top + k) (a.left + x) ≡ true
in_this_row a k x lt = grind (arith, nat_tests)

part_in_row : (a : Area) (k i j : ℕ) (s : Span) → s.at + s.size ≤ a.cols → is_in (part_of a k s) i j ≡ true → is_in (row_of a k) i j ≡ true
part_in_row a k i j s le h = grind (arith, nat_tests)

part_after : (a : Area) (k i j : ℕ) (s : Span) → is_in (part_of a k s) i j ≡ true → a.left + s.at ≤ j
part_after a k i j s h = grind (arith, nat_tests)

beside_part : (a : Area) (k i j : ℕ) (s : Span) → is_in (part_of a k s) i j ≡ false → is_in (row_of a k) i j ≡ true → (j - a.left < s.at) ⊎ (s.at + s.size ≤ j - a.left)
beside_part a k i j s off on =
    elim (cases_lt (j - a.left) s.at) [
      | inl low ↦ inl low
      | inr high ↦ inr (past high)
    ]
  where
    past : s.at ≤ j - a.left → s.at + s.size ≤ j - a.left
    past high = let row = in_row a k i j on in let left = after_left a k i j on in grind (arith, nat_tests)

-- the cell at a place is read with any default
same_there : (g source : Grid) (r c r2 c2 : ℕ) (d : Content) → c < length (line_at g r) → c2 < length (line_at source r2) → cell_at g r c ≡ cell_at source r2 c2 → base.cell_at d g r c ≡ base.cell_at (base.cell_at d g r c) source r2 c2
same_there g source r c r2 c2 d lt lt2 e = get_or_default (line_at g r) c d space lt ∙ e ∙ get_or_default (line_at source r2) c2 space (base.cell_at d g r c) lt2

rest_equal : (a : Area) (from : Place) (k i j : ℕ) (s : Span) (source g : Grid) (d : Content) → k < a.rows → Fits a g → Fits (moved_to a from) source → AreEqualBeside a from k s source g →
    is_in (part_of a k s) i j ≡ false → is_in (row_of a k) i j ≡ true → base.cell_at d g i j ≡ taken a from source i j (base.cell_at d g i j)
rest_equal a from k i j s source g d lt fits there equal off on =
    let row : i ≡ a.top + k = in_row a k i j on in
    let left : a.left ≤ j = after_left a k i j on in
    let right : j < a.left + a.cols = before_right a k i j on in
    let col : j ≡ a.left + (j - a.left) = omega arith in
    let source_row : from.row + k ≡ from.row + (i - a.top) = omega arith in
    let near : j < length (line_at g i) = omega (arith, fits.rows, fits.cols i (omega (arith, fits.rows))) in
    let near2 : from.col + (j - a.left) < length (line_at source (from.row + (i - a.top))) = omega (arith, there.rows, there.cols (from.row + (i - a.top)) (omega (arith, there.rows))) in
    let same : cell_at g (a.top + k) (a.left + (j - a.left)) ≡ cell_at source (from.row + k) (from.col + (j - a.left)) = equal (j - a.left) (omega arith) (beside_part a k i j s off on) in
    same_there g source i j (from.row + (i - a.top)) (from.col + (j - a.left)) d near near2
    (ap (λ (n : ℕ). cell_at g n j) row ∙ ap (λ (n : ℕ). cell_at g (a.top + k) n) col ∙ same ∙ ap (λ (n : ℕ). cell_at source n (from.col + (j - a.left))) source_row)

part_equal : (a : Area) (from : Place) (k i j : ℕ) (s : Span) (source : Grid) (old : Content) → s.at + s.size ≤ a.cols → is_in (part_of a k s) i j ≡ true →
    taken (part_of a k s) (place (from.row + k) (from.col + s.at)) source i j old ≡ taken a from source i j old
part_equal a from k i j s source old le on =
    let row : i ≡ a.top + k = in_row a k i j (part_in_row a k i j s le on) in
    let left : a.left + s.at ≤ j = part_after a k i j s on in
    let rows : from.row + k + (i - (a.top + k)) ≡ from.row + (i - a.top) = omega arith in
    let cols : from.col + s.at + (j - (a.left + s.at)) ≡ from.col + (j - a.left) = omega arith in
    ap (λ (n : ℕ). base.cell_at old source n (from.col + s.at + (j - (a.left + s.at)))) rows ∙ ap (λ (n : ℕ). base.cell_at old source (from.row + (i - a.top)) n) cols

pub row_copied : (a : Area) (from : Place) (k : ℕ) (s : Span) (source g : Grid) → k < a.rows → Fits a g → Fits (moved_to a from) source → s.at + s.size ≤ a.cols → AreEqualBeside a from k s source g →
    copied (part_of a k s) (place (from.row + k) (from.col + s.at)) source g ≡ drawn_in (row_of a k) (taken a from source) g
row_copied a from k s source g lt fits there le equal =
    drawn_same (λ i j old. if is_in (part_of a k s) i j then taken (part_of a k s) (place (from.row + k) (from.col + s.at)) source i j old else old)
    (λ i j old. if is_in (row_of a k) i j then taken a from source i j old else old) g
    (λ i j d. chosen (is_in (part_of a k s) i j) (is_in (row_of a k) i j) _ _ (base.cell_at d g i j) (part_in_row a k i j s le)
    (part_equal a from k i j s source (base.cell_at d g i j) le) (rest_equal a from k i j s source g d lt fits there equal))

no_part : (a : Area) (k i j : ℕ) → is_in (part_of a k (record { at = 0; size = 0 })) i j ≡ false
no_part a k i j = grind (arith, nat_tests)

kept : (q : Bool) (y z : Content) → (q ≡ true → z ≡ y) → z ≡ (if q then y else z)
kept true y z same = same refl
kept false y z same = refl

-- a row that is equal is as good as copied
pub row_equal : (a : Area) (from : Place) (k : ℕ) (source g : Grid) → k < a.rows → Fits a g → Fits (moved_to a from) source → AreEqualBeside a from k (record { at = 0; size = 0 }) source g →
    g ≡ drawn_in (row_of a k) (taken a from source) g
row_equal a from k source g lt fits there equal =
    let nothing : Span = record { at = 0; size = 0 } in
    let leave : ℕ → ℕ → Content → Content = λ i j old. old in
    drawn_kept leave g (λ i j old. refl)
    ∙ drawn_same leave (λ i j old. if is_in (row_of a k) i j then taken a from source i j old else old) g
    (λ i j d. kept (is_in (row_of a k) i j) (taken a from source i j (base.cell_at d g i j)) (base.cell_at d g i j)
    (rest_equal a from k i j nothing source g d lt fits there equal (no_part a k i j)))

-- a cell of a copied row
cell_copied : (a : Area) (from : Place) (k x : ℕ) (source g h : Grid) → k < a.rows → x < a.cols → Fits a g → Fits (moved_to a from) source → h ≡ drawn_in (row_of a k) (taken a from source) g →
    cell_at h (a.top + k) (a.left + x) ≡ cell_at source (from.row + k) (from.col + x)
cell_copied a from k x source g h lt near fits there e =
    let row : from.row + (a.top + k - a.top) ≡ from.row + k = omega arith in
    let col : from.col + (a.left + x - a.left) ≡ from.col + x = omega arith in
    let old : Content = cell_at g (a.top + k) (a.left + x) in
    ap (λ (y : Grid). cell_at y (a.top + k) (a.left + x)) e
    ∙ cell_at-drawn_in (row_of a k) (taken a from source) space g (a.top + k) (a.left + x) (in_this_row a k x near) (omega (arith, near, fits.cols (a.top + k) (omega (arith, fits.rows))))
    ∙ ap (λ (n : ℕ). base.cell_at old source n (from.col + (a.left + x - a.left))) row ∙ ap (λ (n : ℕ). base.cell_at old source (from.row + k) n) col
    ∙ get_or_default (line_at source (from.row + k)) (from.col + x) old space (omega (arith, near, there.cols (from.row + k) (omega (arith, there.rows))))

-- ---- from the parts of two lines that were compared
abbrev pub IsPart : List Content → ℕ → ℕ → List Content → Type 0
IsPart part left cols line = (j : ℕ) → j < cols → get_or part j space ≡ get_or line (left + j) space

pub equal_beside : (a : Area) (from : Place) (k : ℕ) (s : Span) (source g : Grid) (old new line line2 : List Content) → line ≡ line_at g (a.top + k) → line2 ≡ line_at source (from.row + k) →
    IsPart old a.left a.cols line → IsPart new from.col a.cols line2 → length old ≡ a.cols → AreEqualIn old new 0 s.at → AreEqualIn old new (s.at + s.size) (length old) → AreEqualBeside a from k s source g
equal_beside a from k s source g old new line line2 e e2 is is2 long before after x lt side =
    let same : AreEqualAt old new x = elim side [ inl low ↦ before x (omega arith) low | inr high ↦ after x high (omega (arith, long)) ] in
    sym (ap (λ (l : List Content). get_or l (a.left + x) space) e) ∙ sym (is x lt) ∙ same ∙ is2 x lt ∙ ap (λ (l : List Content). get_or l (from.col + x) space) e2

-- if the parts differ, the row changes
pub changed_there : (a : Area) (from : Place) (k x : ℕ) (source g h : Grid) (old new line line2 : List Content) → k < a.rows → Fits a g → Fits (moved_to a from) source → h ≡ drawn_in (row_of a k) (taken a from source) g →
    line ≡ line_at g (a.top + k) → line2 ≡ line_at source (from.row + k) → IsPart old a.left a.cols line → IsPart new from.col a.cols line2 → length old ≡ a.cols → DifferAt old new x →
    cell_at g (a.top + k) (a.left + x) ≡ cell_at h (a.top + k) (a.left + x) → ⊥
changed_there a from k x source g h old new line line2 lt fits there value e e2 is is2 long differ same =
    let near : x < a.cols = omega (arith, differ.within, long) in
    differ.apart (is x near ∙ ap (λ (l : List Content). get_or l (a.left + x) space) e ∙ same ∙ cell_copied a from k x source g h lt near fits there value
    ∙ sym (ap (λ (l : List Content). get_or l (from.col + x) space) e2) ∙ sym (is2 x near))

-- a span from the first place in which two lists differ to the last one isn't empty
pub some_changed : (a b : List Content) (s : Span) → HasChanges a b s → 0 < s.size
some_changed a b s changes = elim (cases_lt 0 s.size) [
  | inl some ↦ some
  | inr none ↦ absurd (changes.first.apart (changes.after s.at (omega (arith, none)) changes.first.within))
]

-- ---- a rectangle of one line
pub first_line : (line : List Content) (g : Grid) (i : ℕ) → line ≡ line_at g i → line ≡ line_at g (i + 0)
first_line line g i e = let none : i ≡ i + 0 = omega arith in e ∙ ap (λ (n : ℕ). line_at g n) none

first_row : (a : Area) → a.rows ≡ 1 → row_of a 0 ≡ a
first_row a one = let top : a.top + 0 ≡ a.top = omega arith in λ k. record { top = top k; left = a.left; rows = sym one k; cols = a.cols }

first_part : (a : Area) (s : Span) → part_of a 0 s ≡ record { top = a.top; left = a.left + s.at; rows = 1; cols = s.size }
first_part a s = let top : a.top + 0 ≡ a.top = omega arith in λ k. record { top = top k; left = a.left + s.at; rows = 1; cols = s.size }

pub line_drawn : (a : Area) (f : ℕ → ℕ → Content → Content) (g : Grid) → a.rows ≡ 1 → drawn_in (row_of a 0) f g ≡ drawn_in a f g
line_drawn a f g one = ap (λ (b : Area). drawn_in b f g) (first_row a one)

pub line_copied : (a : Area) (from : Place) (s : Span) (source g : Grid) → a.rows ≡ 1 → Fits a g → Fits (moved_to a from) source → s.at + s.size ≤ a.cols → AreEqualBeside a from 0 s source g →
    copied (record { top = a.top; left = a.left + s.at; rows = 1; cols = s.size }) (place from.row (from.col + s.at)) source g ≡ copied a from source g
line_copied a from s source g one fits there le equal =
    let row : from.row ≡ from.row + 0 = omega arith in
    ap (λ (b : Area). copied b (place from.row (from.col + s.at)) source g) (sym (first_part a s))
    ∙ ap (λ (n : ℕ). copied (part_of a 0 s) (place n (from.col + s.at)) source g) row
    ∙ row_copied a from 0 s source g (omega (arith, one)) fits there le equal ∙ line_drawn a (taken a from source) g one

pub line_equal : (a : Area) (from : Place) (source g : Grid) → a.rows ≡ 1 → Fits a g → Fits (moved_to a from) source → AreEqualBeside a from 0 (record { at = 0; size = 0 }) source g → g ≡ copied a from source g
line_equal a from source g one fits there equal = row_equal a from 0 source g (omega (arith, one)) fits there equal ∙ line_drawn a (taken a from source) g one

-- ---- the part of a row
pub part_fits : (a : Area) (k : ℕ) (s : Span) (g : Grid) → k < a.rows → s.at + s.size ≤ a.cols → Fits a g → Fits (part_of a k s) g
part_fits a k s g lt le fits = record { rows = omega (arith, fits.rows); cols = λ i near. omega (arith, fits.cols i near) }

-- ---- some rows of a rectangle whose other rows are equal

-- these rows of the rectangle
abbrev rows_in : Area → Span → Area
rows_in a s = record { top = a.top + s.at; left = a.left; rows = s.size; cols = a.cols }

abbrev pub AreEqualOff : Area → Place → Span → Grid → Grid → Type 0
AreEqualOff a from s source g = (i x : ℕ) → i < a.rows → x < a.cols → (i < s.at) ⊎ (s.at + s.size ≤ i) → cell_at g (a.top + i) (a.left + x) ≡ cell_at source (from.row + i) (from.col + x)

rows_within : (a : Area) (s : Span) (i j : ℕ) → s.at + s.size ≤ a.rows → is_in (rows_in a s) i j ≡ true → is_in a i j ≡ true
rows_within a s i j le h = grind (arith, nat_tests)

rows_after : (a : Area) (s : Span) (i j : ℕ) → is_in (rows_in a s) i j ≡ true → a.top + s.at ≤ i
rows_after a s i j h = grind (arith, nat_tests)

area_top : (a : Area) (i j : ℕ) → is_in a i j ≡ true → a.top ≤ i
area_top a i j h = grind (arith, nat_tests)

area_bottom : (a : Area) (i j : ℕ) → is_in a i j ≡ true → i < a.top + a.rows
area_bottom a i j h = grind (arith, nat_tests)

area_left : (a : Area) (i j : ℕ) → is_in a i j ≡ true → a.left ≤ j
area_left a i j h = grind (arith, nat_tests)

area_right : (a : Area) (i j : ℕ) → is_in a i j ≡ true → j < a.left + a.cols
area_right a i j h = grind (arith, nat_tests)

off_rows : (a : Area) (s : Span) (i j : ℕ) → is_in (rows_in a s) i j ≡ false → is_in a i j ≡ true → (i - a.top < s.at) ⊎ (s.at + s.size ≤ i - a.top)
off_rows a s i j off on = elim (cases_lt (i - a.top) s.at) [
  | inl low ↦ inl low
  | inr high ↦ inr (past high)
]
  where
    past : s.at ≤ i - a.top → s.at + s.size ≤ i - a.top
    past high = let top = area_top a i j on in grind (arith, nat_tests)

rows_taken : (a : Area) (from : Place) (s : Span) (source : Grid) (i j : ℕ) (old : Content) → is_in (rows_in a s) i j ≡ true →
    taken (rows_in a s) (place (from.row + s.at) from.col) source i j old ≡ taken a from source i j old
rows_taken a from s source i j old on =
    let after : a.top + s.at ≤ i = rows_after a s i j on in
    let rows : from.row + s.at + (i - (a.top + s.at)) ≡ from.row + (i - a.top) = omega (arith, after) in
    ap (λ (n : ℕ). base.cell_at old source n (from.col + (j - a.left))) rows

others_equal : (a : Area) (from : Place) (s : Span) (source g : Grid) (i j : ℕ) (d : Content) → Fits a g → Fits (moved_to a from) source → AreEqualOff a from s source g →
    is_in (rows_in a s) i j ≡ false → is_in a i j ≡ true → base.cell_at d g i j ≡ taken a from source i j (base.cell_at d g i j)
others_equal a from s source g i j d fits there equal off on =
    let top : a.top ≤ i = area_top a i j on in
    let bottom : i < a.top + a.rows = area_bottom a i j on in
    let left : a.left ≤ j = area_left a i j on in
    let right : j < a.left + a.cols = area_right a i j on in
    let row : i ≡ a.top + (i - a.top) = omega arith in
    let col : j ≡ a.left + (j - a.left) = omega arith in
    let near : j < length (line_at g i) = omega (arith, fits.rows, fits.cols i (omega (arith, fits.rows))) in
    let near2 : from.col + (j - a.left) < length (line_at source (from.row + (i - a.top))) = omega (arith, there.rows, there.cols (from.row + (i - a.top)) (omega (arith, there.rows))) in
    same_there g source i j (from.row + (i - a.top)) (from.col + (j - a.left)) d near near2
    (ap (λ (n : ℕ). cell_at g n j) row ∙ ap (λ (n : ℕ). cell_at g (a.top + (i - a.top)) n) col ∙ equal (i - a.top) (j - a.left) (omega arith) (omega arith) (off_rows a s i j off on))

-- the rectangle is copied if these rows are
pub rows_copied : (a : Area) (from : Place) (s : Span) (source g : Grid) → Fits a g → Fits (moved_to a from) source → s.at + s.size ≤ a.rows → AreEqualOff a from s source g →
    copied (rows_in a s) (place (from.row + s.at) from.col) source g ≡ copied a from source g
rows_copied a from s source g fits there le equal =
    drawn_same (λ i j old. if is_in (rows_in a s) i j then taken (rows_in a s) (place (from.row + s.at) from.col) source i j old else old)
    (λ i j old. if is_in a i j then taken a from source i j old else old) g
    (λ i j d. chosen (is_in (rows_in a s) i j) (is_in a i j) _ _ (base.cell_at d g i j) (rows_within a s i j le)
    (rows_taken a from s source i j (base.cell_at d g i j)) (others_equal a from s source g i j d fits there equal))

-- ---- a rectangle of one place
in_one : (a : Area) (i j : ℕ) → a.rows ≡ 1 → a.cols ≡ 1 → is_in a i j ≡ true → is_in (one a.top a.left) i j ≡ true
in_one a i j rows cols h = grind (arith, nat_tests)

of_one : (a : Area) (i j : ℕ) → a.rows ≡ 1 → a.cols ≡ 1 → is_in (one a.top a.left) i j ≡ true → is_in a i j ≡ true
of_one a i j rows cols h = grind (arith, nat_tests)

row_of_one : (a : Area) (i j : ℕ) → is_in (one a.top a.left) i j ≡ true → i ≡ a.top
row_of_one a i j h = grind (arith, nat_tests)

col_of_one : (a : Area) (i j : ℕ) → is_in (one a.top a.left) i j ≡ true → j ≡ a.left
col_of_one a i j h = grind (arith, nat_tests)

one_taken : (a : Area) (from : Place) (source : Grid) (cell old : Content) (i j : ℕ) → ((d : Content) → cell ≡ base.cell_at d source from.row from.col) → is_in (one a.top a.left) i j ≡ true →
    cell ≡ taken a from source i j old
one_taken a from source cell old i j is on =
    let row : i ≡ a.top = row_of_one a i j on in
    let col : j ≡ a.left = col_of_one a i j on in
    let rows : from.row ≡ from.row + (i - a.top) = omega (arith, row) in
    let cols : from.col ≡ from.col + (j - a.left) = omega (arith, col) in
    is old ∙ ap (λ (n : ℕ). base.cell_at old source n from.col) rows ∙ ap (λ (n : ℕ). base.cell_at old source (from.row + (i - a.top)) n) cols

-- the place has the cell
pub cell_is_copied : (a : Area) (from : Place) (source g : Grid) (cell : Content) → a.rows ≡ 1 → a.cols ≡ 1 → ((d : Content) → cell ≡ base.cell_at d source from.row from.col) →
    filled (one a.top a.left) cell g ≡ copied a from source g
cell_is_copied a from source g cell rows cols is =
    drawn_same (λ i j old. if is_in (one a.top a.left) i j then cell else old) (λ i j old. if is_in a i j then taken a from source i j old else old) g
    (λ i j d. chosen (is_in (one a.top a.left) i j) (is_in a i j) cell (taken a from source i j (base.cell_at d g i j)) (base.cell_at d g i j) (of_one a i j rows cols)
    (one_taken a from source cell (base.cell_at d g i j) i j is) (λ off on. absurd (let h : is_in (one a.top a.left) i j ≡ true = in_one a i j rows cols on in cc)))
