-- The parameter lists that a size allows, in ascending order, and the place of each among the lines of its capability.
use Rattle.std.specs.Prelude.{ℕ, zero, suc, ◌+◌, ◌-◌, ◌*◌, ◌/◌, ◌%◌, ◌<◌, ◌≤◌, ◌≡◌, ◌==◌, nat_lt, Option, Some, None}
use Rattle.std.specs.Prelude.{if◌then◌else◌}
use Rattle.std.specs.Cmp.Lexicographic.{slice_cmp}
use Rattle.std.specs.Ordering.{nat_cmp}
use Rattle.std.specs.declared.cmp.Ordering.TheVariants.{Less}
use Rattle.vt_term.specs.Color.{color, color_number}
use Rattle.vt_term.specs.Size.{IsSize}
use Rattle.ti_rows.specs.Bits.{number_of}
use Rattle.ti_rows.specs.Names.{order, first_in_order}
use Rattle.ti_rows.specs.Params.{params}
use Rattle.ti_rows.specs.Rows.{Attributes, Row, Cup, Hpa, Vpa, Cub, Cuf, Cuu, Cud, Ech, Sgr, Setaf, Setab, Csr}

-- the parameters that a size allows: places on the screen, and moves that can stay on it
abbrev pub IsInRange : ℕ → ℕ → Row → Type 0
IsInRange rows cols (Cup row col) = (row < rows) × (col < cols)
IsInRange rows cols (Hpa col) = col < cols
IsInRange rows cols (Vpa row) = row < rows
IsInRange rows cols (Cub n) = (1 ≤ n) × (n < cols)
IsInRange rows cols (Cuf n) = (1 ≤ n) × (n < cols)
IsInRange rows cols (Cuu n) = (1 ≤ n) × (n < rows)
IsInRange rows cols (Cud n) = (1 ≤ n) × (n < rows)
IsInRange rows cols (Ech n) = (1 ≤ n) × (n ≤ cols)
IsInRange rows cols (Csr top bottom) = (top < bottom) × (bottom < rows)
IsInRange rows cols _ = Unit {0}

-- the attributes of a number below 128
unfoldable pub attributes_of : ℕ → Attributes
attributes_of n = record {
  standout = n / 64 == 1;
  underline = n / 32 % 2 == 1;
  reverse = n / 16 % 2 == 1;
  blink = n / 8 % 2 == 1;
  dim = n / 4 % 2 == 1;
  bold = n / 2 % 2 == 1;
  invisible = n % 2 == 1;
}

-- the lists of `csr` whose first line is above this one
abbrev pub above : ℕ → ℕ → ℕ
above rows zero = 0
above rows (suc top) = above rows top + (rows - 1 - top)

-- the next list of the same capability
abbrev pub next : ℕ → ℕ → Row → Option Row
next rows cols (Cup row col) =
    if nat_lt (col + 1) cols then Some (Cup row (col + 1))
    else (if nat_lt (row + 1) rows then Some (Cup (row + 1) 0) else None)
next rows cols (Hpa col) = if nat_lt (col + 1) cols then Some (Hpa (col + 1)) else None
next rows cols (Vpa row) = if nat_lt (row + 1) rows then Some (Vpa (row + 1)) else None
next rows cols (Cub n) = if nat_lt (n + 1) cols then Some (Cub (n + 1)) else None
next rows cols (Cuf n) = if nat_lt (n + 1) cols then Some (Cuf (n + 1)) else None
next rows cols (Cuu n) = if nat_lt (n + 1) rows then Some (Cuu (n + 1)) else None
next rows cols (Cud n) = if nat_lt (n + 1) rows then Some (Cud (n + 1)) else None
next rows cols (Ech n) = if nat_lt n cols then Some (Ech (n + 1)) else None
next rows cols (Sgr a) = if nat_lt (number_of a) 127 then Some (Sgr (attributes_of (number_of a + 1))) else None
next rows cols (Setaf c) = if nat_lt (color_number c) 7 then Some (Setaf (color (color_number c + 1))) else None
next rows cols (Setab c) = if nat_lt (color_number c) 7 then Some (Setab (color (color_number c + 1))) else None
next rows cols (Csr top bottom) =
    if nat_lt (bottom + 1) rows then Some (Csr top (bottom + 1))
    else (if nat_lt (top + 2) rows then Some (Csr (top + 1) (top + 2)) else None)
next rows cols _ = None

-- the place of a list among the lines of its capability, from 0
abbrev pub rank : ℕ → ℕ → Row → ℕ
rank rows cols (Cup row col) = row * cols + col
rank rows cols (Hpa col) = col
rank rows cols (Vpa row) = row
rank rows cols (Cub n) = n - 1
rank rows cols (Cuf n) = n - 1
rank rows cols (Cuu n) = n - 1
rank rows cols (Cud n) = n - 1
rank rows cols (Ech n) = n - 1
rank rows cols (Sgr a) = number_of a
rank rows cols (Setaf c) = color_number c
rank rows cols (Setab c) = color_number c
rank rows cols (Csr top bottom) = above rows top + (bottom - top - 1)
rank rows cols _ = 0

-- how many lists its capability has
abbrev pub count : ℕ → ℕ → Row → ℕ
count rows cols (Cup row col) = rows * cols
count rows cols (Hpa col) = cols
count rows cols (Vpa row) = rows
count rows cols (Cub n) = cols - 1
count rows cols (Cuf n) = cols - 1
count rows cols (Cuu n) = rows - 1
count rows cols (Cud n) = rows - 1
count rows cols (Ech n) = cols
count rows cols (Sgr a) = 128
count rows cols (Setaf c) = 8
count rows cols (Setab c) = 8
count rows cols (Csr top bottom) = above rows (rows - 1)
count rows cols _ = 1

-- the first list of each capability is in range, and has the first place
pub record IsFirst (rows cols : ℕ) (row : Row) : Type 0 where
  pub range : IsInRange rows cols row
  pub rank_zero : rank rows cols row ≡ 0

abbrev pub FirstsInRange : Type 0
FirstsInRange = (rows cols n : ℕ) (row : Row) → IsSize rows cols → first_in_order n ≡ Some row → IsFirst rows cols row

-- `other` is of the same capability, in range, one place further, and greater in the order of lists of numbers
pub record Follows (rows cols : ℕ) (row other : Row) : Type 0 where
  pub range : IsInRange rows cols other
  pub rank_next : rank rows cols other ≡ rank rows cols row + 1
  pub same_order : order other ≡ order row
  pub same_count : count rows cols other ≡ count rows cols row
  pub ascends : slice_cmp nat_cmp (params row) (params other) ≡ Less

abbrev pub NextFollows : Type 0
NextFollows =
    (rows cols : ℕ) (row other : Row) → IsSize rows cols → IsInRange rows cols row → next rows cols row ≡ Some other
    → Follows rows cols row other

-- the last list has the last place
abbrev pub LastIsLast : Type 0
LastIsLast =
    (rows cols : ℕ) (row : Row) → IsSize rows cols → IsInRange rows cols row → next rows cols row ≡ None
    → rank rows cols row + 1 ≡ count rows cols row

-- each list has a place below the count
abbrev pub RanksBelow : Type 0
RanksBelow =
    (rows cols : ℕ) (row : Row) → IsSize rows cols → IsInRange rows cols row → rank rows cols row < count rows cols row

-- two lists of a capability at one place are equal
abbrev pub OneOfRank : Type 0
OneOfRank =
    (rows cols : ℕ) (row other : Row) → IsInRange rows cols row → IsInRange rows cols other → order row ≡ order other
    → rank rows cols row ≡ rank rows cols other → row ≡ other

-- a list of this capability has this place
pub record HasRank (rows cols : ℕ) (row : Row) (k : ℕ) : Type 0 where
  pub other : Row
  pub range : IsInRange rows cols other
  pub rank_is : rank rows cols other ≡ k
  pub same_order : order other ≡ order row
  pub same_count : count rows cols other ≡ count rows cols row

-- each place is a list's
abbrev pub EachReached : Type 0
EachReached =
    (rows cols : ℕ) (row : Row) → IsSize rows cols → IsInRange rows cols row → rank rows cols row ≡ 0 → (k : ℕ)
    → k < count rows cols row → HasRank rows cols row k
