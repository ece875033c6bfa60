-- Runs of lines or columns, and rectangles of them, from the numbers given to a call.
use Rattle.std.specs.Prelude.{ℕ, ◌+◌, ◌-◌, ◌<◌, ◌≤◌, ◌==◌, ◌||◌, nat_lt, nat_le, max, min, Bool, true, false, Option}
use Rattle.std.specs.Prelude.{Some, None, Result, Ok, Err, if◌then◌else◌, ℤ, pos, negsuc}
use Rattle.grids.specs.declared.areas.Area.{Area}
use Rattle.cur_drawing.specs.declared.spans.Span.{Span}
use Rattle.cur_drawing.specs.declared.spans.CopySpan.{CopySpan}
use Rattle.grids.specs.declared.areas.Place.{Place}
use Rattle.cur_drawing.specs.declared.refusals.Refusal.{Refusal}
use Rattle.cur_drawing.specs.declared.refusals.Refusal.TheVariants.{BadRegion}

-- the n lines or columns from a place on, or all up to the limit if n is 0; none if they aren't all below the limit
abbrev pub span_within : ℤ → ℤ → ℕ → Option Span
span_within (pos n) (pos at) limit =
    if nat_lt at limit then
    (if n == 0 then Some (record { at = at; size = limit - at })
    else if nat_le n (limit - at) then Some (record { at = at; size = n })
    else None)
    else None
span_within (pos n) (negsuc at) limit = None
span_within (negsuc n) at limit = None

abbrev pub is_negative : ℤ → Bool
is_negative (pos n) = false
is_negative (negsuc n) = true

abbrev pub rectangle : Option Span → Option Span → Refusal → Result Area Refusal
rectangle (Some v) (Some h) outside = Ok (record { top = v.at; left = h.at; rows = v.size; cols = h.size })
rectangle (Some v) None outside = Err outside
rectangle None h outside = Err outside

-- the rectangle of a size at a place, within `height` rows and `width` columns
abbrev pub area_within : ℕ → ℕ → ℤ → ℤ → ℤ → ℤ → Refusal → Result Area Refusal
area_within height width lines cols y x outside =
    if is_negative lines || is_negative cols then Err BadRegion
    else rectangle (span_within lines y height) (span_within cols x width) outside

-- a rectangle that isn't empty, within `height` rows and `width` columns
pub record IsAreaWithin (height width : ℕ) (a : Area) : Type 0 where
  pub rows : 0 < a.rows
  pub cols : 0 < a.cols
  pub bottom : a.top + a.rows ≤ height
  pub right : a.left + a.cols ≤ width

-- the place of `size` lines or columns, if they are all below the limit
abbrev pub start_within : ℤ → ℕ → ℕ → Option ℕ
start_within (pos at) size limit = if nat_le (at + size) limit then Some at else None
start_within (negsuc at) size limit = None

-- ---- the lines and columns of a copy

-- `count` lines or columns of the destination from `to` on, if there are as many in the source
abbrev pub copy_span_at : ℕ → ℕ → Option ℕ → Option CopySpan
copy_span_at to count (Some from) = Some (record { from = from; to = to; count = count })
copy_span_at to count None = None

abbrev pub copy_span_between : ℤ → ℕ → Option ℕ → Option ℕ → Option CopySpan
copy_span_between from n (Some to) (Some end) = copy_span_at to (end - to + 1) (start_within from (end - to + 1) n)
copy_span_between from n (Some to) None = None
copy_span_between from n None end = None

-- the destination's lines or columns `to` to `end`, and as many of the source from `from` on; the source has n, the
-- destination m
abbrev pub matched : ℤ → ℤ → ℤ → ℕ → ℕ → Option CopySpan
matched from to end n m = copy_span_between from n (start_within to 1 m) (start_within end 1 m)

-- the lines or columns that both have: the source's n from `at` on, and the destination's m from `to` on
abbrev pub common : ℕ → ℕ → ℕ → ℕ → Option CopySpan
common at n to m =
    if nat_lt (max at to) (min (at + n) (to + m)) then
    Some (record { from = max at to - at; to = max at to - to; count = min (at + n) (to + m) - max at to })
    else None

-- the lines or columns are within a source of n and a destination of m
pub record IsWithin (n m : ℕ) (s : CopySpan) : Type 0 where
  pub source : s.from + s.count ≤ n
  pub target : s.to + s.count ≤ m

-- the bound of the rows and of the columns of a rectangle's places
abbrev pub place_count : ℕ
place_count = 65536

-- a rectangle, and the one of its size from a place on, end below that bound
pub record ArePlaces (a : Area) (from : Place) : Type 0 where
  pub rows : a.top + a.rows < place_count
  pub cols : a.left + a.cols < place_count
  pub from_rows : from.row + a.rows < place_count
  pub from_cols : from.col + a.cols < place_count
