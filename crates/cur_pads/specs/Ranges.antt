-- Runs of lines or columns, and rectangles of them.
use Rattle.std.specs.Prelude.{ℕ, ◌+◌, ◌-◌, nat_le, Option, Some, None, if◌then◌else◌, ℤ}
use Rattle.cur_drawing.specs.Windows.{place_below}
use Rattle.cur_drawing.specs.declared.spans.Span.{Span}

abbrev pub up_to : ℕ → Option ℕ → Option Span
up_to at (Some last) = Some (record { at = at; size = last - at + 1 })
up_to at None = None

-- the lines or columns from the first to the last one, if that is below the limit
abbrev pub between : ℕ → ℤ → ℕ → Option Span
between at last limit = up_to at (place_below last limit)

-- the `size` lines or columns from `at` on, if they are all below the limit
abbrev pub from : ℕ → ℕ → ℕ → Option Span
from at size limit = if nat_le (at + size) limit then Some (record { at = at; size = size }) else None
