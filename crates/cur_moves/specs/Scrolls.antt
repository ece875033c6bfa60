-- Lines that move within a region of the screen (terminfo(5), "Insert/Delete Line"; VT100 user guide, "Scrolling
-- margins").
use Rattle.std.specs.Prelude.{ℕ, ◌+◌, ◌-◌, ◌<◌, ◌≡◌, ◌&&◌, nat_le, true, Option, Some, None, if◌then◌else◌}
use Rattle.ti_rows.specs.declared.rows.Row.{Row}
use Rattle.ti_rows.specs.declared.rows.Row.TheVariants.{Csr, Ind, Ri}
use Rattle.ti_conforms.specs.Certified.{Table, has}
use Rattle.ti_conforms.specs.Table.{widening}
use Rattle.cur_steps.specs.Inks.{blank_ink}
use Rattle.cur_steps.specs.declared.inks.Ink.{Ink}
pub use Rattle.cur_moves.specs.declared.scrolls.Scroll.{Scroll}

-- the line in which the cursor makes the region scroll
abbrev pub edge : Scroll → ℕ
edge x = if x.up then x.bottom else x.top

-- the row whose line moves the region by one line
abbrev pub scroll_row : Scroll → Row
scroll_row x = if x.up then Ind else Ri

-- the region's lines moved up or down by a number of lines, blank lines at the free end, and all other lines unchanged
abbrev pub shifted : Scroll → (ℕ → ℕ → Ink) → ℕ → ℕ → Ink
shifted x g i j =
    if nat_le x.top i && nat_le i x.bottom then
    (if x.up then (if nat_le (i + x.count) x.bottom then g (i + x.count) j else blank_ink)
    else (if nat_le (x.top + x.count) i then g (i - x.count) j else blank_ink))
    else g i j

-- (Serves the code alone.) a cell of a line, or a blank if there is no line
abbrev pub cell_of : (ℕ → ℕ → Ink) → Option ℕ → ℕ → Ink
cell_of g None j = blank_ink
cell_of g (Some i) j = g i j

-- the region is two lines of the screen or more, and there are lines for its margins, for those of the whole screen,
-- and for a scroll in that direction
pub record CanScroll (t : Table) (x : Scroll) : Type 0 where
  pub region : x.top < x.bottom
  pub bottom : x.bottom < t.rows
  pub frames : has t (Csr x.top x.bottom) ≡ true
  pub widens : has t (widening t) ≡ true
  pub moves : has t (scroll_row x) ≡ true
