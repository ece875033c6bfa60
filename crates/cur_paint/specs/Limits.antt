-- The wanted place of the cursor, and the most bytes that are sent.
use Rattle.std.specs.Prelude.{ℕ, ◌+◌, ◌-◌, ◌*◌, ◌<◌, ◌≡◌, ◌==◌, ◌&&◌, Bool, Option, Some, None, length, min}
use Rattle.std.specs.Prelude.{if◌then◌else◌}
use Rattle.ti_conforms.specs.Certified.{Table, cell_limit}
use Rattle.cur_steps.specs.Beliefs.{moves, changes, modes_limit, plain_limit}
use Rattle.cur_steps.specs.declared.beliefs.Belief.{Belief}
use Rattle.cur_steps.specs.declared.beliefs.Place.{Place}
use Rattle.cur_steps.specs.declared.beliefs.Mode.{Mode}
use Rattle.cur_steps.specs.declared.inks.Ink.{Ink}
use Rattle.cur_paint.specs.Differ.{all_differ}

abbrev pub IsWithin : Table → Option Place → Type 0
IsWithin t None = Unit {0}
IsWithin t (Some p) = (p.row < t.rows) × (p.col < t.cols)

-- the cursor is in the wanted place, if one is wanted
abbrev pub IsCursor : Option Place → ℕ → ℕ → Type 0
IsCursor None row col = Unit {0}
IsCursor (Some p) row col = (row ≡ p.row) × (col ≡ p.col)

-- the place of the cursor of a terminal with this many columns: in the last one, if a wrap is pending
abbrev pub seen_at : ℕ → Place → Place
seen_at cols p = record { row = p.row; col = min p.col (cols - 1) }

-- the cursor is known to be in the wanted place, if one is wanted
abbrev pub IsPlaced : ℕ → Option Place → Place → Type 0
IsPlaced cols cursor now = IsCursor cursor (seen_at cols now).row (seen_at cols now).col

-- the number of last moves: none or one
abbrev pub last_move : ℕ → Place → Option Place → ℕ
last_move cols now None = 0
last_move cols now (Some p) = moves (seen_at cols now) p.row p.col

-- the most bytes of the strings that give the cursor its mode and its place, the last ones of a refresh
abbrev pub cursor_limit : Table → ℕ
cursor_limit t = modes_limit t + t.longest.cup

-- the most bytes of the strings that make the rendition the default one and the plain set active, just before those
abbrev pub rest_limit : Table → ℕ
rest_limit t = plain_limit t + t.longest.sets

abbrev pub is_settled : ℕ → Belief → Option Place → Mode → Bool
is_settled cols b cursor mode = (last_move cols b.place cursor == 0) && (changes b.mode mode == 0)

-- a cell's limit for each place that differs and once more, and nothing if nothing differs, the mode is the shown one
-- and the cursor is right
abbrev pub paint_limit : Table → (ℕ → ℕ → Ink) → (ℕ → ℕ → Ink) → Belief → Option Place → Mode → ℕ
paint_limit t old new b cursor mode =
    let d = all_differ old new t.cols t.rows in
    d * cell_limit t + (if (d == 0) && is_settled t.cols b cursor mode then 0 else 1) * cell_limit t

-- a cell's limit for each place that differs and once more
abbrev pub renewal_limit : Table → (ℕ → ℕ → Ink) → (ℕ → ℕ → Ink) → ℕ
renewal_limit t old new = (all_differ old new t.cols t.rows + 1) * cell_limit t

-- the limit of a full repaint
abbrev pub fresh_limit : Table → ℕ
fresh_limit t = (t.rows * t.cols + 1) * cell_limit t + length t.resync
