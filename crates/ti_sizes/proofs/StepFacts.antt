-- Steps that are one for all sizes.
use Rattle.std.proofs.Common.{◌≡◌, ℕ, ◌+◌, ◌-◌, ◌<◌, ◌≤◌, ◌==◌, ◌&&◌, nat_le, nat_lt, min, Bool, true, false, if◌then◌else◌, Option, Some, None, refl, sym, ap, subst, ◌∙◌, arith}
use Rattle.std.proofs.lemmas.Bool.{le-leb, lt-leb, le-ltb, lt-ltb}
use Rattle.vt_term.specs.Size.{IsSize, max_rows, max_cols}
use Rattle.vt_term.specs.Function.{Function, LineFeed, NextLine, ReverseIndex, Backspace, CursorUp, CursorDown, CursorForward, CursorBack, CursorColumn, CursorRow, CursorPosition, EraseCells}
use Rattle.vt_term.specs.Function as functions
use Rattle.vt_effects.specs.declared.effects.Move.{Move}
use Rattle.vt_effects.specs.declared.effects.Move.TheVariants as moves
use Rattle.vt_effects.specs.declared.effects.Erasure.TheVariants as erasures
use Rattle.vt_effects.specs.declared.effects.Scroll.TheVariants as scrolls
use Rattle.vt_effects.specs.declared.effects.Region.{Region}
use Rattle.vt_effects.specs.declared.effects.Effect.{Effect}
use Rattle.vt_effects.specs.declared.starts.Start.{Start}
use Rattle.vt_effects.specs.declared.starts.Margins.{Margins}
use Rattle.vt_effects.specs.declared.starts.Margins.TheVariants as margins
use Rattle.vt_effects.specs.Effect.{moved}
use Rattle.vt_effects.specs.Record.{extended, and_back, and_forward, back_by, forward_by, with_col, with_row, if_some, are_whole, on_bottom, on_top, may_scroll, scrolling, cells_erased, line_fed}
use Rattle.ti_rows.specs.declared.rows.Row.{Row}
use Rattle.ti_rows.specs.Asked.{start_of}
use Rattle.ti_rows.specs.Lists.{IsInRange}
use Rattle.ti_sizes.specs.Steady.{IsSteadyStep, HasRow, HasCol, greatest_start, rows_free, cols_free, KnowsWhole, HasRowsFor, HasColsFor, IsAtBottom, IsAtTop}
use Rattle.ti_sizes.proofs.StartFacts.{in_greatest, margins_fixed, row_min_fixed, col_min_fixed, row_room, col_room}

pub greatest : IsSize max_rows max_cols
greatest = (omega arith, omega arith, omega arith, omega arith)

-- a step with this outcome at each size is one for all
always : (row : Row) (f : Function) (e : Effect) (o : Option Effect) → ((rows cols : ℕ) → IsSize rows cols → IsInRange rows cols row → extended rows cols (start_of rows cols row) f e ≡ o) → IsSteadyStep row f e
always row f e o a rows cols z r = a rows cols z r ∙ sym (a max_rows max_cols greatest (in_greatest rows cols row z r))

held : (n k : ℕ) → n - 1 < k → min (n - 1) (k - 1) ≡ n - 1
held n k h = omega (arith, h)

-- ---- places

pub row_steady : (row : Row) (n : ℕ) (e : Effect) → HasRow row (n - 1) → IsSteadyStep row (CursorRow n) e
row_steady row n e h = always row (CursorRow n) e (Some (with_row e (moves.To (n - 1)))) (λ rows cols z r. ap (λ (k : ℕ). Some (with_row e (moves.To k))) (held n rows (h rows cols z r)))

pub column_steady : (row : Row) (n : ℕ) (e : Effect) → HasCol row (n - 1) → IsSteadyStep row (CursorColumn n) e
column_steady row n e h = always row (CursorColumn n) e (Some (with_col e (moves.To (n - 1)))) (λ rows cols z r. ap (λ (k : ℕ). Some (with_col e (moves.To k))) (held n cols (h rows cols z r)))

pub position_steady : (row : Row) (n m : ℕ) (e : Effect) → HasRow row (n - 1) → HasCol row (m - 1) → IsSteadyStep row (CursorPosition n m) e
position_steady row n m e h k = always row (CursorPosition n m) e (Some (with_col (with_row e (moves.To (n - 1))) (moves.To (m - 1))))
    (λ rows cols z r.
    ap (λ (x : ℕ). Some (with_col (with_row e (moves.To x)) (moves.To (min (m - 1) (cols - 1))))) (held n rows (h rows cols z r))
    ∙ ap (λ (x : ℕ). Some (with_col (with_row e (moves.To (n - 1))) (moves.To x))) (held m cols (k rows cols z r)))

cells_held : (n k : ℕ) → n - 1 < k → min n k ≡ n
cells_held n k h = omega (arith, h)

pub cells_steady : (row : Row) (n : ℕ) (e : Effect) → HasCol row (n - 1) → IsSteadyStep row (EraseCells n) e
cells_steady row n e h = always row (EraseCells n) e (cells_erased (erasures.Next n) e) (λ rows cols z r. ap (λ (k : ℕ). cells_erased (erasures.Next k) e) (cells_held n cols (h rows cols z r)))

bottom_held : (rows last : ℕ) → (last == 0) ≡ false → last - 1 < rows → (if last == 0 then rows - 1 else min (last - 1) (rows - 1)) ≡ last - 1
bottom_held rows last some h = ap (λ (b : Bool). if b then rows - 1 else min (last - 1) (rows - 1)) some ∙ held last rows h

bounded : ℕ → ℕ → Effect → Effect
bounded top bottom e = if nat_lt top bottom then record e {
  margins = Some (record { top = top; bottom = bottom });
  row = moves.To 0;
  col = moves.To 0;
  ends_pending = true;
} else e

pub margins_steady : (row : Row) (first last : ℕ) (e : Effect) → (last == 0) ≡ false → HasRow row (last - 1) → IsSteadyStep row (functions.Margins first last) e
unfolding bounded
margins_steady row first last e some h = always row (functions.Margins first last) e (Some (bounded (first - 1) (last - 1) e))
    (λ rows cols z r. ap (λ (k : ℕ). Some (bounded (first - 1) k e)) (bottom_held rows last some (h rows cols z r)))

-- ---- moves back

back_given : (m : Move) (n low high : ℕ) → n ≤ moved m low → back_by n low high m ≡ Some (and_back m n)
back_given m n low high h = ap (λ (b : Bool). if b then Some (and_back m n) else (if nat_lt (moved m high) n then Some (moves.To 0) else None)) (le-leb n (moved m low) h)

left : (row : Row) (n : ℕ) (e : Effect) → n ≤ moved e.col (greatest_start row).col_min → (rows cols : ℕ) → if_some (with_col e) (back_by n (start_of rows cols row).col_min (start_of rows cols row).col_max e.col) ≡ Some (with_col e (and_back e.col n))
left row n e h rows cols = ap (if_some (with_col e)) (back_given e.col n (start_of rows cols row).col_min (start_of rows cols row).col_max (subst (λ (k : ℕ). n ≤ moved e.col k) (col_min_fixed row max_rows max_cols rows cols) h))

pub left_steady : (row : Row) (n : ℕ) (e : Effect) → n ≤ moved e.col (greatest_start row).col_min → IsSteadyStep row (CursorBack n) e
left_steady row n e h = always row (CursorBack n) e (Some (with_col e (and_back e.col n))) (λ rows cols z r. left row n e h rows cols)

pub backspace_steady : (row : Row) (e : Effect) → 1 ≤ moved e.col (greatest_start row).col_min → IsSteadyStep row Backspace e
backspace_steady row e h = always row Backspace e (Some (with_col e (and_back e.col 1))) (λ rows cols z r. left row 1 e h rows cols)

whole : (row : Row) (e : Effect) → KnowsWhole row e → (rows cols : ℕ) → are_whole rows (start_of rows cols row).margins e.margins ≡ true
whole row e k rows cols =
    let same : (start_of rows cols row).margins ≡ margins.Whole = margins_fixed row rows cols max_rows max_cols ∙ k.start in
    ap (λ (m : Margins). are_whole rows m e.margins) same ∙ ap (λ (r : Option Region). are_whole rows margins.Whole r) k.kept

up_at : (row : Row) (n : ℕ) (e : Effect) → n ≤ moved e.row (greatest_start row).row_min → (rows cols : ℕ) → n ≤ moved e.row (start_of rows cols row).row_min
up_at row n e h rows cols = subst (λ (k : ℕ). n ≤ moved e.row k) (row_min_fixed row max_rows max_cols rows cols) h

pub up_steady : (row : Row) (n : ℕ) (e : Effect) → KnowsWhole row e → n ≤ moved e.row (greatest_start row).row_min → IsSteadyStep row (CursorUp n) e
up_steady row n e k h = always row (CursorUp n) e (Some (with_row e (and_back e.row n)))
    (λ rows cols z r.
    ap (λ (b : Bool). if b then if_some (with_row e) (back_by n (start_of rows cols row).row_min (start_of rows cols row).row_max e.row) else None) (whole row e k rows cols)
    ∙ ap (if_some (with_row e)) (back_given e.row n (start_of rows cols row).row_min (start_of rows cols row).row_max (up_at row n e h rows cols)))

-- ---- moves forward

pub rows_kept : (row : Row) (e : Effect) (n : ℕ) → e.row ≡ moves.Kept → n ≤ rows_free row → HasRowsFor row e n
rows_kept row e n k h rows cols z r = let same = ap (λ (m : Move). moved m (start_of rows cols row).row_max) k in omega (arith, same, row_room rows cols row z r, h)

pub rows_to : (row : Row) (e : Effect) (n to : ℕ) → e.row ≡ moves.To to → HasRow row (to + n) → HasRowsFor row e n
rows_to row e n to k h rows cols z r = let same = ap (λ (m : Move). moved m (start_of rows cols row).row_max) k in omega (arith, same, h rows cols z r)

pub cols_kept : (row : Row) (e : Effect) (n : ℕ) → e.col ≡ moves.Kept → n ≤ cols_free row → HasColsFor row e n
cols_kept row e n k h rows cols z r = let same = ap (λ (m : Move). moved m (start_of rows cols row).col_max) k in omega (arith, same, col_room rows cols row z r, h)

pub cols_to : (row : Row) (e : Effect) (n to : ℕ) → e.col ≡ moves.To to → HasCol row (to + n) → HasColsFor row e n
cols_to row e n to k h rows cols z r = let same = ap (λ (m : Move). moved m (start_of rows cols row).col_max) k in omega (arith, same, h rows cols z r)

forward_given : (m : Move) (n low high last : ℕ) → moved m high + n ≤ last → forward_by n low high last m ≡ Some (and_forward m n)
forward_given m n low high last h = ap (λ (b : Bool). if b then Some (and_forward m n) else (if nat_lt last (moved m low + n) then Some (moves.To last) else None)) (le-leb (moved m high + n) last h)

pub right_steady : (row : Row) (n : ℕ) (e : Effect) → HasColsFor row e n → IsSteadyStep row (CursorForward n) e
right_steady row n e h = always row (CursorForward n) e (Some (with_col e (and_forward e.col n)))
    (λ rows cols z r. ap (if_some (with_col e)) (forward_given e.col n (start_of rows cols row).col_min (start_of rows cols row).col_max (cols - 1) (h rows cols z r)))

pub down_steady : (row : Row) (n : ℕ) (e : Effect) → KnowsWhole row e → HasRowsFor row e n → IsSteadyStep row (CursorDown n) e
down_steady row n e k h = always row (CursorDown n) e (Some (with_row e (and_forward e.row n)))
    (λ rows cols z r.
    ap (λ (b : Bool). if b then if_some (with_row e) (forward_by n (start_of rows cols row).row_min (start_of rows cols row).row_max (rows - 1) e.row) else None) (whole row e k rows cols)
    ∙ ap (if_some (with_row e)) (forward_given e.row n (start_of rows cols row).row_min (start_of rows cols row).row_max (rows - 1) (h rows cols z r)))

-- ---- one line down or up

scrolls_up : ℕ → Start → Effect → Option Effect
scrolls_up rows start e = if on_bottom rows start.row_min start.margins && may_scroll e then Some (scrolling scrolls.Up e) else None

both : (a b : Bool) → a ≡ true → b ≡ true → (a && b) ≡ true
both a b h k = ap (λ (x : Bool). x && b) h ∙ k

neither : (a b : Bool) → b ≡ false → (a && b) ≡ false
neither true b h = h
neither false b h = refl

fed_down : (row : Row) (e : Effect) → KnowsWhole row e → HasRowsFor row e 1 → (rows cols : ℕ) → IsSize rows cols → IsInRange rows cols row → line_fed rows (start_of rows cols row) e ≡ Some (with_row e (and_forward e.row 1))
unfolding scrolls_up
fed_down row e k h rows cols z r =
    let room : moved e.row (start_of rows cols row).row_max + 1 < rows = omega (arith, h rows cols z r, z.0) in
    ap (λ (b : Bool). if b then Some (with_row e (and_forward e.row 1)) else scrolls_up rows (start_of rows cols row) e)
    (both (are_whole rows (start_of rows cols row).margins e.margins) (nat_lt (moved e.row (start_of rows cols row).row_max + 1) rows) (whole row e k rows cols) (lt-ltb (moved e.row (start_of rows cols row).row_max + 1) rows room))

fed_up : (row : Row) (e : Effect) → IsAtBottom row e → (rows cols : ℕ) → IsSize rows cols → IsInRange rows cols row → line_fed rows (start_of rows cols row) e ≡ (if may_scroll e then Some (scrolling scrolls.Up e) else None)
unfolding scrolls_up
fed_up row e k rows cols z r =
    let there : moved e.row (start_of rows cols row).row_max ≡ (start_of rows cols row).row_max = ap (λ (m : Move). moved m (start_of rows cols row).row_max) k.kept in
    let last : rows ≤ moved e.row (start_of rows cols row).row_max + 1 = omega (arith, there, row_room rows cols row z r, k.none_free) in
    let same : (start_of rows cols row).margins ≡ margins.OnBottom = margins_fixed row rows cols max_rows max_cols ∙ k.start in
    ap (λ (b : Bool). if b then Some (with_row e (and_forward e.row 1)) else scrolls_up rows (start_of rows cols row) e)
    (neither (are_whole rows (start_of rows cols row).margins e.margins) (nat_lt (moved e.row (start_of rows cols row).row_max + 1) rows) (le-ltb (moved e.row (start_of rows cols row).row_max + 1) rows last))
    ∙ ap (λ (m : Margins). if on_bottom rows (start_of rows cols row).row_min m && may_scroll e then Some (scrolling scrolls.Up e) else None) same

pub feed_steady : (row : Row) (e : Effect) → KnowsWhole row e → HasRowsFor row e 1 → IsSteadyStep row LineFeed e
feed_steady row e k h = always row LineFeed e (Some (with_row e (and_forward e.row 1))) (fed_down row e k h)

pub feed_scrolls : (row : Row) (e : Effect) → IsAtBottom row e → IsSteadyStep row LineFeed e
feed_scrolls row e k = always row LineFeed e (if may_scroll e then Some (scrolling scrolls.Up e) else None) (fed_up row e k)

abbrev at_start : Effect → Effect
at_start e = with_col e (moves.To 0)

pub next_steady : (row : Row) (e : Effect) → KnowsWhole row e → HasRowsFor row e 1 → IsSteadyStep row NextLine e
next_steady row e k h = always row NextLine e (Some (with_row (at_start e) (and_forward e.row 1))) (fed_down row (at_start e) (record { start = k.start; kept = k.kept }) h)

pub next_scrolls : (row : Row) (e : Effect) → IsAtBottom row e → IsSteadyStep row NextLine e
next_scrolls row e k = always row NextLine e (if may_scroll (at_start e) then Some (scrolling scrolls.Up (at_start e)) else None) (fed_up row (at_start e) (record { start = k.start; kept = k.kept; none_free = k.none_free }))

scrolls_down : ℕ → Start → Effect → Option Effect
scrolls_down rows start e = if on_top rows start.row_max start.margins && may_scroll e then Some (scrolling scrolls.Down e) else None

pub reverse_steady : (row : Row) (e : Effect) → KnowsWhole row e → 1 ≤ moved e.row (greatest_start row).row_min → IsSteadyStep row ReverseIndex e
unfolding scrolls_down
reverse_steady row e k h = always row ReverseIndex e (Some (with_row e (and_back e.row 1)))
    (λ rows cols z r.
    ap (λ (b : Bool). if b then Some (with_row e (and_back e.row 1)) else scrolls_down rows (start_of rows cols row) e)
    (both (are_whole rows (start_of rows cols row).margins e.margins) (nat_le 1 (moved e.row (start_of rows cols row).row_min)) (whole row e k rows cols) (le-leb 1 (moved e.row (start_of rows cols row).row_min) (up_at row 1 e h rows cols))))

pub reverse_scrolls : (row : Row) (e : Effect) → IsAtTop row e → IsSteadyStep row ReverseIndex e
unfolding scrolls_down
reverse_scrolls row e k = always row ReverseIndex e (if may_scroll e then Some (scrolling scrolls.Down e) else None)
    (λ rows cols z r.
    let same : (start_of rows cols row).margins ≡ margins.OnTop = margins_fixed row rows cols max_rows max_cols ∙ k.start in
    let zero : moved e.row (start_of rows cols row).row_min ≡ 0 = ap (λ (n : ℕ). moved e.row n) (row_min_fixed row rows cols max_rows max_cols) ∙ k.first in
    ap (λ (b : Bool). if b then Some (with_row e (and_back e.row 1)) else scrolls_down rows (start_of rows cols row) e)
    (neither (are_whole rows (start_of rows cols row).margins e.margins) (nat_le 1 (moved e.row (start_of rows cols row).row_min)) (lt-leb 1 (moved e.row (start_of rows cols row).row_min) (omega (arith, zero))))
    ∙ ap (λ (m : Margins). if on_top rows (start_of rows cols row).row_max m && may_scroll e then Some (scrolling scrolls.Down e) else None) same)
