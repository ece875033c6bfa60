-- Each step keeps the screen's size and its invariant.
use Rattle.std.proofs.Common.{◌≤◌, Option, ◌-◌, ◌==◌, nat_lt, min, ◌≡◌, ℕ, ◌+◌, ◌<◌, Bool, true, false, List, [], ◌∷◌, length, refl, sym, subst, ◌∙◌, inl, inr, arith, if◌then◌else◌, nat_le, ◌&&◌, max, ◌*◌, ◌/◌}
use Rattle.std.proofs.lemmas.Bool.{cases_lt}
use Rattle.std.proofs.lemmas.Bool.Decides.{nat_tests}
use Rattle.vt_screen.specs.Look.{Look, IsPrinted, blank}
use Rattle.vt_screen.specs.Grid.{Grid, line_at, look_at, drawn, put, HasEvenLines}
use Rattle.vt_screen.specs.Screen.{Screen, IsScreen}
use Rattle.vt_screen.specs.declared.functions.CodeElement.TheVariants.{G0, G1}
use Rattle.vt_screen.specs.declared.functions.ModeKind.{ModeKind}
use Rattle.vt_screen.specs.declared.functions.ModeKind.TheVariants.{Standard, Private}
use Rattle.vt_screen.specs.declared.functions.Function.{Function}
use Rattle.vt_screen.specs.declared.functions.Function.TheVariants.{Print, LineFeed, CarriageReturn, Backspace, Tab, ShiftOut, ShiftIn, ReverseIndex, NextLine, CursorUp, CursorDown, CursorForward, CursorBack, CursorColumn, CursorRow, CursorPosition, EraseLine, EraseDisplay, EraseCells, InsertCells, DeleteCells, InsertLines, DeleteLines, ScrollUp, ScrollDown, Margins, Designate, SelectRendition, Modes, Ignored}
use Rattle.vt_screen.specs.declared.functions.EraseExtent.{EraseExtent}
use Rattle.vt_screen.specs.declared.functions.EraseExtent.TheVariants.{ToEnd, FromStart, Whole}
use Rattle.vt_screen.specs.declared.renditions.Rendition.{Rendition}
use Rattle.vt_screen.specs.declared.displays.Charset.{Charset}
use Rattle.std.specs.Option.{unwrap_or}
use Rattle.vt_screen.specs.Step.{lines_up, lines_down, inserted, deleted, opened, shown, placed, printed, wrapped, goes_to, goes_down, goes_up, line_feed, reverse_index, erased, part_erased, lines_erased, line_erased, display_erased, in_region, lines_inserted, lines_deleted, margins_set, all_rendered, mode_set, all_modes_set, act, CanAct}
use Rattle.std.proofs.lemmas.List.{get_or_default, get_or_past}
use Rattle.grids.specs.Grids.{cell_at, is_in, one}
use Rattle.grids.proofs.Drawings.{length-drawn, length-line_at-drawn, cell_at-drawn}
use Rattle.vt_screen.specs.Look.{space}

characters_drawn : (f : ℕ → ℕ → Look → Look) (g : Grid) → ((i j : ℕ) → IsPrinted (look_at g i j).byte) → ((i j : ℕ) (x : Look) → IsPrinted x.byte → IsPrinted (f i j x).byte)
    → (i j : ℕ) → IsPrinted (look_at (drawn f g) i j).byte
characters_drawn f g h p i j = elim (cases_lt j (length (line_at g i))) [
  | inl lt ↦ subst (λ (x : Look). IsPrinted x.byte) (sym (cell_at-drawn f space g i j lt)) (p i j (look_at g i j) (h i j))
  | inr ge ↦ subst (λ (x : Look). IsPrinted x.byte) (sym (get_or_past (line_at (drawn f g) i) j space (omega (arith, length-line_at-drawn f g i)))) (omega arith, omega arith)
]

-- a drawing keeps the invariant if it keeps characters printable
pub drawn_keeps : (s : Screen) (f : ℕ → ℕ → Look → Look) → IsScreen s → ((i j : ℕ) (x : Look) → IsPrinted x.byte → IsPrinted (f i j x).byte) → IsScreen (record s { grid = drawn f s.grid })
drawn_keeps s f h p = record {
  size = h.size;
  lines = length-drawn f s.grid ∙ h.lines;
  columns = λ i lt. length-line_at-drawn f s.grid i ∙ h.columns i lt;
  characters = characters_drawn f s.grid h.characters p;
  row = h.row;
  col = h.col;
  region = h.region;
  bottom = h.bottom;
}

pub even_lines : (s : Screen) → IsScreen s → HasEvenLines s.grid
even_lines s h i lt = h.columns i (omega (arith, h.lines)) ∙ sym (h.columns 0 (omega (arith, h.lines)))

either_printed : (b : Bool) (x y : Look) → IsPrinted x.byte → IsPrinted y.byte → IsPrinted (if b then x else y).byte
either_printed true x y h k = h
either_printed false x y h k = k

-- a cell of the screen is printable, if the default x is
cell_printed : (s : Screen) → IsScreen s → (i j : ℕ) (x : Look) → IsPrinted x.byte → IsPrinted (cell_at x s.grid i j).byte
cell_printed s h i j x p = elim (cases_lt j (length (line_at s.grid i))) [
  | inl near ↦ subst (λ (y : Look). IsPrinted y.byte) (get_or_default (line_at s.grid i) j space x near) (h.characters i j)
  | inr past ↦ subst (λ (y : Look). IsPrinted y.byte) (sym (get_or_past (line_at s.grid i) j x past)) p
]

-- t is a legal screen of the size of s
pub record Kept (s t : Screen) : Type 0 where
  pub screen : IsScreen t
  pub rows : t.rows ≡ s.rows
  pub cols : t.cols ≡ s.cols

pub kept_again : (s t u : Screen) → Kept s t → Kept t u → Kept s u
kept_again s t u h k = record { screen = k.screen; rows = k.rows ∙ h.rows; cols = k.cols ∙ h.cols }

either_kept : (b : Bool) (s x y : Screen) → (b ≡ true → Kept s x) → (b ≡ false → Kept s y) → Kept s (if b then x else y)
either_kept true s x y h k = h refl
either_kept false s x y h k = k refl

pub same_kept : (s : Screen) → IsScreen s → Kept s s
same_kept s h = record { screen = h; rows = refl; cols = refl }

moved_kept : (s : Screen) (r c : ℕ) (p : Bool) → IsScreen s → r < s.rows → c < s.cols → Kept s (record s { row = r; col = c; pending = p })
moved_kept s r c p h lr lc = record {
  rows = refl;
  cols = refl;
  screen = record { size = h.size; lines = h.lines; columns = h.columns; characters = h.characters; row = lr; col = lc; region = h.region; bottom = h.bottom };
}

below : (n m : ℕ) → nat_lt n m ≡ true → n < m
below n m e = grind (arith, nat_tests)

at_most : (n m : ℕ) → nat_le n m ≡ true → n ≤ m
at_most n m e = grind (arith, nat_tests)

blank_printed : (s : Screen) → IsPrinted (blank s.rendition).byte
blank_printed s = (omega arith, omega arith)

drawn_kept : (s : Screen) (f : ℕ → ℕ → Look → Look) → IsScreen s → ((i j : ℕ) (x : Look) → IsPrinted x.byte → IsPrinted (f i j x).byte) → Kept s (record s { grid = drawn f s.grid })
drawn_kept s f h p = record { screen = drawn_keeps s f h p; rows = refl; cols = refl }

pub lines_up_kept : (top bottom n : ℕ) (s : Screen) → IsScreen s → Kept s (lines_up top bottom n s)
lines_up_kept top bottom n s h = drawn_kept s _ h
    (λ i j x p. either_printed (nat_le top i && nat_le i bottom) _ _ (either_printed (nat_le (i + n) bottom) _ _ (cell_printed s h (i + n) j x p) (blank_printed s)) p)

pub lines_down_kept : (top bottom n : ℕ) (s : Screen) → IsScreen s → Kept s (lines_down top bottom n s)
lines_down_kept top bottom n s h = drawn_kept s _ h
    (λ i j x p. either_printed (nat_le top i && nat_le i bottom) _ _ (either_printed (nat_le (top + n) i) _ _ (cell_printed s h (i - n) j x p) (blank_printed s)) p)

pub inserted_kept : (n : ℕ) (s : Screen) → IsScreen s → Kept s (inserted n s)
inserted_kept n s h = drawn_kept s _ h
    (λ i j x p. either_printed (i == s.row) _ _ (either_printed (nat_le s.col j) _ _ (either_printed (nat_lt j (s.col + n)) _ _ (blank_printed s) (cell_printed s h s.row (j - n) x p)) p) p)

pub deleted_kept : (n : ℕ) (s : Screen) → IsScreen s → Kept s (deleted n s)
deleted_kept n s h = drawn_kept s _ h
    (λ i j x p. either_printed (i == s.row) _ _ (either_printed (nat_le s.col j) _ _ (either_printed (nat_lt (j + n) (length (line_at s.grid s.row))) _ _ (cell_printed s h s.row (j + n) x p) (blank_printed s)) p) p)

pub part_erased_kept : (from to : ℕ) (s : Screen) → IsScreen s → Kept s (part_erased from to s)
part_erased_kept from to s h = drawn_kept s _ h
    (λ i j x p. either_printed (i == s.row) _ _ (either_printed (nat_le from j && nat_lt j to) _ _ (blank_printed s) p) p)

pub lines_erased_kept : (from to : ℕ) (s : Screen) → IsScreen s → Kept s (lines_erased from to s)
lines_erased_kept from to s h = drawn_kept s _ h (λ i j x p. either_printed (nat_le from i && nat_lt i to) _ _ (blank_printed s) p)

pub erased_kept : (chosen : ℕ → ℕ → Bool) (s : Screen) → IsScreen s → Kept s (erased chosen s)
erased_kept chosen s h = drawn_kept s _ h (λ i j x p. either_printed (chosen i j) _ _ (blank_printed s) p)

pub goes_to_kept : (r c : ℕ) (s : Screen) → IsScreen s → r < s.rows → c < s.cols → Kept s (goes_to r c s)
goes_to_kept r c s h lr lc = moved_kept s r c false h lr lc

goes_down_kept : (s : Screen) → IsScreen s → Kept s (goes_down s)
goes_down_kept s h = either_kept (s.row == s.bottom) s _ _
    (λ e. lines_up_kept s.top s.bottom 1 s h)
    (λ e. either_kept (nat_lt (s.row + 1) s.rows) s _ _
    (λ lt. moved_kept s (s.row + 1) s.col s.pending h (below (s.row + 1) s.rows lt) h.col)
    (λ lt. same_kept s h))

goes_up_kept : (s : Screen) → IsScreen s → Kept s (goes_up s)
goes_up_kept s h = either_kept (s.row == s.top) s _ _
    (λ e. lines_down_kept s.top s.bottom 1 s h)
    (λ e. moved_kept s (s.row - 1) s.col s.pending h (omega (arith, h.row)) h.col)

line_feed_kept : (s : Screen) → IsScreen s → Kept s (line_feed s)
line_feed_kept s h =
    let k : Kept s (record s { pending = false }) = moved_kept s s.row s.col false h h.row h.col in
    kept_again s (record s { pending = false }) (line_feed s) k (goes_down_kept (record s { pending = false }) k.screen)

reverse_index_kept : (s : Screen) → IsScreen s → Kept s (reverse_index s)
reverse_index_kept s h =
    let k : Kept s (record s { pending = false }) = moved_kept s s.row s.col false h h.row h.col in
    kept_again s (record s { pending = false }) (reverse_index s) k (goes_up_kept (record s { pending = false }) k.screen)

next_line_kept : (s : Screen) → IsScreen s → Kept s (line_feed (record s { col = 0 }))
next_line_kept s h =
    let k : Kept s (record s { col = 0 }) = moved_kept s s.row 0 s.pending h h.row (omega (arith, h.col)) in
    kept_again s (record s { col = 0 }) (line_feed (record s { col = 0 })) k (line_feed_kept (record s { col = 0 }) k.screen)

wrapped_kept : (s : Screen) → IsScreen s → Kept s (wrapped s)
wrapped_kept s h = either_kept s.pending s _ _ (λ e. next_line_kept s h) (λ e. same_kept s h)

opened_kept : (s : Screen) → IsScreen s → Kept s (opened s)
opened_kept s h = either_kept s.inserting s _ _ (λ e. inserted_kept 1 s h) (λ e. same_kept s h)

pub placed_kept : (b : ℕ) (s : Screen) → IsPrinted b → IsScreen s → Kept s (placed b s)
placed_kept b s p h =
    let g : IsScreen (record s { grid = put s.row s.col (shown s b) s.grid }) = drawn_keeps s _ h (λ i j x q. either_printed (is_in (one s.row s.col) i j) (shown s b) x p q) in
    let k = moved_kept (record s { grid = put s.row s.col (shown s b) s.grid }) s.row (min (s.col + 1) (s.cols - 1)) ((s.col + 1 == s.cols) && s.autowrap) g h.row (omega (arith, h.col)) in
    record { screen = k.screen; rows = refl; cols = refl }

printed_kept : (b : ℕ) (s : Screen) → IsPrinted b → IsScreen s → Kept s (printed b s)
printed_kept b s p h =
    let w : Kept s (wrapped s) = wrapped_kept s h in
    let o : Kept (wrapped s) (opened (wrapped s)) = opened_kept (wrapped s) w.screen in
    kept_again s (wrapped s) (printed b s) w (kept_again (wrapped s) (opened (wrapped s)) (printed b s) o (placed_kept b (opened (wrapped s)) p o.screen))

lines_inserted_kept : (n : ℕ) (s : Screen) → IsScreen s → Kept s (lines_inserted n s)
lines_inserted_kept n s h = either_kept (in_region s) s _ _
    (λ e. (let k : Kept s (lines_down s.row s.bottom n s) = lines_down_kept s.row s.bottom n s h in
    kept_again s (lines_down s.row s.bottom n s) (goes_to s.row 0 (lines_down s.row s.bottom n s)) k (moved_kept (lines_down s.row s.bottom n s) s.row 0 false k.screen h.row (omega (arith, h.col)))))
    (λ e. same_kept s h)

lines_deleted_kept : (n : ℕ) (s : Screen) → IsScreen s → Kept s (lines_deleted n s)
lines_deleted_kept n s h = either_kept (in_region s) s _ _
    (λ e. (let k : Kept s (lines_up s.row s.bottom n s) = lines_up_kept s.row s.bottom n s h in
    kept_again s (lines_up s.row s.bottom n s) (goes_to s.row 0 (lines_up s.row s.bottom n s)) k (moved_kept (lines_up s.row s.bottom n s) s.row 0 false k.screen h.row (omega (arith, h.col)))))
    (λ e. same_kept s h)

region_kept : (top bottom : ℕ) (s : Screen) → IsScreen s → top < bottom → bottom < s.rows → Kept s (record s { top = top; bottom = bottom; row = 0; col = 0; pending = false })
region_kept top bottom s h lt lb = record {
  rows = refl;
  cols = refl;
  screen = record { size = h.size; lines = h.lines; columns = h.columns; characters = h.characters; row = omega (arith, h.row); col = omega (arith, h.col); region = lt; bottom = lb };
}

last_row_below : (last rows : ℕ) → 0 < rows → (if last == 0 then rows - 1 else min (last - 1) (rows - 1)) < rows
last_row_below last rows h = grind (arith, nat_tests)

margins_kept : (first last : ℕ) (s : Screen) → IsScreen s → Kept s (margins_set first last s)
margins_kept first last s h = either_kept (nat_lt (first - 1) (if last == 0 then s.rows - 1 else min (last - 1) (s.rows - 1))) s _ _
    (λ e. region_kept (first - 1) (if last == 0 then s.rows - 1 else min (last - 1) (s.rows - 1)) s h (below _ _ e) (last_row_below last s.rows (omega (arith, h.row))))
    (λ e. same_kept s h)

switched_kept : (s : Screen) (p a v i : Bool) (r : Rendition) (c : Charset) → IsScreen s → Kept s (record s { pending = p; autowrap = a; visible = v; inserting = i; rendition = r; charset = c })
switched_kept s p a v i r c h = record {
  rows = refl;
  cols = refl;
  screen = record { size = h.size; lines = h.lines; columns = h.columns; characters = h.characters; row = h.row; col = h.col; region = h.region; bottom = h.bottom };
}

mode_kept : (kind : ModeKind) (on : Bool) (n : ℕ) (s : Screen) → IsScreen s → Kept s (mode_set kind on n s)
mode_kept Private on n s h = either_kept (n == 7) s _ _
    (λ e. switched_kept s (s.pending && on) on s.visible s.inserting s.rendition s.charset h)
    (λ e. either_kept (n == 25) s _ _ (λ e. switched_kept s s.pending s.autowrap on s.inserting s.rendition s.charset h) (λ e. same_kept s h))
mode_kept Standard on n s h = either_kept (n == 4) s _ _ (λ e. switched_kept s s.pending s.autowrap s.visible on s.rendition s.charset h) (λ e. same_kept s h)

modes_kept : (kind : ModeKind) (on : Bool) (ns : List (Option ℕ)) (s : Screen) → IsScreen s → Kept s (all_modes_set kind on ns s)
modes_kept kind on [] s h = same_kept s h
modes_kept kind on (n ∷ ns) s h =
    let k : Kept s (mode_set kind on (unwrap_or n 0) s) = mode_kept kind on (unwrap_or n 0) s h in
    kept_again s (mode_set kind on (unwrap_or n 0) s) (all_modes_set kind on (n ∷ ns) s) k (modes_kept kind on ns (mode_set kind on (unwrap_or n 0) s) k.screen)

row_above_below : (row top n rows : ℕ) → row < rows → (if nat_le top row then max top (row - n) else row - n) < rows
row_above_below row top n rows h = grind (arith, nat_tests)

row_below_below : (row bottom n rows : ℕ) → row < rows → bottom < rows → (if nat_le row bottom then min bottom (row + n) else min (rows - 1) (row + n)) < rows
row_below_below row bottom n rows h k = grind (arith, nat_tests)

line_erased_kept : (part : EraseExtent) (s : Screen) → IsScreen s → Kept s (line_erased part s)
line_erased_kept ToEnd s h = erased_kept _ s h
line_erased_kept FromStart s h = erased_kept _ s h
line_erased_kept Whole s h = erased_kept _ s h

display_erased_kept : (part : EraseExtent) (s : Screen) → IsScreen s → Kept s (display_erased part s)
display_erased_kept ToEnd s h = erased_kept _ s h
display_erased_kept FromStart s h = erased_kept _ s h
display_erased_kept Whole s h = erased_kept (λ i j. true) s h

pub act_kept : (f : Function) (s : Screen) → CanAct f → IsScreen s → Kept s (act f s)
act_kept (Print b) s p h = printed_kept b s p h
act_kept LineFeed s p h = line_feed_kept s h
act_kept CarriageReturn s p h = moved_kept s s.row 0 false h h.row (omega (arith, h.col))
act_kept Backspace s p h = moved_kept s s.row (s.col - 1) false h h.row (omega (arith, h.col))
act_kept Tab s p h = moved_kept s s.row (min ((s.col / 8 + 1) * 8) (s.cols - 1)) false h h.row (omega (arith, h.col))
act_kept ShiftOut s p h = switched_kept s s.pending s.autowrap s.visible s.inserting s.rendition (record s.charset { shifted_out = true }) h
act_kept ShiftIn s p h = switched_kept s s.pending s.autowrap s.visible s.inserting s.rendition (record s.charset { shifted_out = false }) h
act_kept ReverseIndex s p h = reverse_index_kept s h
act_kept NextLine s p h = next_line_kept s h
act_kept (CursorUp n) s p h = moved_kept s _ s.col false h (row_above_below s.row s.top n s.rows h.row) h.col
act_kept (CursorDown n) s p h = moved_kept s _ s.col false h (row_below_below s.row s.bottom n s.rows h.row h.bottom) h.col
act_kept (CursorForward n) s p h = moved_kept s s.row (min (s.col + n) (s.cols - 1)) false h h.row (omega (arith, h.col))
act_kept (CursorBack n) s p h = moved_kept s s.row (s.col - n) false h h.row (omega (arith, h.col))
act_kept (CursorColumn c) s p h = moved_kept s s.row (min (c - 1) (s.cols - 1)) false h h.row (omega (arith, h.col))
act_kept (CursorRow r) s p h = moved_kept s (min (r - 1) (s.rows - 1)) s.col false h (omega (arith, h.row)) h.col
act_kept (CursorPosition r c) s p h = moved_kept s (min (r - 1) (s.rows - 1)) (min (c - 1) (s.cols - 1)) false h (omega (arith, h.row)) (omega (arith, h.col))
act_kept (EraseLine part) s p h = line_erased_kept part s h
act_kept (EraseDisplay part) s p h = display_erased_kept part s h
act_kept (EraseCells n) s p h = erased_kept _ s h
act_kept (InsertCells n) s p h = inserted_kept n s h
act_kept (DeleteCells n) s p h = deleted_kept n s h
act_kept (InsertLines n) s p h = lines_inserted_kept n s h
act_kept (DeleteLines n) s p h = lines_deleted_kept n s h
act_kept (ScrollUp n) s p h = lines_up_kept s.top s.bottom n s h
act_kept (ScrollDown n) s p h = lines_down_kept s.top s.bottom n s h
act_kept (Margins first last) s p h = margins_kept first last s h
act_kept (Designate G0 graphic) s p h = switched_kept s s.pending s.autowrap s.visible s.inserting s.rendition (record s.charset { g0_graphic = graphic }) h
act_kept (Designate G1 graphic) s p h = switched_kept s s.pending s.autowrap s.visible s.inserting s.rendition (record s.charset { g1_graphic = graphic }) h
act_kept (SelectRendition ns) s p h = switched_kept s s.pending s.autowrap s.visible s.inserting (all_rendered ns s.rendition) s.charset h
act_kept (Modes kind on ns) s p h = modes_kept kind on ns s h
act_kept Ignored s p h = same_kept s h
