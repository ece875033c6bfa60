-- Calls on one window change no cell outside its rectangle.
use Rattle.std.proofs.Common.{◌≡◌, ℕ, ◌+◌, ◌-◌, ◌<◌, ◌≤◌, ◌&&◌, ◌||◌, ◌==◌, nat_lt, bit_xor, min, zero, suc, Bool, true, false, List, [], ◌∷◌, Result, Ok, Err, ℤ, pos, negsuc, refl, sym, ap, ◌∙◌, subst, arith, if◌then◌else◌}
use Rattle.std.proofs.lemmas.Bool.Decides.{nat_tests}
use Rattle.grids.specs.declared.areas.Area.{Area}
use Rattle.cur_drawing.specs.declared.puts.Put.{Put}
use Rattle.cur_drawing.specs.declared.puts.Border.{Border}
use Rattle.cur_drawing.specs.declared.refusals.Refusal.{Refusal}
use Rattle.cur_drawing.specs.declared.windows.Window.{Window}
use Rattle.cur_drawing.specs.Cells.{Content, restyled}
use Rattle.cur_drawing.specs.Grids.{Grid, Fits, is_in, drawn_in, filled, copied, taken, shape_of}
use Rattle.cur_drawing.specs.Windows.{IsWindow, lines_of, cells_of, column_of, content, count_to, as_is, checked, is_pair}
use Rattle.cur_drawing.specs.Calls as calls
use Rattle.cur_drawing.specs.Calls.{Canvas, CanvasStep, IsCanvas, canvas, place, and_then, if_accepted, region_height, checked_cell, checked_border, tab_width, plain}
use Rattle.cur_drawing.specs.Laws.{Stays, IsLocal}
use Rattle.cur_drawing.proofs.DrawingFacts.{shape_of-drawn, fits_same, cell_at-drawn_in_off}

pub stays_same : (s : Canvas) → IsCanvas s.grid s.window → Stays s s
stays_same s is = record { canvas = is; area = refl; outside = λ i j off. refl }

pub stays_both : (s t u : Canvas) → Stays s t → Stays t u → Stays s u
stays_both s t u one two = record {
  canvas = two.canvas;
  area = two.area ∙ one.area;
  outside = λ i j off. two.outside i j (ap (λ (a : Area). is_in a i j) one.area ∙ off) ∙ one.outside i j off;
}

-- a rectangle within the window's is drawn, and the window keeps its place
stays_drawn : (s : Canvas) (a : Area) (f : ℕ → ℕ → Content → Content) (v : Window) → IsCanvas s.grid s.window → ((i j : ℕ) → is_in s.window.area i j ≡ false → is_in a i j ≡ false) →
    v.area ≡ s.window.area → IsWindow v → Stays s (canvas (drawn_in a f s.grid) v)
stays_drawn s a f v is within same legal =
    let g : Grid = drawn_in a f s.grid in
    let shape : shape_of g ≡ shape_of s.grid = shape_of-drawn (λ i j old. if is_in a i j then f i j old else old) s.grid in
    record {
      canvas = record { window = legal; fits = subst (λ (b : Area). Fits b g) (sym same) (fits_same s.window.area s.grid g shape is.fits) };
      area = same;
      outside = λ i j off. cell_at-drawn_in_off a f s.grid i j (within i j off);
    }

-- the window alone changes
stays_window : (s : Canvas) (v : Window) → IsCanvas s.grid s.window → v.area ≡ s.window.area → IsWindow v → Stays s (canvas s.grid v)
stays_window s v is same legal = record {
  canvas = record { window = legal; fits = subst (λ (b : Area). Fits b s.grid) (sym same) is.fits };
  area = same;
  outside = λ i j off. refl;
}

lines_inside : (w : Window) (from n i j : ℕ) → from + n ≤ w.area.rows → is_in w.area i j ≡ false → is_in (lines_of w from n) i j ≡ false
lines_inside w from n i j le off = grind (arith, nat_tests)

cells_inside : (w : Window) (row from n i j : ℕ) → row < w.area.rows → from + n ≤ w.area.cols → is_in w.area i j ≡ false → is_in (cells_of w row from n) i j ≡ false
cells_inside w row from n i j lt le off = grind (arith, nat_tests)

column_inside : (w : Window) (from col n i j : ℕ) → col < w.area.cols → from + n ≤ w.area.rows → is_in w.area i j ≡ false → is_in (column_of w from col n) i j ≡ false
column_inside w from col n i j lt le off = grind (arith, nat_tests)

lines_filled : (s : Canvas) (from n : ℕ) (c : Content) → IsCanvas s.grid s.window → from + n ≤ s.window.area.rows → Stays s (canvas (filled (lines_of s.window from n) c s.grid) s.window)
lines_filled s from n c is le = stays_drawn s (lines_of s.window from n) (λ i j old. c) s.window is (λ i j off. lines_inside s.window from n i j le off) refl is.window

cells_filled : (s : Canvas) (row from n : ℕ) (c : Content) → IsCanvas s.grid s.window → row < s.window.area.rows → from + n ≤ s.window.area.cols →
    Stays s (canvas (filled (cells_of s.window row from n) c s.grid) s.window)
cells_filled s row from n c is lt le = stays_drawn s (cells_of s.window row from n) (λ i j old. c) s.window is (λ i j off. cells_inside s.window row from n i j lt le off) refl is.window

column_filled : (s : Canvas) (from col n : ℕ) (c : Content) → IsCanvas s.grid s.window → col < s.window.area.cols → from + n ≤ s.window.area.rows →
    Stays s (canvas (filled (column_of s.window from col n) c s.grid) s.window)
column_filled s from col n c is lt le = stays_drawn s (column_of s.window from col n) (λ i j old. c) s.window is (λ i j off. column_inside s.window from col n i j lt le off) refl is.window

lines_copied : (s : Canvas) (to from n : ℕ) → IsCanvas s.grid s.window → to + n ≤ s.window.area.rows →
    Stays s (canvas (copied (lines_of s.window to n) (place (s.window.area.top + from) s.window.area.left) s.grid s.grid) s.window)
lines_copied s to from n is le =
    stays_drawn s (lines_of s.window to n) (taken (lines_of s.window to n) (place (s.window.area.top + from) s.window.area.left) s.grid) s.window is
    (λ i j off. lines_inside s.window to n i j le off) refl is.window

cells_copied : (s : Canvas) (row to from n : ℕ) → IsCanvas s.grid s.window → row < s.window.area.rows → to + n ≤ s.window.area.cols →
    Stays s (canvas (copied (cells_of s.window row to n) (place (s.window.area.top + row) (s.window.area.left + from)) s.grid s.grid) s.window)
cells_copied s row to from n is lt le =
    stays_drawn s (cells_of s.window row to n) (taken (cells_of s.window row to n) (place (s.window.area.top + row) (s.window.area.left + from)) s.grid) s.window is
    (λ i j off. cells_inside s.window row to n i j lt le off) refl is.window

lines_went_up : (s : Canvas) (from height n : ℕ) → IsCanvas s.grid s.window → from + height ≤ s.window.area.rows → Stays s (canvas (calls.lines_up s.window from height n s.grid) s.window)
lines_went_up s from height n is le =
    let t : Canvas = canvas (copied (lines_of s.window from (height - min n height)) (place (s.window.area.top + (from + min n height)) s.window.area.left) s.grid s.grid) s.window in
    let one : Stays s t = lines_copied s from (from + min n height) (height - min n height) is (omega arith) in
    stays_both s t _ one (lines_filled t (from + (height - min n height)) (min n height) s.window.background one.canvas (omega arith))

lines_went_down : (s : Canvas) (from height n : ℕ) → IsCanvas s.grid s.window → from + height ≤ s.window.area.rows → Stays s (canvas (calls.lines_down s.window from height n s.grid) s.window)
lines_went_down s from height n is le =
    let t : Canvas = canvas (copied (lines_of s.window (from + min n height) (height - min n height)) (place (s.window.area.top + from) s.window.area.left) s.grid s.grid) s.window in
    let one : Stays s t = lines_copied s (from + min n height) from (height - min n height) is (omega arith) in
    stays_both s t _ one (lines_filled t from (min n height) s.window.background one.canvas (omega arith))

-- the cursor moves to another place of the window
cursor_moved : (w : Window) (y x : ℕ) → IsWindow w → y < w.area.rows → x < w.area.cols → IsWindow (record w { row = y; col = x })
cursor_moved w y x is lt lt2 = record { row = lt; col = lt2; region = is.region; bottom = is.bottom; pair = is.pair; height = is.height; width = is.width }

-- a choice, one step after another, and a step that needs a good judgement
stays_if : (s : Canvas) (b : Bool) (x y : CanvasStep) → (b ≡ true → Stays s x.0) → (b ≡ false → Stays s y.0) → Stays s (if b then x else y).0
stays_if s true x y p q = p refl
stays_if s false x y p q = q refl

stays_then : (s : Canvas) (r : CanvasStep) (next : Canvas → CanvasStep) → Stays s r.0 → ((t : Canvas) → Stays s t → Stays s (next t).0) → Stays s (and_then r next).0
stays_then s (t, Ok u) next one two = two t one
stays_then s (t, Err e) next one two = one

stays_good : (s : Canvas) (r : Result (Unit {0}) Refusal) (x : CanvasStep) → Stays s s → Stays s x.0 → Stays s (if_accepted r s x).0
stays_good s (Ok u) x same p = p
stays_good s (Err e) x same p = same

advanced : IsLocal calls.advanced
advanced s is =
    stays_if s (s.window.scrolls && (s.window.row == s.window.region_bottom)) _ _
    (λ yes. (let t : Canvas = canvas (calls.lines_up s.window s.window.region_top (region_height s.window) 1 s.grid) s.window in
    let one : Stays s t = lines_went_up s s.window.region_top (region_height s.window) 1 is (omega (arith, is.window.region, is.window.bottom)) in
    stays_both s t _ one (stays_window t (record s.window { col = 0 }) one.canvas refl (cursor_moved s.window s.window.row 0 is.window is.window.row (omega (arith, is.window.col))))))
    (λ no. stays_if s ((s.window.row + 1) == s.window.area.rows) _ _ (λ last. stays_same s is)
    (λ more. stays_window s (record s.window { row = s.window.row + 1; col = 0 }) is refl
    (cursor_moved s.window (s.window.row + 1) 0 is.window (let lt = is.window.row in grind (arith, nat_tests)) (omega (arith, is.window.col)))))

written : (p : Put) → IsLocal (calls.written p)
written p s is =
    let t : Canvas = canvas (filled (cells_of s.window s.window.row s.window.col 1) (content s.window p) s.grid) s.window in
    let one : Stays s t = cells_filled s s.window.row s.window.col 1 (content s.window p) is is.window.row (omega (arith, is.window.col)) in
    stays_if s (nat_lt (s.window.col + 1) s.window.area.cols) _ _
    (λ more. stays_both s t _ one (stays_window t (record s.window { col = s.window.col + 1 }) one.canvas refl (cursor_moved s.window s.window.row (s.window.col + 1) is.window is.window.row (grind (arith, nat_tests)))))
    (λ last. stays_both s t _ one (advanced t one.canvas))

written_times : (n : ℕ) (p : Put) → IsLocal (calls.written_times n p)
written_times zero p s is = stays_same s is
written_times (suc n) p s is = stays_then s (calls.written p s) (λ t. calls.written_times n p t) (written p s is) (λ t one. stays_both s t _ one (written_times n p t one.canvas))

line_cleared : (s : Canvas) → IsCanvas s.grid s.window → Stays s (canvas (calls.line_cleared s.window s.grid) s.window)
line_cleared s is = cells_filled s s.window.row s.window.col (s.window.area.cols - s.window.col) s.window.background is is.window.row (omega (arith, is.window.col))

character : (p : Put) → IsLocal (calls.character p)
character p s is =
    let w = s.window in
    stays_if s (p.byte == 10) _ _
    (λ newline. (let t : Canvas = canvas (calls.line_cleared s.window s.grid) s.window in let one : Stays s t = line_cleared s is in stays_both s t _ one (advanced t one.canvas)))
    (λ a. stays_if s (p.byte == 9) _ _ (λ tab. written_times (tab_width s.window) (record p { byte = 32 }) s is)
    (λ b. stays_if s (p.byte == 8) _ _
    (λ back. stays_window s (record s.window { col = s.window.col - 1 }) is refl (cursor_moved s.window s.window.row (s.window.col - 1) is.window is.window.row (omega (arith, is.window.col))))
    (λ d. stays_if s (p.byte == 13) _ _
    (λ return. stays_window s (record s.window { col = 0 }) is refl (cursor_moved s.window s.window.row 0 is.window is.window.row (omega (arith, is.window.col))))
    (λ e. stays_if s (nat_lt p.byte 32 || (p.byte == 127)) _ _
    (λ control. stays_then s (calls.written (record p { byte = 94 }) s) _ (written (record p { byte = 94 }) s is) (λ t one. stays_both s t _ one (written (record p { byte = bit_xor p.byte 64 }) t one.canvas)))
    (λ printed. written p s is)))))

pub added : (p : Put) → IsLocal (calls.added p)
added p s is = stays_good s (checked (nat_lt p.byte 128) (is_pair p.pair)) _ (stays_same s is) (character p s is)

pub added_all : (text : List ℕ) → IsLocal (calls.added_all text)
added_all [] s is = stays_same s is
added_all (b ∷ bs) s is = stays_then s (calls.added (plain b) s) (λ t. calls.added_all bs t) (added (plain b) s is) (λ t one. stays_both s t _ one (added_all bs t one.canvas))

pub erased : IsLocal calls.erased
erased s is = stays_drawn s s.window.area (λ i j old. s.window.background) (record s.window { row = 0; col = 0 }) is (λ i j off. off) refl
    (cursor_moved s.window 0 0 is.window (omega (arith, is.window.row)) (omega (arith, is.window.col)))

pub cleared : IsLocal calls.cleared
cleared s is =
    let w = is.window in
    stays_drawn s s.window.area (λ i j old. s.window.background) (record s.window { row = 0; col = 0; clears = true }) is (λ i j off. off) refl
    (record { row = omega (arith, w.row); col = omega (arith, w.col); region = w.region; bottom = w.bottom; pair = w.pair; height = w.height; width = w.width })

pub insert_char : (p : Put) → IsLocal (calls.insert_char p)
insert_char p s is =
    let rest : ℕ = s.window.area.cols - (s.window.col + 1) in
    let t : Canvas = canvas (copied (cells_of s.window s.window.row (s.window.col + 1) rest) (place (s.window.area.top + s.window.row) (s.window.area.left + s.window.col)) s.grid s.grid) s.window in
    let one : Stays s t = cells_copied s s.window.row (s.window.col + 1) s.window.col rest is is.window.row (omega (arith, is.window.col)) in
    stays_good s (checked_cell p) _ (stays_same s is) (stays_both s t _ one (cells_filled t s.window.row s.window.col 1 (content s.window p) one.canvas is.window.row (omega (arith, is.window.col))))

pub delete_char : IsLocal calls.delete_char
delete_char s is =
    let rest : ℕ = s.window.area.cols - (s.window.col + 1) in
    let t : Canvas = canvas (copied (cells_of s.window s.window.row s.window.col rest) (place (s.window.area.top + s.window.row) (s.window.area.left + (s.window.col + 1))) s.grid s.grid) s.window in
    let one : Stays s t = cells_copied s s.window.row s.window.col (s.window.col + 1) rest is is.window.row (omega (arith, is.window.col)) in
    stays_both s t _ one (cells_filled t s.window.row (s.window.area.cols - 1) 1 s.window.background one.canvas is.window.row (omega (arith, is.window.col)))

pub insert_line : IsLocal calls.insert_line
insert_line s is = lines_went_down s s.window.row (s.window.area.rows - s.window.row) 1 is (omega (arith, is.window.row))

pub delete_line : IsLocal calls.delete_line
delete_line s is = lines_went_up s s.window.row (s.window.area.rows - s.window.row) 1 is (omega (arith, is.window.row))

pub clear_line : IsLocal calls.clear_line
clear_line s is = line_cleared s is

pub clear_bottom : IsLocal calls.clear_bottom
clear_bottom s is =
    let t : Canvas = canvas (calls.line_cleared s.window s.grid) s.window in
    let one : Stays s t = line_cleared s is in
    stays_both s t _ one (lines_filled t (s.window.row + 1) (s.window.area.rows - (s.window.row + 1)) s.window.background one.canvas (omega (arith, is.window.row)))

at_most : (n : ℤ) (limit : ℕ) → count_to n limit ≤ limit
at_most (pos n) limit = grind (arith, nat_tests)
at_most (negsuc n) limit = omega arith

pub horizontal : (p : Put) (n : ℤ) → IsLocal (calls.horizontal p n)
horizontal p n s is =
    stays_good s (checked_cell p) _ (stays_same s is)
    (cells_filled s s.window.row s.window.col (count_to n (s.window.area.cols - s.window.col)) (content s.window p) is is.window.row
    (let clamped : count_to n (s.window.area.cols - s.window.col) ≤ s.window.area.cols - s.window.col = at_most n (s.window.area.cols - s.window.col) in let lt = is.window.col in omega arith))

pub vertical : (p : Put) (n : ℤ) → IsLocal (calls.vertical p n)
vertical p n s is =
    stays_good s (checked_cell p) _ (stays_same s is)
    (column_filled s s.window.row s.window.col (count_to n (s.window.area.rows - s.window.row)) (content s.window p) is is.window.col
    (let clamped : count_to n (s.window.area.rows - s.window.row) ≤ s.window.area.rows - s.window.row = at_most n (s.window.area.rows - s.window.row) in let lt = is.window.row in omega arith))

pub change_background : (p : Put) → IsLocal (calls.change_background p)
change_background p s is =
    let w = is.window in
    stays_good s (checked_cell p) _ (stays_same s is)
    (stays_drawn s s.window.area (λ i j old. restyled s.window.background (as_is p) old) (record s.window { background = as_is p }) is (λ i j off. off) refl
    (record { row = w.row; col = w.col; region = w.region; bottom = w.bottom; pair = w.pair; height = w.height; width = w.width }))

scrolled : (n : ℤ) (s : Canvas) → IsCanvas s.grid s.window → Stays s (canvas (calls.scrolled n s.window s.grid) s.window)
scrolled (pos n) s is = lines_went_up s s.window.region_top (region_height s.window) n is (omega (arith, is.window.region, is.window.bottom))
scrolled (negsuc n) s is = lines_went_down s s.window.region_top (region_height s.window) (n + 1) is (omega (arith, is.window.region, is.window.bottom))

pub scroll_by : (n : ℤ) → IsLocal (calls.scroll_by n)
scroll_by n s is = stays_if s s.window.scrolls _ _ (λ yes. scrolled n s is) (λ no. stays_same s is)

pub bordered : (b : Border) → IsLocal (calls.bordered b)
bordered b s is =
    let w : Window = s.window in
    let first : 0 < w.area.rows = omega (arith, is.window.row) in let left : 0 < w.area.cols = omega (arith, is.window.col) in
    let g1 : Grid = filled (lines_of w 0 1) (content w b.top) s.grid in
    let one : Stays s (canvas g1 w) = lines_filled s 0 1 (content w b.top) is (omega arith) in
    let g2 : Grid = filled (lines_of w (w.area.rows - 1) 1) (content w b.bottom) g1 in
    let two : Stays s (canvas g2 w) = stays_both s (canvas g1 w) _ one (lines_filled (canvas g1 w) (w.area.rows - 1) 1 (content w b.bottom) one.canvas (omega arith)) in
    let g3 : Grid = filled (column_of w 0 0 w.area.rows) (content w b.left) g2 in
    let three : Stays s (canvas g3 w) = stays_both s (canvas g2 w) _ two (column_filled (canvas g2 w) 0 0 w.area.rows (content w b.left) two.canvas left (omega arith)) in
    let g4 : Grid = filled (column_of w 0 (w.area.cols - 1) w.area.rows) (content w b.right) g3 in
    let four : Stays s (canvas g4 w) = stays_both s (canvas g3 w) _ three (column_filled (canvas g3 w) 0 (w.area.cols - 1) w.area.rows (content w b.right) three.canvas (omega arith) (omega arith)) in
    let g5 : Grid = filled (cells_of w 0 0 1) (content w b.top_left) g4 in
    let five : Stays s (canvas g5 w) = stays_both s (canvas g4 w) _ four (cells_filled (canvas g4 w) 0 0 1 (content w b.top_left) four.canvas first (omega arith)) in
    let g6 : Grid = filled (cells_of w 0 (w.area.cols - 1) 1) (content w b.top_right) g5 in
    let six : Stays s (canvas g6 w) = stays_both s (canvas g5 w) _ five (cells_filled (canvas g5 w) 0 (w.area.cols - 1) 1 (content w b.top_right) five.canvas first (omega arith)) in
    let g7 : Grid = filled (cells_of w (w.area.rows - 1) 0 1) (content w b.bottom_left) g6 in
    let seven : Stays s (canvas g7 w) = stays_both s (canvas g6 w) _ six (cells_filled (canvas g6 w) (w.area.rows - 1) 0 1 (content w b.bottom_left) six.canvas (omega arith) (omega arith)) in
    stays_good s (checked_border b) _ (stays_same s is)
    (stays_both s (canvas g7 w) _ seven (cells_filled (canvas g7 w) (w.area.rows - 1) (w.area.cols - 1) 1 (content w b.bottom_right) seven.canvas (omega arith) (omega arith)))
