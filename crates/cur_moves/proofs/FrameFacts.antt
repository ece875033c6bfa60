-- The effect of each line on a state whose margins may be set.
use Rattle.std.proofs.Common.{◌≡◌, ℕ, ◌+◌, ◌-◌, ◌*◌, ◌<◌, ◌≤◌, ◌&&◌, Bool, true, false, nat_le, List, [], length, Some, None, Result, refl, sym, ap, subst, ◌∙◌, arith, if◌then◌else◌}
use Rattle.std.proofs.lemmas.Bool.Decides.{nat_tests}
use Rattle.std.proofs.lemmas.List.{get_or_default}
use Rattle.vt_term.specs.Look.{Look, Rendition, blank, space}
use Rattle.vt_term.specs.Grid.{look_at, line_at, scrolled_up, scrolled_down}
use Rattle.vt_term.specs.Screen.{Screen, State, IsOfSize}
use Rattle.vt_term.specs.Ends.{Closed, Ends}
use Rattle.grids.specs.Grids.{cell_at}
use Rattle.cur_steps.specs.Leads.{Leads}
use Rattle.cur_steps.specs.Wire.{Sends}
use Rattle.cur_steps.proofs.Stops.{leads_line, steps_sent}
use Rattle.cur_steps.proofs.Completion.{ends_sized}
use Rattle.ti_rows.specs.declared.rows.Row.{Row}
use Rattle.ti_rows.specs.declared.rows.Row.TheVariants.{Cup, Csr, Ind, Ri}
use Rattle.ti_rows.specs.Starts.{IsAny, IsCalmAnywhere}
use Rattle.ti_conforms.specs.Certified.{Table, IsChecked, IsCheckedLine, IsLost, Ended, cell_limit, has, limit_of}
use Rattle.cur_steps.specs.Pieces.{IsPaint, Stroke, paints}
use Rattle.ti_conforms.specs.Table.{widening}
use Rattle.cur_steps.specs.Inks.{rendition_of, look_of, blank_ink, plain_brush, IsColored}
use Rattle.cur_steps.specs.Beliefs.{Agrees, IsHere, brush_limit, moves}
use Rattle.cur_steps.specs.declared.beliefs.Belief.{Belief}
use Rattle.cur_steps.specs.declared.beliefs.Place.{Place}
use Rattle.cur_steps.specs.declared.inks.Brush.{Brush}
use Rattle.cur_steps.specs.declared.inks.Ink.{Ink}
use Rattle.cur_steps.proofs.Answers.{moves_few}
use Rattle.cur_steps.proofs.Turns.{by_screen, calmly, look_at-drawn, stands_at}
use Rattle.cur_moves.specs.Scrolls.{edge, scroll_row, shifted}
use Rattle.cur_moves.specs.declared.scrolls.Scroll.{Scroll}
use Rattle.cur_moves.specs.Frames.{Frame, Framed, IsThere, Moves, Reframes, at_edge, framed, framed_at, whole}
use Rattle.cur_moves.proofs.Shifts.{choice, shifted_next, shifted_none, times_grows}

-- ---- a line, sent

-- margins may be set if a line makes them whole again
pub framed_lost : (t : Table) → IsChecked t → has t (widening t) ≡ true → (f : Frame) (b : Belief) (s : State) → Framed t f b s → IsLost t s
framed_lost t checked widens f b s h = record {
  sized = h.sized;
  tame = h.tame;
  reached = checked.settled_reached s.screen.charset h.settled;
  margins = λ e. absurd (cc);
  visible = h.visible;
}

row_ends : (t : Table) → IsChecked t → (row : Row) (bytes : List ℕ) → t.line_of row ≡ Some bytes → (f h : Frame) (b : Belief) → Reframes t row f h b → (s : State) → Framed t f b s → Ends s bytes (Framed t h b)
row_ends t checked row bytes is f h b turns s x =
    let line : IsCheckedLine t row bytes = checked.lines row bytes is in
    ends_sized t.rows t.cols s bytes (Closed (Ended t row s.screen)) (Framed t h b) x.sized (λ u sized k. turns.ends s u x sized k.rest k.screen) (line.drives.right s x.rest (turns.starts s x))

row_leads : (t : Table) → IsChecked t → has t (widening t) ≡ true → (row : Row) (bytes : List ℕ) → t.line_of row ≡ Some bytes → paints row ≡ true → (n : ℕ) → length bytes ≤ n → (f h : Frame) (b : Belief) → Reframes t row f h b
    → Leads (IsPaint t) n (IsLost t) (Framed t f b) bytes (Framed t h b)
row_leads t checked widens row bytes is paint n le f h b turns =
    leads_line (IsPaint t) n (IsLost t) (Framed t f b) (Framed t h b) bytes (Stroke row paint is) le (row_ends t checked row bytes is f h b turns)
    (λ s x front back e. (let line : IsCheckedLine t row bytes = checked.lines row bytes is in line.drives.fronts s x.rest (framed_lost t checked widens f b s x) front back e))

pub row_sent : {W T E : Type 0} (went : W → W → List ℕ → Type 0) (failures : W → ℕ) (a z : W) (answer : Result T E) (t : Table) → IsChecked t → has t (widening t) ≡ true → (row : Row) (bytes : List ℕ) → t.line_of row ≡ Some bytes → paints row ≡ true
    → (n : ℕ) (f h : Frame) (b : Belief) → limit_of t row ≤ n → Reframes t row f h b → Sends went failures a z bytes answer → Moves went failures a z answer t n f h b
row_sent went failures a z answer t checked widens row bytes is paint n f h b le turns sends =
    steps_sent went failures a z answer (IsPaint t) n (IsLost t) (Framed t f b) (Framed t h b) bytes
    (row_leads t checked widens row bytes is paint n (omega (arith, (checked.lines row bytes is).short, le)) f h b turns) (framed_lost t checked widens h b) sends

-- ---- margins and moves

any_of : (t : Table) (f : Frame) (b : Belief) (s : State) → Framed t f b s → IsAny t.rows t.cols s.screen
any_of t f b s h = record { screen = h.sized.state.screen; rows_are = h.sized.rows; cols_are = h.sized.cols; tame = h.tame }

-- a state with other margins, cells and cursor, and all else as before
framed_anew : (t : Table) (f h : Frame) (b : Belief) (s u : State) (x : List (List Look)) (m n row col : ℕ) (p : Bool) → Framed t f b s → IsOfSize t.rows t.cols u → u.rest ≡ []
    → u.screen ≡ record s.screen { grid = x; top = m; bottom = n; row = row; col = col; pending = p } → m ≡ h.top → n ≡ h.bottom
    → ((i j : ℕ) → i < t.rows → j < t.cols → look_at x i j ≡ look_of t.looks (h.cells i j))
    → IsThere t.cols h.place (record s.screen { grid = x; top = m; bottom = n; row = row; col = col; pending = p }) → Framed t h b u
framed_anew t f h b s u x m n row col p is sized closed e top bottom cells place =
    by_screen t (Framed t h b) u (record s.screen { grid = x; top = m; bottom = n; row = row; col = col; pending = p }) sized closed e
    (λ k. record {
      sized = k;
      rest = refl;
      tame = record { autowrap = is.tame.autowrap; inserting = is.tame.inserting };
      top = top;
      bottom = bottom;
      settled = is.settled;
      visible = is.visible;
      cells = cells;
      place = place;
      plain = is.plain;
      set = is.set;
      seen = is.seen;
    })

-- the margins are set, and the cursor may be anywhere
pub margins_set : (t : Table) (f : Frame) (b : Belief) (top bottom : ℕ) → Reframes t (Csr top bottom) f (record { top = top; bottom = bottom; cells = f.cells; place = None }) b
margins_set t f b top bottom = record {
  starts = λ s h. any_of t f b s h;
  ends = λ s u h sized closed w. framed_anew t f (record { top = top; bottom = bottom; cells = f.cells; place = None }) b s u s.screen.grid top bottom u.screen.row u.screen.col u.screen.pending
      h sized closed w.wants.others refl refl h.cells tt;
}

-- the cursor moves, whatever the margins are
pub moved_in : (t : Table) (f : Frame) (b : Belief) (row col : ℕ) → col < t.cols → Reframes t (Cup row col) f (framed_at f.top f.bottom f.cells row col) b
moved_in t f b row col some = record {
  starts = λ s h. any_of t f b s h;
  ends = λ s u h sized closed w. framed_anew t f (framed_at f.top f.bottom f.cells row col) b s u s.screen.grid s.screen.top s.screen.bottom row col false
      h sized closed w.wants h.top h.bottom h.cells (stands_at t.cols row col some);
}

-- ---- scrolling by a line

calm_at : (t : Table) (top bottom row : ℕ) (g : ℕ → ℕ → Ink) (b : Belief) → 0 < t.cols → (s : State) → Framed t (framed top bottom g row) b s → (s.screen.row ≡ row) × (s.screen.col ≡ 0) × (s.screen.pending ≡ false)
calm_at t top bottom row g b some s h = calmly t.cols (record { row = row; col = 0 }) s.screen.row s.screen.col s.screen.pending some h.place

calm : (t : Table) (top bottom row : ℕ) (g : ℕ → ℕ → Ink) (b : Belief) → 0 < t.cols → (s : State) → Framed t (framed top bottom g row) b s → IsCalmAnywhere t.rows t.cols s.screen
calm t top bottom row g b some s h = record { any = any_of t (framed top bottom g row) b s h; pending = (calm_at t top bottom row g b some s h).2 }

-- the blanks that come in
blanks : (t : Table) (f : Frame) (b : Belief) (s : State) → Framed t f b s → blank s.screen.rendition ≡ look_of t.looks blank_ink
blanks t f b s h = ap (λ (r : Rendition). blank r) h.plain

-- a cell of another line of the screen
from_line : (t : Table) (f : Frame) (b : Belief) (s : State) → Framed t f b s → (old : Look) (i j : ℕ) → i < t.rows → j < t.cols → cell_at old s.screen.grid i j ≡ look_of t.looks (f.cells i j)
from_line t f b s h old i j li lj =
    let lt : j < length (line_at s.screen.grid i) = omega (arith, h.sized.state.screen.columns i (omega (arith, h.sized.rows)), h.sized.cols) in
    get_or_default (line_at s.screen.grid i) j old space lt ∙ h.cells i j li lj

on_line : (t : Table) (f : Frame) (b : Belief) (s : State) → Framed t f b s → (i j : ℕ) → i < t.rows → j < t.cols → j < length (line_at s.screen.grid i)
on_line t f b s h i j li lj = omega (arith, h.sized.state.screen.columns i (omega (arith, h.sized.rows)), h.sized.cols)

-- the frame after its cells changed
recelled : (t : Table) (top bottom row : ℕ) (g h : ℕ → ℕ → Ink) (b : Belief) (s u : State) (x : List (List Look)) → Framed t (framed top bottom g row) b s → IsOfSize t.rows t.cols u → u.rest ≡ [] → u.screen ≡ record s.screen { grid = x }
    → ((i j : ℕ) → i < t.rows → j < t.cols → look_at x i j ≡ look_of t.looks (h i j)) → Framed t (framed top bottom h row) b u
recelled t top bottom row g h b s u x f sized closed e cells =
    framed_anew t (framed top bottom g row) (framed top bottom h row) b s u x s.screen.top s.screen.bottom s.screen.row s.screen.col s.screen.pending f sized closed e f.top f.bottom cells f.place

same_up : (x : List (List Look)) (a b c d : ℕ) (l : Look) (s u : Screen) → a ≡ c → b ≡ d → u ≡ record s { grid = scrolled_up a b 1 l x } → u ≡ record s { grid = scrolled_up c d 1 l x }
same_up x a b c d l s u e f h = h ∙ ap (λ (n : ℕ). record s { grid = scrolled_up n b 1 l x }) e ∙ ap (λ (n : ℕ). record s { grid = scrolled_up c n 1 l x }) f

same_down : (x : List (List Look)) (a b c d : ℕ) (l : Look) (s u : Screen) → a ≡ c → b ≡ d → u ≡ record s { grid = scrolled_down a b 1 l x } → u ≡ record s { grid = scrolled_down c d 1 l x }
same_down x a b c d l s u e f h = h ∙ ap (λ (n : ℕ). record s { grid = scrolled_down n b 1 l x }) e ∙ ap (λ (n : ℕ). record s { grid = scrolled_down c n 1 l x }) f

below : (i bottom rows : ℕ) → bottom < rows → nat_le (i + 1) bottom ≡ true → i + 1 < rows
below i bottom rows lt e = grind (arith, nat_tests)

before : (top i rows : ℕ) → i < rows → nat_le (top + 1) i ≡ true → i - 1 < rows
before top i rows lt e = omega (arith, lt)

up_cells : (t : Table) (top bottom row : ℕ) (g : ℕ → ℕ → Ink) (b : Belief) → bottom < t.rows → (s : State) → Framed t (framed top bottom g row) b s → (i j : ℕ) → i < t.rows → j < t.cols
    → look_at (scrolled_up top bottom 1 (blank s.screen.rendition) s.screen.grid) i j ≡ look_of t.looks (shifted (record { top = top; bottom = bottom; count = 1; up = true }) g i j)
up_cells t top bottom row g b lb s h i j li lj =
    let f = framed top bottom g row in
    look_at-drawn (λ i j old. if nat_le top i && nat_le i bottom then (if nat_le (i + 1) bottom then cell_at old s.screen.grid (i + 1) j else blank s.screen.rendition) else old) s.screen.grid i j (on_line t f b s h i j li lj)
    ∙ choice t.looks (nat_le top i && nat_le i bottom) (nat_le (i + 1) bottom) (cell_at (look_at s.screen.grid i j) s.screen.grid (i + 1) j) (blank s.screen.rendition) (look_at s.screen.grid i j) (g (i + 1) j) blank_ink (g i j)
    (λ p q. from_line t f b s h (look_at s.screen.grid i j) (i + 1) j (below i bottom t.rows lb q) lj) (blanks t f b s h) (h.cells i j li lj)

down_cells : (t : Table) (top bottom row : ℕ) (g : ℕ → ℕ → Ink) (b : Belief) → (s : State) → Framed t (framed top bottom g row) b s → (i j : ℕ) → i < t.rows → j < t.cols
    → look_at (scrolled_down top bottom 1 (blank s.screen.rendition) s.screen.grid) i j ≡ look_of t.looks (shifted (record { top = top; bottom = bottom; count = 1; up = false }) g i j)
down_cells t top bottom row g b s h i j li lj =
    let f = framed top bottom g row in
    look_at-drawn (λ i j old. if nat_le top i && nat_le i bottom then (if nat_le (top + 1) i then cell_at old s.screen.grid (i - 1) j else blank s.screen.rendition) else old) s.screen.grid i j (on_line t f b s h i j li lj)
    ∙ choice t.looks (nat_le top i && nat_le i bottom) (nat_le (top + 1) i) (cell_at (look_at s.screen.grid i j) s.screen.grid (i - 1) j) (blank s.screen.rendition) (look_at s.screen.grid i j) (g (i - 1) j) blank_ink (g i j)
    (λ p q. from_line t f b s h (look_at s.screen.grid i j) (i - 1) j (before top i t.rows li q) lj) (blanks t f b s h) (h.cells i j li lj)

up_by_one : (t : Table) (top bottom : ℕ) (g : ℕ → ℕ → Ink) (b : Belief) → 0 < t.cols → bottom < t.rows
    → Reframes t Ind (framed top bottom g bottom) (framed top bottom (shifted (record { top = top; bottom = bottom; count = 1; up = true }) g) bottom) b
up_by_one t top bottom g b some lb = record {
  starts = λ s h. (calm t top bottom bottom g b some s h, (calm_at t top bottom bottom g b some s h).0 ∙ sym h.bottom);
  ends = λ s u h sized closed w. recelled t top bottom bottom g (shifted (record { top = top; bottom = bottom; count = 1; up = true }) g) b s u (scrolled_up top bottom 1 (blank s.screen.rendition) s.screen.grid) h sized closed
      (same_up s.screen.grid s.screen.top s.screen.bottom top bottom (blank s.screen.rendition) s.screen u.screen h.top h.bottom w.wants) (up_cells t top bottom bottom g b lb s h);
}

down_by_one : (t : Table) (top bottom : ℕ) (g : ℕ → ℕ → Ink) (b : Belief) → 0 < t.cols
    → Reframes t Ri (framed top bottom g top) (framed top bottom (shifted (record { top = top; bottom = bottom; count = 1; up = false }) g) top) b
down_by_one t top bottom g b some = record {
  starts = λ s h. (calm t top bottom top g b some s h, (calm_at t top bottom top g b some s h).0 ∙ sym h.top);
  ends = λ s u h sized closed w. recelled t top bottom top g (shifted (record { top = top; bottom = bottom; count = 1; up = false }) g) b s u (scrolled_down top bottom 1 (blank s.screen.rendition) s.screen.grid) h sized closed
      (same_down s.screen.grid s.screen.top s.screen.bottom top bottom (blank s.screen.rendition) s.screen u.screen h.top h.bottom w.wants) (down_cells t top bottom top g b s h);
}

pub by_one : (t : Table) (top bottom count : ℕ) (up : Bool) (g : ℕ → ℕ → Ink) (b : Belief) → 0 < t.cols → bottom < t.rows
    → Reframes t (scroll_row (record { top = top; bottom = bottom; count = count; up = up })) (at_edge (record { top = top; bottom = bottom; count = count; up = up }) g)
    (at_edge (record { top = top; bottom = bottom; count = count; up = up }) (shifted (record { top = top; bottom = bottom; count = 1; up = up }) g)) b
by_one t top bottom count true g b some lb = up_by_one t top bottom g b some lb
by_one t top bottom count false g b some lb = down_by_one t top bottom g b some

-- ---- equal cells in other words

pub framed_as : (t : Table) (top bottom row : ℕ) (g h : ℕ → ℕ → Ink) (b : Belief) → ((i j : ℕ) → g i j ≡ h i j) → (s : State) → Framed t (framed top bottom g row) b s → Framed t (framed top bottom h row) b s
framed_as t top bottom row g h b e s x = record {
  sized = x.sized;
  rest = x.rest;
  tame = x.tame;
  top = x.top;
  bottom = x.bottom;
  settled = x.settled;
  visible = x.visible;
  cells = λ i j li lj. x.cells i j li lj ∙ ap (λ (y : Ink). look_of t.looks y) (e i j);
  place = x.place;
  plain = x.plain;
  set = x.set;
  seen = x.seen;
}

-- ---- between a frame and the belief about the whole screen

-- the whole screen in the plain brush is a frame
pub entered : (t : Table) (g : ℕ → ℕ → Ink) (b : Belief) (p : Place) → b.brush ≡ plain_brush → (s : State) → Agrees t g b s
    → Framed t (record { top = 0; bottom = t.rows - 1; cells = g; place = None }) (record b { place = p }) s
entered t g b p e s a = record {
  sized = a.ready.sized;
  rest = a.ready.rest;
  tame = a.ready.tame;
  top = a.ready.whole.top;
  bottom = omega (arith, a.ready.whole.bottom, a.ready.sized.rows);
  settled = a.ready.settled;
  visible = a.ready.visible;
  cells = a.cells;
  place = tt;
  plain = a.brush ∙ ap (λ (x : Brush). rendition_of t.looks x) e;
  set = a.set;
  seen = a.seen;
}

plain_colored : (t : Table) → IsColored t plain_brush
plain_colored t = record { foreground = λ e. refl; background = λ e. refl }

-- a frame of the whole screen agrees with the belief
pub left : (t : Table) (g : ℕ → ℕ → Ink) (b : Belief) (row col : ℕ) → 0 < t.rows → b.brush ≡ plain_brush → (s : State) → Framed t (whole t g row col) (record b { place = record { row = row; col = col } }) s
    → Agrees t g (record b { place = record { row = row; col = col } }) s
left t g b row col some e s x = record {
  ready = record { sized = x.sized; rest = x.rest; tame = x.tame; whole = record { top = x.top; bottom = omega (arith, x.bottom, x.sized.rows, some) }; settled = x.settled; visible = x.visible };
  cells = x.cells;
  place = x.place;
  brush = x.plain ∙ ap (λ (y : Brush). rendition_of t.looks y) (sym e);
  colored = subst (λ (y : Brush). IsColored t y) (sym e) (plain_colored t);
  set = x.set;
  seen = x.seen;
}

-- the whole screen in the plain brush is a frame, with the cursor where it is believed
pub screen_entered : (t : Table) (top bottom : ℕ) (g : ℕ → ℕ → Ink) (b : Belief) (row : ℕ) → top ≡ 0 → bottom ≡ t.rows - 1 → b.brush ≡ plain_brush → b.place ≡ record { row = row; col = 0 } → (s : State) → Agrees t g b s
    → Framed t (framed top bottom g row) b s
screen_entered t top bottom g b row is_top is_bottom plain at s a = record {
  sized = a.ready.sized;
  rest = a.ready.rest;
  tame = a.ready.tame;
  top = omega (arith, a.ready.whole.top, is_top);
  bottom = omega (arith, a.ready.whole.bottom, a.ready.sized.rows, is_bottom);
  settled = a.ready.settled;
  visible = a.ready.visible;
  cells = a.cells;
  place = (let P : Place → Type 0 = λ p. IsHere t.cols p s.screen.row s.screen.col s.screen.pending in subst P at a.place);
  plain = a.brush ∙ ap (λ (x : Brush). rendition_of t.looks x) plain;
  set = a.set;
  seen = a.seen;
}

-- a frame of the whole screen, with the cursor where it is believed, agrees with the belief
pub screen_left : (t : Table) (top bottom : ℕ) (g : ℕ → ℕ → Ink) (b : Belief) (row : ℕ) → 0 < t.rows → top ≡ 0 → bottom ≡ t.rows - 1 → b.brush ≡ plain_brush → b.place ≡ record { row = row; col = 0 } → (s : State)
    → Framed t (framed top bottom g row) b s → Agrees t g b s
screen_left t top bottom g b row some is_top is_bottom plain at s x = record {
  ready = record { sized = x.sized; rest = x.rest; tame = x.tame; whole = record { top = omega (arith, x.top, is_top); bottom = omega (arith, x.bottom, x.sized.rows, some, is_bottom) }; settled = x.settled; visible = x.visible };
  cells = x.cells;
  place = (let P : Place → Type 0 = λ p. IsHere t.cols p s.screen.row s.screen.col s.screen.pending in subst P (sym at) x.place);
  brush = x.plain ∙ ap (λ (y : Brush). rendition_of t.looks y) (sym plain);
  colored = subst (λ (y : Brush). IsColored t y) (sym plain) (plain_colored t);
  set = x.set;
  seen = x.seen;
}

-- the bytes of all lines of a scroll together, with margins
pub scroll_enough : (t : Table) (count : ℕ) → brush_limit t + ((count + 2) * t.longest.scroll + 2 * t.longest.cup) ≤ (count + 4) * cell_limit t
scroll_enough t count =
    let l = t.longest.scroll in
    let m = cell_limit t in
    let a : l * (count + 2) ≤ m * (count + 2) = times_grows l m (count + 2) (omega arith) in
    let e : (count + 2) * l ≡ l * (count + 2) = grind arith in
    let f : (count + 4) * m ≡ m * (count + 2) + 2 * m = grind arith in
    omega (arith, a, e, f)

-- the bytes of a scroll for which no margins are sent
pub screen_enough : (t : Table) (count : ℕ) → brush_limit t + (t.longest.cup + count * t.longest.scroll) ≤ (count + 4) * cell_limit t
screen_enough t count =
    let l = t.longest.scroll in
    omega (arith, scroll_enough t count, times_grows count (count + 2) l (omega arith))

pub move_enough : (p : Place) (row col l n : ℕ) → moves p row col * l + n ≤ l + n
move_enough p row col l n = omega (arith, times_grows (moves p row col) 1 l (moves_few p row col))

-- ---- line after line

-- no line yet
pub none_yet : (t : Table) (x : Scroll) (g : ℕ → ℕ → Ink) (b : Belief) (s : State) → Framed t (at_edge x g) b s → Framed t (at_edge x (shifted (record x { count = 0 }) g)) b s
none_yet t x g b s h = framed_as t x.top x.bottom (edge x) g (shifted (record x { count = 0 }) g) b (shifted_none x.top x.bottom x.up g) s h

-- one more line
pub one_more : (t : Table) (x : Scroll) (n : ℕ) (g : ℕ → ℕ → Ink) (b : Belief) (s : State)
    → Framed t (at_edge x (shifted (record x { count = 1 }) (shifted (record x { count = n }) g))) b s → Framed t (at_edge x (shifted (record x { count = n + 1 }) g)) b s
one_more t x n g b s h = framed_as t x.top x.bottom (edge x) (shifted (record x { count = 1 }) (shifted (record x { count = n }) g)) (shifted (record x { count = n + 1 }) g) b (shifted_next x.top x.bottom n x.up g) s h

pub row_limit : (t : Table) (x : Scroll) → limit_of t (scroll_row x) ≤ t.longest.scroll
row_limit t x = either x.up
  where
    either : (up : Bool) → limit_of t (if up then Ind else Ri) ≤ t.longest.scroll
    either true = omega arith
    either false = omega arith

pub scroll_paints : (x : Scroll) → paints (scroll_row x) ≡ true
scroll_paints x = either x.up
  where
    either : (up : Bool) → paints (if up then Ind else Ri) ≡ true
    either true = refl
    either false = refl

pub line_more : (n l : ℕ) → n * l + l ≤ (n + 1) * l
line_more n l = let e : (n + 1) * l ≡ n * l + l = grind arith in omega (arith, e)

pub line_within : (n count l : ℕ) → n < count → n * l + l ≤ count * l
line_within n count l lt = let e : (n + 1) * l ≡ n * l + l = grind arith in let h : (n + 1) * l ≤ count * l = times_grows (n + 1) count l (omega (arith, lt)) in omega (arith, e, h)

pub region_enough : (count l m : ℕ) → (l + m) + count * l + (l + m) ≤ (count + 2) * l + 2 * m
region_enough count l m = let e : (count + 2) * l ≡ count * l + (l + l) = grind arith in omega (arith, e)
