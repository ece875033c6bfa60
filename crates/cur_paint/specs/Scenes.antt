-- (Serves the code alone.) The operands of the painter's steps, and their promises.
use Rattle.std.specs.Prelude.{ℕ, ◌+◌, ◌-◌, ◌*◌, ◌<◌, ◌≤◌, ◌≡◌, List, [], Option, Some, Result, OnOk, length}
use Rattle.std.specs.Prelude.{slice_index_or}
use Rattle.vt_term.specs.Screen.{State}
use Rattle.cur_steps.specs.WireSteps.{Steps}
use Rattle.ti_rows.specs.declared.rows.Row.TheVariants.{Clear}
use Rattle.ti_conforms.specs.Certified.{Table, IsChecked, IsLost, IsPiece, cell_limit}
use Rattle.cur_steps.specs.Inks.{CanShow, mixed, blank_ink}
use Rattle.cur_moves.specs.Scrolls.{CanScroll, shifted}
use Rattle.cur_moves.specs.declared.scrolls.Scroll.{Scroll}
use Rattle.cur_steps.specs.Beliefs.{Agrees, CanHide}
use Rattle.cur_steps.specs.Steps.{Acts}
use Rattle.cur_steps.specs.declared.beliefs.Belief.{Belief}
use Rattle.cur_steps.specs.declared.beliefs.Mode.{Mode}
use Rattle.cur_steps.specs.declared.beliefs.Place.{Place}
use Rattle.cur_steps.specs.declared.inks.Cells.{Cells}
use Rattle.cur_steps.specs.declared.inks.Ink.{Ink}
use Rattle.cur_paint.specs.Blanks.{IsBlankFrom}
use Rattle.cur_paint.specs.Differ.{span, all_differ}
use Rattle.cur_paint.specs.Limits.{IsWithin, paint_limit, renewal_limit}
use Rattle.cur_paint.specs.Modes.{OnlyPaints}
use Rattle.cur_paint.specs.Rests.{IsSet}
use Rattle.cur_paint.specs.Update.{Anew}
use Rattle.cur_paint.specs.declared.painters.Painter.{Painter}
use Rattle.cur_paint.specs.declared.screens.Screens.{Screens}
use Rattle.cur_paint.specs.declared.updates.Wanted.{Wanted}

-- a certificate's table, the cells that its terminal shows, and the wanted cells
pub record Scene : Type 0 where
  pub table : Table
  pub old : ℕ → ℕ → Ink
  pub new : ℕ → ℕ → Ink

abbrev pub scene : {C O N : Type 0} → (C → Table) → (O → ℕ → ℕ → Ink) → (N → ℕ → ℕ → Ink) → Screens C O N → Scene
scene table old new s = record { table = table s.checked.now; old = old s.old.now; new = new s.new.now }

-- the certificate is verified, and its terminal can show the new cells
pub record IsPaintable (s : Scene) : Type 0 where
  pub checked : IsChecked s.table
  pub drawable : CanShow s.table s.new

-- the screens differ only where these changes say
abbrev pub AreChanges : {D : Type 0} → (D → (ℕ → ℕ → Ink) → (ℕ → ℕ → Ink) → Type 0) → D → Scene → Type 0
AreChanges between changes s = between changes s.old s.new

-- the screen can be painted, and it differs only where these changes say
pub record CanCompare {D : Type 0} (between : D → (ℕ → ℕ → Ink) → (ℕ → ℕ → Ink) → Type 0) (d : D)
    (s : Scene) : Type 0 where
  pub scene : IsPaintable s
  pub changes : AreChanges between d s

-- the cells are on the screen
pub record IsOn (t : Table) (cells : Cells) : Type 0 where
  pub row : cells.row < t.rows
  pub cols : cells.from + cells.count ≤ t.cols

-- the screen can be painted, and the cells are on it
pub record HasCells (s : Scene) (cells : Cells) : Type 0 where
  pub scene : IsPaintable s
  pub on : IsOn s.table cells

-- the number of these cells that differ
abbrev pub changed : Scene → Cells → ℕ
changed s cells = span s.old s.new cells.row cells.from cells.count

-- the first n of the new cells have these characters in the set and the brush of an ink
abbrev pub AreInked : (ℕ → ℕ → Ink) → Cells → Ink → ℕ → List ℕ → Type 0
AreInked new cells ink n text = (k : ℕ) → k < n
    → new cells.row (cells.from + k) ≡ record ink { byte = slice_index_or text k 0 }

-- there are no more cells than bytes that may go out for those of them that differ
abbrev pub IsShort : Scene → Cells → Type 0
IsShort s cells = cells.count ≤ changed s cells * cell_limit s.table

-- the number of a line's cells that differ, from a column on
abbrev pub changed_from : Scene → ℕ → ℕ → ℕ
changed_from s row col = span s.old s.new row col (s.table.cols - col)

-- the number of a line's cells that differ
abbrev pub line_changed : Scene → ℕ → ℕ
line_changed s row = span s.old s.new row 0 s.table.cols

-- the number of the screen's cells that differ
abbrev pub all_changed : Scene → ℕ
all_changed s = all_differ s.old s.new s.table.cols s.table.rows

-- the number of cells above a line that differ
abbrev pub changed_above : Scene → ℕ → ℕ
changed_above s row = all_differ s.old s.new s.table.cols row

-- the new cells before a column of a line, and the old ones from there on
abbrev pub mended : Scene → ℕ → ℕ → ℕ → ℕ → Ink
mended s row col = mixed s.old s.new row col

-- the new line is blank from a column on
abbrev pub IsBlankPast : Scene → ℕ → ℕ → Type 0
IsBlankPast s row col = (k : ℕ) → col ≤ k → k < s.table.cols → s.new row k ≡ blank_ink

-- the new line is blank from a column on, and so are all lines below it
abbrev pub IsBlankBelow : Scene → ℕ → ℕ → Type 0
IsBlankBelow s row col = IsBlankFrom s.new s.table.rows s.table.cols row col

-- a line doesn't differ from a column on
abbrev pub IsSamePast : Scene → ℕ → ℕ → Type 0
IsSamePast s row col = (k : ℕ) → col ≤ k → k < s.table.cols → s.old row k ≡ s.new row k

-- the painter has the screens and the pen that it had, whatever the pen holds now
pub record IsSame {C O N W : Type 0} (before after : Painter C O N W) : Type 0 where
  pub screens : after.screens ≡ before.screens
  pub pen : after.pen.ghost_name ≡ before.pen.ghost_name

-- A step of a painter from the cells g to the cells h of its scene, by at most n times the bytes of a cell. If nothing
-- fails, the cursor's mode stays.
pub record Mends {C O N W T E : Type 0} (table : C → Table) (old : O → ℕ → ℕ → Ink) (new : N → ℕ → ℕ → Ink)
    (went : W → W → List ℕ → Type 0) (failures : W → ℕ) (before after : Painter C O N W) (answer : Result T E)
    (n : Scene → ℕ) (g h : Scene → ℕ → ℕ → Ink) : Type 0 where
  pub step :
      let s = scene table old new before.screens.now in
      Acts went failures before.pen.now.wire after.pen.now.wire answer s.table (n s * cell_limit s.table) (g s) (h s)
      before.pen.now.belief after.pen.now.belief
  pub mode : OnOk answer (after.pen.now.belief.mode ≡ before.pen.now.belief.mode)
  pub same : IsSame before after

-- mends cells of a line, given that everything before them is right
abbrev pub MendsCells : {C O N W T E : Type 0} → (C → Table) → (O → ℕ → ℕ → Ink) → (N → ℕ → ℕ → Ink)
    → (W → W → List ℕ → Type 0) → (W → ℕ) → Painter C O N W → Painter C O N W → Result T E → Cells → Type 0
MendsCells table old new went failures before after answer cells =
    Mends table old new went failures before after answer (λ s. changed s cells)
    (λ s. mended s cells.row cells.from) (λ s. mended s cells.row (cells.from + cells.count))

-- mends a line from a column on, given that everything before that is right
abbrev pub MendsFrom : {C O N W T E : Type 0} → (C → Table) → (O → ℕ → ℕ → Ink) → (N → ℕ → ℕ → Ink)
    → (W → W → List ℕ → Type 0) → (W → ℕ) → Painter C O N W → Painter C O N W → Result T E → ℕ → ℕ → Type 0
MendsFrom table old new went failures before after answer row col =
    Mends table old new went failures before after answer (λ s. changed_from s row col)
    (λ s. mended s row col) (λ s. mended s row s.table.cols)

-- mends a line, given that all lines above it are right
abbrev pub MendsLine : {C O N W T E : Type 0} → (C → Table) → (O → ℕ → ℕ → Ink) → (N → ℕ → ℕ → Ink)
    → (W → W → List ℕ → Type 0) → (W → ℕ) → Painter C O N W → Painter C O N W → Result T E → ℕ → Type 0
MendsLine table old new went failures before after answer row =
    Mends table old new went failures before after answer (λ s. line_changed s row)
    (λ s. mended s row 0) (λ s. mended s (row + 1) 0)

-- mends a line and all below it, by the bytes of that line's cells, given that all lines above it are right
abbrev pub MendsBelow : {C O N W T E : Type 0} → (C → Table) → (O → ℕ → ℕ → Ink) → (N → ℕ → ℕ → Ink)
    → (W → W → List ℕ → Type 0) → (W → ℕ) → Painter C O N W → Painter C O N W → Result T E → ℕ → Type 0
MendsBelow table old new went failures before after answer row =
    Mends table old new went failures before after answer (λ s. line_changed s row)
    (λ s. mended s row 0) (λ s. s.new)

-- mends the whole screen
abbrev pub MendsAll : {C O N W T E : Type 0} → (C → Table) → (O → ℕ → ℕ → Ink) → (N → ℕ → ℕ → Ink)
    → (W → W → List ℕ → Type 0) → (W → ℕ) → Painter C O N W → Painter C O N W → Result T E → Type 0
MendsAll table old new went failures before after answer =
    Mends table old new went failures before after answer all_changed (λ s. s.old) (λ s. s.new)

-- leads from one kind of states to another by at most a number of bytes; at the end the cursor, whose mode was `now` if
-- that is known, gets its mode and its place
pub record Sets {W T E : Type 0} (went : W → W → List ℕ → Type 0) (failures : W → ℕ) (old new : W)
    (answer : Result T E) (t : Table) (limit : ℕ) (now : Option Mode) (cursor : Option Place) (mode : Mode)
    (before after : State → Type 0) : Type 0 where
  pub step : Steps went failures old new answer (IsPiece t) limit (IsLost t) before after
  pub quiet : OnOk answer (OnlyPaints t [] now cursor mode step.bytes)

-- the painter can mend the screen and set the cursor as wanted
pub record CanPaint (s : Scene) (w : Wanted) : Type 0 where
  pub scene : IsPaintable s
  pub cursor : IsWithin s.table w.cursor
  pub mode : CanHide s.table w.mode

-- the painter can do so, and the screen differs only where these changes say
pub record CanRefresh {D : Type 0} (between : D → (ℕ → ℕ → Ink) → (ℕ → ℕ → Ink) → Type 0) (d : D) (s : Scene)
    (w : Wanted) : Type 0 where
  pub paints : CanPaint s w
  pub changes : AreChanges between d s

-- Leads a painter's terminal from the cells g of its scene to the wanted ones, in at most `limit` bytes. At the end the
-- cursor is as wanted, and all else is at rest.
pub record Ends {C O N W T E : Type 0} (table : C → Table) (old : O → ℕ → ℕ → Ink) (new : N → ℕ → ℕ → Ink)
    (went : W → W → List ℕ → Type 0) (failures : W → ℕ) (before after : Painter C O N W) (answer : Result T E)
    (limit : Scene → ℕ) (g : Scene → ℕ → ℕ → Ink) (w : Wanted) : Type 0 where
  pub step :
      let s = scene table old new before.screens.now in
      Sets went failures before.pen.now.wire after.pen.now.wire answer s.table (limit s)
      before.pen.now.belief.mode w.cursor w.mode
      (Agrees s.table (g s) before.pen.now.belief) (Agrees s.table s.new after.pen.now.belief)
  pub set : OnOk answer (IsSet w after.pen.now.belief)
  pub same : IsSame before after

-- Leads a painter's terminal from one kind of states to the wanted cells, beginning with the bytes `first`, as `Anew`
-- says.
abbrev pub Renews : {C O N W T E : Type 0} → (C → Table) → (O → ℕ → ℕ → Ink) → (N → ℕ → ℕ → Ink)
    → (W → W → List ℕ → Type 0) → (W → ℕ) → Painter C O N W → Painter C O N W → Result T E
    → (Scene → ℕ) → (Scene → State → Type 0) → (Scene → List ℕ) → Option Mode → Wanted → Type 0
Renews table old new went failures before after answer limit kind first now w =
    let s = scene table old new before.screens.now in
    Anew went failures before.pen.now.wire after.pen.now.wire answer s.table (limit s) (kind s)
    (Agrees s.table s.new after.pen.now.belief) (first s) now w

-- ---- what is weighed

-- the terminal can scroll so, and fewer cells differ then: fewer by the number of lines that it moves by, and 4 more
pub record IsUseful (s : Scene) (x : Scroll) : Type 0 where
  pub can : CanScroll s.table x
  pub saves : (x.count + 4) + all_differ (shifted x s.old) s.new s.table.cols s.table.rows ≤ all_changed s

-- after `clear` fewer cells differ, and still fewer than that by the bytes of its line
abbrev pub ClearSaves : Scene → Type 0
ClearSaves s = (line : List ℕ) → s.table.line_of Clear ≡ Some line
    → length line + all_differ (λ i j. blank_ink) s.new s.table.cols s.table.rows < all_changed s

-- something is to be done, so that the bound of a refresh has a cell's limit once more
abbrev pub IsDue : Scene → Belief → Wanted → Type 0
IsDue s b w = renewal_limit s.table s.old s.new ≤ paint_limit s.table s.old s.new b w.cursor w.mode
