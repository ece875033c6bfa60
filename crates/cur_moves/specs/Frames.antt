-- (Serves the code alone.) A terminal whose margins may be set, in the plain brush.
use Rattle.std.specs.Prelude.{ℕ, ◌-◌, ◌<◌, ◌≡◌, true, false, Option, Some, None, List, [], Result}
use Rattle.vt_term.specs.Grid.{look_at}
use Rattle.vt_term.specs.Screen.{Screen, State, IsOfSize, is_graphic}
use Rattle.vt_effects.specs.Settings.{IsTame}
use Rattle.cur_steps.specs.WireSteps.{Steps}
use Rattle.ti_rows.specs.declared.rows.Row.{Row}
use Rattle.ti_rows.specs.declared.rows.Row.TheVariants.{Cnorm}
use Rattle.ti_rows.specs.Starts.{Starts}
use Rattle.ti_conforms.specs.Certified.{Table, IsLost, Ended, has}
use Rattle.cur_steps.specs.Pieces.{IsPaint}
use Rattle.cur_steps.specs.Inks.{rendition_of, look_of, plain_brush}
use Rattle.cur_steps.specs.Beliefs.{IsHere, IsSo, IsSeen}
use Rattle.cur_steps.specs.declared.beliefs.Belief.{Belief}
use Rattle.cur_steps.specs.declared.beliefs.Place.{Place}
use Rattle.cur_steps.specs.declared.inks.Ink.{Ink}
use Rattle.cur_moves.specs.Scrolls.{edge}
use Rattle.cur_moves.specs.declared.scrolls.Scroll.{Scroll}

-- the margins, the cells, and the cursor's place, if that is known
pub record Frame : Type 0 where
  pub top : ℕ
  pub bottom : ℕ
  pub cells : ℕ → ℕ → Ink
  pub place : Option Place

abbrev pub IsThere : ℕ → Option Place → Screen → Type 0
IsThere cols None s = Unit {0}
IsThere cols (Some p) s = IsHere cols p s.row s.col s.pending

-- A state that is ready (`IsReady`), except that its margins are those of the frame. It has the frame's cells, and its
-- cursor is at the frame's place, if that is known. The brush is the plain one, and the active set and the cursor's
-- visibility agree with the belief.
pub record Framed (t : Table) (f : Frame) (b : Belief) (s : State) : Type 0 where
  pub sized : IsOfSize t.rows t.cols s
  pub rest : s.rest ≡ []
  pub tame : IsTame s.screen
  pub top : s.screen.top ≡ f.top
  pub bottom : s.screen.bottom ≡ f.bottom
  pub settled : t.settled s.screen.charset ≡ true
  pub visible : has t Cnorm ≡ false → s.screen.visible ≡ true
  pub cells : (i j : ℕ) → i < t.rows → j < t.cols → look_at s.screen.grid i j ≡ look_of t.looks (f.cells i j)
  pub place : IsThere t.cols f.place s.screen
  pub plain : s.screen.rendition ≡ rendition_of t.looks plain_brush
  pub set : IsSo b.graphic (is_graphic s.screen.charset)
  pub seen : IsSeen b.mode s.screen.visible

-- each state of the frame `f` is a start of the row, and the row's line leads from it to a state of the frame `h`
pub record Reframes (t : Table) (row : Row) (f h : Frame) (b : Belief) : Type 0 where
  pub starts : (s : State) → Framed t f b s → Starts t.rows t.cols row s.screen
  pub ends : (s u : State) → Framed t f b s → IsOfSize t.rows t.cols u → u.rest ≡ []
      → Ended t row s.screen u.screen → Framed t h b u

-- A step from a terminal of the frame `f` to one of the frame `h`. It sends only bytes that paint, at most `limit` of
-- them.
abbrev pub Moves : {W T E : Type 0} → (W → W → List ℕ → Type 0) → (W → ℕ) → W → W → Result T E → Table → ℕ
    → Frame → Frame → Belief → Type 0
Moves went failures before after answer t limit f h b =
    Steps went failures before after answer (IsPaint t) limit (IsLost t) (Framed t f b) (Framed t h b)

-- these margins and cells, with the cursor in this line and column
abbrev pub framed_at : ℕ → ℕ → (ℕ → ℕ → Ink) → ℕ → ℕ → Frame
framed_at top bottom g row col =
    record { top = top; bottom = bottom; cells = g; place = Some (record { row = row; col = col }) }

-- these margins and cells, with the cursor in the first column of this line
abbrev pub framed : ℕ → ℕ → (ℕ → ℕ → Ink) → ℕ → Frame
framed top bottom g row = framed_at top bottom g row 0

-- a scroll's margins and these cells, with the cursor in the first column of the edge: the line in which it makes the
-- region scroll
abbrev pub at_edge : Scroll → (ℕ → ℕ → Ink) → Frame
at_edge x g = framed x.top x.bottom g (edge x)

-- the whole screen as margins and these cells, with the cursor in this line and column
abbrev pub whole : Table → (ℕ → ℕ → Ink) → ℕ → ℕ → Frame
whole t g row col = framed_at 0 (t.rows - 1) g row col
