-- The meaning of an effect: a function on screens. First cells are erased and the region scrolls, with the cursor and
-- the background from before; then the cursor, the rendition, the sets, the margins and the visibility change.
use Rattle.std.specs.Prelude.{ℕ, ◌+◌, ◌-◌, ◌<◌, ◌≤◌, ◌==◌, ◌&&◌, ◌||◌, nat_le, nat_lt, Bool, true, false, if◌then◌else◌}
use Rattle.std.specs.Prelude.{Option, None, Some}
use Rattle.vt_term.specs.Color.{Color}
use Rattle.vt_term.specs.Look.{Look, blank}
use Rattle.vt_term.specs.Look.{Rendition}
use Rattle.vt_term.specs.Grid.{Grid, drawn, scrolled_up, scrolled_down}
use Rattle.vt_term.specs.Screen.{Screen, Charset}
use Rattle.vt_effects.specs.declared.effects.Move.{Move}
use Rattle.vt_effects.specs.declared.effects.Move.TheVariants as moves
use Rattle.vt_effects.specs.declared.effects.Erasure.{Erasure}
use Rattle.vt_effects.specs.declared.effects.Erasure.TheVariants as erasures
use Rattle.vt_effects.specs.declared.effects.Scroll.{Scroll}
use Rattle.vt_effects.specs.declared.effects.Scroll.TheVariants as scrolls
use Rattle.vt_effects.specs.declared.effects.Switch.{Switch}
use Rattle.vt_effects.specs.declared.effects.Switch.TheVariants as switches
use Rattle.vt_effects.specs.declared.effects.Ink.{Ink}
use Rattle.vt_effects.specs.declared.effects.Ink.TheVariants as inks
use Rattle.vt_effects.specs.declared.effects.Rendering.{Rendering}
use Rattle.vt_effects.specs.declared.effects.Sets.{Sets}
use Rattle.vt_effects.specs.declared.effects.Region.{Region}
use Rattle.vt_effects.specs.declared.effects.Effect.{Effect}

-- a row or a column after a move
abbrev pub moved : Move → ℕ → ℕ
moved moves.Kept x = x
moved (moves.To k) x = k
moved (moves.Back k) x = x - k
moved (moves.Forward k) x = x + k

abbrev pub switched : Switch → Bool → Bool
switched switches.Kept b = b
switched switches.On b = true
switched switches.Off b = false

abbrev pub inked : Ink → Option Color → Option Color
inked inks.Kept c = c
inked inks.Default c = None
inked (inks.Color d) c = Some d

abbrev pub rendered : Rendering → Rendition → Rendition
rendered e r = record {
  bold = switched e.bold r.bold;
  faint = switched e.faint r.faint;
  underline = switched e.underline r.underline;
  blink = switched e.blink r.blink;
  negative = switched e.negative r.negative;
  concealed = switched e.concealed r.concealed;
  foreground = inked e.foreground r.foreground;
  background = inked e.background r.background;
}

abbrev pub designated : Sets → Charset → Charset
designated e c = record {
  g0_graphic = switched e.g0_graphic c.g0_graphic;
  g1_graphic = switched e.g1_graphic c.g1_graphic;
  shifted_out = switched e.shifted_out c.shifted_out;
}

-- the chosen places become x
abbrev pub blanked : (ℕ → ℕ → Bool) → Look → Grid → Grid
blanked chosen x g = drawn (λ i j old. if chosen i j then x else old) g

-- the cells after an erasure with the cursor at this row and column
abbrev pub erased : Erasure → ℕ → ℕ → Look → Grid → Grid
erased erasures.Nothing row col x g = g
erased erasures.Screen row col x g = blanked (λ i j. true) x g
erased erasures.Tail row col x g = blanked (λ i j. (i == row) && nat_le col j) x g
erased erasures.Head row col x g = blanked (λ i j. (i == row) && nat_le j col) x g
erased erasures.Rest row col x g = blanked (λ i j. nat_lt row i || ((i == row) && nat_le col j)) x g
erased (erasures.Next n) row col x g = blanked (λ i j. (i == row) && (nat_le col j && nat_lt j (col + n))) x g

-- the cells after the lines from top to bottom moved up or down by one
abbrev pub scrolled : Scroll → ℕ → ℕ → Look → Grid → Grid
scrolled scrolls.Still top bottom x g = g
scrolled scrolls.Up top bottom x g = scrolled_up top bottom 1 x g
scrolled scrolls.Down top bottom x g = scrolled_down top bottom 1 x g

abbrev pub top_of : Option Region → ℕ → ℕ
top_of None top = top
top_of (Some r) top = r.top

abbrev pub bottom_of : Option Region → ℕ → ℕ
bottom_of None bottom = bottom
bottom_of (Some r) bottom = r.bottom

-- the screen after an effect
abbrev pub applied : Effect → Screen → Screen
applied e s = record s {
  grid = scrolled e.scroll s.top s.bottom (blank s.rendition) (erased e.erasure s.row s.col (blank s.rendition) s.grid);
  row = moved e.row s.row;
  col = moved e.col s.col;
  pending = if e.ends_pending then false else s.pending;
  rendition = rendered e.rendition s.rendition;
  charset = designated e.charset s.charset;
  top = top_of e.margins s.top;
  bottom = bottom_of e.margins s.bottom;
  visible = switched e.visible s.visible;
}

-- the row or column after the move is below the limit, and no move up or left passes the first
abbrev pub StaysIn : Move → ℕ → ℕ → Type 0
StaysIn moves.Kept x limit = Unit {0}
StaysIn (moves.To k) x limit = k < limit
StaysIn (moves.Back k) x limit = k ≤ x
StaysIn (moves.Forward k) x limit = x + k < limit

-- the margins are in order and on the screen
abbrev pub IsLegal : Option Region → ℕ → Type 0
IsLegal None rows = Unit {0}
IsLegal (Some r) rows = (r.top < r.bottom) × (r.bottom < rows)

-- the effect can be applied: its moves stay on the screen, and its margins are legal
pub record Applies (e : Effect) (s : Screen) : Type 0 where
  pub row : StaysIn e.row s.row s.rows
  pub col : StaysIn e.col s.col s.cols
  pub margins : IsLegal e.margins s.rows

-- the same switch for every mark, and the same ink for both colors
abbrev pub all_rendered : Switch → Ink → Rendering
all_rendered mark color = record {
  bold = mark;
  faint = mark;
  underline = mark;
  blink = mark;
  negative = mark;
  concealed = mark;
  foreground = color;
  background = color;
}

-- everything stays
abbrev pub nothing_rendered : Rendering
nothing_rendered = all_rendered switches.Kept inks.Kept

abbrev pub unchanged : Effect
unchanged = record {
  row = moves.Kept;
  col = moves.Kept;
  ends_pending = false;
  erasure = erasures.Nothing;
  scroll = scrolls.Still;
  rendition = nothing_rendered;
  charset = record { g0_graphic = switches.Kept; g1_graphic = switches.Kept; shifted_out = switches.Kept };
  margins = None;
  visible = switches.Kept;
}
