-- The record that the table asks for. Its free fields are taken from the given record, so that the test is an equality.
use Rattle.std.specs.Prelude.{ℕ, ◌-◌, ◌&&◌, Bool, true, false, Some, None}
use Rattle.vt_effects.specs.declared.effects.Effect.{Effect}
use Rattle.vt_effects.specs.declared.effects.Rendering.{Rendering}
use Rattle.vt_effects.specs.declared.effects.Switch.{Switch}
use Rattle.vt_effects.specs.declared.effects.Switch.TheVariants as switches
use Rattle.vt_effects.specs.declared.effects.Erasure.{Erasure}
use Rattle.vt_effects.specs.declared.effects.Erasure.TheVariants as erasures
use Rattle.vt_effects.specs.declared.effects.Move.{Move}
use Rattle.vt_effects.specs.declared.effects.Move.TheVariants as moves
use Rattle.vt_effects.specs.declared.effects.Scroll.{Scroll}
use Rattle.vt_effects.specs.declared.effects.Scroll.TheVariants as scrolls
use Rattle.vt_effects.specs.declared.effects.Ink.{Ink}
use Rattle.vt_effects.specs.declared.effects.Ink.TheVariants as inks
use Rattle.vt_effects.specs.declared.starts.Start.{Start}
use Rattle.vt_effects.specs.declared.starts.Margins.{Margins}
use Rattle.vt_effects.specs.declared.starts.Margins.TheVariants as margins
use Rattle.vt_effects.specs.Effect.{unchanged, nothing_rendered}
use Rattle.vt_effects.specs.Record.{all_off, switch_of}
use Rattle.ti_rows.specs.Looks.{shown}
pub use Rattle.ti_rows.specs.Switches.{on_or_kept, is_on}
use Rattle.ti_rows.specs.Rows.{Marks, Looks, Row, Clear, Cup, Home, Cr, Hpa, Vpa, Cub1, Cuf1, Cuu1, Cud1, Cub, Cuf, Cuu}
use Rattle.ti_rows.specs.Rows.{Cud, El, El1, Ed, Ech, Sgr, Sgr0, Setaf, Setab, Op, Smul, Rev, Blink, Dim, Bold, Invis}
use Rattle.ti_rows.specs.Rows.{Smso, Enacs, Smacs, Rmacs, Csr, Ind, Ri, Civis, Cnorm, Cvvis, Smcup, Rmcup, Bel}

-- the states with any cursor and these margins, and with a pending wrap only if `pending`
abbrev pub starting : ℕ → ℕ → Bool → Margins → Start
starting rows cols pending m =
    record { row_min = 0; row_max = rows - 1; col_min = 0; col_max = cols - 1; pending = pending; margins = m }

abbrev pub calm : ℕ → ℕ → Start
calm rows cols = starting rows cols false margins.Whole

-- the states with at least n columns or rows on one side of the cursor
abbrev pub room_left : ℕ → Start → Start
room_left n s = record s { col_min = n }

abbrev pub room_right : ℕ → Start → Start
room_right n s = record s { col_max = s.col_max - n }

abbrev pub room_above : ℕ → Start → Start
room_above n s = record s { row_min = n }

abbrev pub room_below : ℕ → Start → Start
room_below n s = record s { row_max = s.row_max - n }

-- the start of a row
abbrev pub start_of : ℕ → ℕ → Row → Start
start_of rows cols (Cup row col) = starting rows cols true margins.Legal
start_of rows cols (Csr top bottom) = starting rows cols true margins.Legal
start_of rows cols Cub1 = room_left 1 (calm rows cols)
start_of rows cols Cuf1 = room_right 1 (calm rows cols)
start_of rows cols Cuu1 = room_above 1 (calm rows cols)
start_of rows cols Cud1 = room_below 1 (calm rows cols)
start_of rows cols (Cub n) = room_left n (calm rows cols)
start_of rows cols (Cuf n) = room_right n (calm rows cols)
start_of rows cols (Cuu n) = room_above n (calm rows cols)
start_of rows cols (Cud n) = room_below n (calm rows cols)
start_of rows cols El = calm rows cols
start_of rows cols El1 = calm rows cols
start_of rows cols Ed = calm rows cols
start_of rows cols (Ech n) = calm rows cols
start_of rows cols Ind = room_above 1 (starting rows cols false margins.OnBottom)
start_of rows cols Ri = room_below 1 (starting rows cols false margins.OnTop)
start_of rows cols _ = starting rows cols true margins.Whole

abbrev pub is_default : Ink → Bool
is_default inks.Default = true
is_default _ = false

abbrev pub defaults_both_inks : Rendering → Bool
defaults_both_inks r = is_default r.foreground && is_default r.background

-- the default color, or the color stays
abbrev pub ink_of : Bool → Ink
ink_of true = inks.Default
ink_of false = inks.Kept

-- just these marks are on, and both colors are `ink`
abbrev pub just : Marks → Ink → Rendering
just m ink = record {
  bold = switch_of m.bold;
  faint = switch_of m.faint;
  underline = switch_of m.underline;
  blink = switch_of m.blink;
  negative = switch_of m.negative;
  concealed = switch_of m.concealed;
  foreground = ink;
  background = ink;
}

abbrev pub no_marks : Marks
no_marks = record { bold = false; faint = false; underline = false; blink = false; negative = false; concealed = false }

-- these marks are turned on, and the others stay
abbrev pub with_marks_on : Marks → Rendering
with_marks_on m = record nothing_rendered {
  bold = on_or_kept m.bold;
  faint = on_or_kept m.faint;
  underline = on_or_kept m.underline;
  blink = on_or_kept m.blink;
  negative = on_or_kept m.negative;
  concealed = on_or_kept m.concealed;
}

-- the cursor goes to a place, wherever it was
abbrev pub at_row : ℕ → Effect
at_row row = record unchanged { row = moves.To row; ends_pending = true }

abbrev pub at_col : ℕ → Effect
at_col col = record unchanged { col = moves.To col; ends_pending = true }

abbrev pub at : ℕ → ℕ → Effect
at row col = record (at_col col) { row = moves.To row }

-- the cursor goes home, and all cells are erased
abbrev pub clearing : Effect
clearing = record (at 0 0) { erasure = erasures.Screen }

-- the cursor moves, cells are erased or the region scrolls; the start is calm, so that `ends_pending` is free
abbrev pub by_rows : Move → Effect → Effect
by_rows m e = record unchanged { row = m; ends_pending = e.ends_pending }

abbrev pub by_cols : Move → Effect → Effect
by_cols m e = record unchanged { col = m; ends_pending = e.ends_pending }

abbrev pub erasing : Erasure → Effect → Effect
erasing x e = record unchanged { erasure = x; ends_pending = e.ends_pending }

abbrev pub scrolling : Scroll → Effect → Effect
scrolling x e = record unchanged { scroll = x; ends_pending = e.ends_pending }

-- the margins become these lines; the cursor may go anywhere
abbrev pub bounding : ℕ → ℕ → Effect → Effect
bounding top bottom e =
    record unchanged {
      row = e.row;
      col = e.col;
      ends_pending = e.ends_pending;
      margins = Some (record { top = top; bottom = bottom });
    }

-- the character sets are free
abbrev pub choosing : Effect → Effect
choosing e = record unchanged { charset = e.charset }

abbrev pub showing : Switch → Effect
showing x = record unchanged { visible = x }

-- the rendition changes; the sets are free
abbrev pub rendering : Rendering → Effect → Effect
rendering r e = record unchanged { rendition = r; charset = e.charset }

abbrev pub inking : Ink → Ink → Effect
inking foreground background =
    record unchanged { rendition = record nothing_rendered { foreground = foreground; background = background } }

-- everything is free but margins, visibility and scrolling
abbrev pub entering : Effect → Effect
entering e = record e { scroll = scrolls.Still; margins = None; visible = switches.Kept }

-- the record asked for in the rows about the rendition
abbrev pub asked_of_rendition : Looks → Row → Effect → Effect
asked_of_rendition l (Sgr a) e = rendering (just (shown l a) (ink_of (defaults_both_inks e.rendition))) e
asked_of_rendition l Sgr0 e = rendering all_off e
asked_of_rendition l (Setaf c) e = inking (inks.Color c) inks.Kept
asked_of_rendition l (Setab c) e = inking inks.Kept (inks.Color c)
asked_of_rendition l Op e = inking inks.Default inks.Default
asked_of_rendition l Smul e = rendering (with_marks_on (record no_marks { underline = true })) e
asked_of_rendition l Rev e = rendering (with_marks_on (record no_marks { negative = true })) e
asked_of_rendition l Blink e = rendering (with_marks_on (record no_marks { blink = true })) e
asked_of_rendition l Dim e = rendering (with_marks_on (record no_marks { faint = true })) e
asked_of_rendition l Bold e = rendering (with_marks_on (record no_marks { bold = true })) e
asked_of_rendition l Invis e = rendering (with_marks_on (record no_marks { concealed = true })) e
asked_of_rendition l Smso e = rendering (with_marks_on l.standout) e
asked_of_rendition l _ e = unchanged

abbrev pub asked : Looks → Row → Effect → Effect
asked l Clear e = clearing
asked l (Cup row col) e = at row col
asked l Home e = at 0 0
asked l Cr e = at_col 0
asked l (Hpa col) e = at_col col
asked l (Vpa row) e = at_row row
asked l Cub1 e = by_cols (moves.Back 1) e
asked l Cuf1 e = by_cols (moves.Forward 1) e
asked l Cuu1 e = by_rows (moves.Back 1) e
asked l Cud1 e = by_rows (moves.Forward 1) e
asked l (Cub n) e = by_cols (moves.Back n) e
asked l (Cuf n) e = by_cols (moves.Forward n) e
asked l (Cuu n) e = by_rows (moves.Back n) e
asked l (Cud n) e = by_rows (moves.Forward n) e
asked l El e = erasing erasures.Tail e
asked l El1 e = erasing erasures.Head e
asked l Ed e = erasing erasures.Rest e
asked l (Ech n) e = erasing (erasures.Next n) e
asked l (Csr top bottom) e = bounding top bottom e
asked l Ind e = scrolling scrolls.Up e
asked l Ri e = scrolling scrolls.Down e
asked l Civis e = showing switches.Off
asked l Cnorm e = showing switches.On
asked l Cvvis e = showing (on_or_kept (is_on e.visible))
asked l Smcup e = entering e
asked l Rmcup e = entering e
asked l Enacs e = choosing e
asked l Smacs e = choosing e
asked l Rmacs e = choosing e
asked l Bel e = unchanged
asked l row e = asked_of_rendition l row e
