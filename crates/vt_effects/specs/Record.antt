-- The effect of a string from every state of a start, token by token. A token whose effect differs between these
-- states has no record, and then the string has none.
use Rattle.std.specs.Prelude.{ℕ, ◌≡◌, ◌+◌, ◌-◌, ◌*◌, ◌/◌, ◌==◌, ◌&&◌, nat_le, nat_lt, min, Bool, true, false, List, []}
use Rattle.std.specs.Prelude.{◌∷◌, if◌then◌else◌, Option, None, Some}
use Rattle.std.specs.Option.{unwrap_or, option_and_then}
use Rattle.vt_term.specs.Color.{Color}
use Rattle.vt_term.specs.Text.{Splits}
use Rattle.vt_term.specs.Rendition.{RenditionChange, change_of}
use Rattle.vt_term.specs.Rendition as changes
use Rattle.vt_term.specs.Function.{CodeElement, G0, G1, ModeKind, Standard, Private, EraseExtent, ToEnd, FromStart}
use Rattle.vt_term.specs.Function.{function_of, Function, Print, LineFeed, CarriageReturn, Backspace, Tab, ShiftOut}
use Rattle.vt_term.specs.Function.{ShiftIn, ReverseIndex, NextLine, CursorUp, CursorDown, CursorForward, CursorBack}
use Rattle.vt_term.specs.Function.{CursorColumn, CursorRow, CursorPosition, EraseLine, EraseDisplay, EraseCells}
use Rattle.vt_term.specs.Function.{InsertCells, DeleteCells, InsertLines, DeleteLines, ScrollUp, ScrollDown, Designate}
use Rattle.vt_term.specs.Function.{SelectRendition, Modes, Ignored}
use Rattle.vt_term.specs.Function as functions
use Rattle.vt_effects.specs.declared.effects.Move.{Move}
use Rattle.vt_effects.specs.declared.effects.Move.TheVariants as moves
use Rattle.vt_effects.specs.declared.effects.Erasure.{Erasure}
use Rattle.vt_effects.specs.declared.effects.Erasure.TheVariants as erasures
use Rattle.vt_effects.specs.declared.effects.Scroll.{Scroll}
use Rattle.vt_effects.specs.declared.effects.Scroll.TheVariants as scrolls
use Rattle.vt_effects.specs.declared.effects.Switch.{Switch}
use Rattle.vt_effects.specs.declared.effects.Switch.TheVariants as switches
use Rattle.vt_effects.specs.declared.effects.Ink.{Ink}
use Rattle.vt_effects.specs.declared.effects.Ink.TheVariants as inks
use Rattle.vt_effects.specs.declared.effects.Rendering.{Rendering}
use Rattle.vt_effects.specs.declared.effects.Region.{Region}
use Rattle.vt_effects.specs.declared.effects.Effect.{Effect}
use Rattle.vt_effects.specs.declared.starts.Start.{Start}
use Rattle.vt_effects.specs.declared.starts.Margins.{Margins}
use Rattle.vt_effects.specs.declared.starts.Margins.TheVariants as margins
use Rattle.vt_effects.specs.Effect.{moved, unchanged, all_rendered}

-- tests on parts of an effect
abbrev pub is_kept : Move → Bool
is_kept moves.Kept = true
is_kept _ = false

abbrev pub is_first : Move → Bool
is_first (moves.To k) = k == 0
is_first _ = false

abbrev pub keeps_ink : Ink → Bool
keeps_ink inks.Kept = true
keeps_ink _ = false

abbrev pub keeps_margins : Option Region → Bool
keeps_margins None = true
keeps_margins (Some r) = false

abbrev pub erases_nothing : Erasure → Bool
erases_nothing erasures.Nothing = true
erases_nothing _ = false

abbrev pub erases_screen : Erasure → Bool
erases_screen erasures.Screen = true
erases_screen _ = false

abbrev pub is_still : Scroll → Bool
is_still scrolls.Still = true
is_still _ = false

-- moving forward and then back, as one move
abbrev pub net : ℕ → ℕ → Move
net forward back =
    if forward == back then moves.Kept
    else (if nat_lt back forward then moves.Forward (forward - back) else moves.Back (back - forward))

-- a move, and then one back or forward by n
abbrev pub and_back : Move → ℕ → Move
and_back moves.Kept n = net 0 n
and_back (moves.To k) n = moves.To (k - n)
and_back (moves.Back k) n = net 0 (k + n)
and_back (moves.Forward k) n = net k n

abbrev pub and_forward : Move → ℕ → Move
and_forward moves.Kept n = net n 0
and_forward (moves.To k) n = moves.To (k + n)
and_forward (moves.Back k) n = net n k
and_forward (moves.Forward k) n = net (k + n) 0

-- up or left by n after the move m, if either no start from low to high is cut at the first row or column, or all are
abbrev pub back_by : ℕ → ℕ → ℕ → Move → Option Move
back_by n low high m =
    if nat_le n (moved m low) then Some (and_back m n)
    else (if nat_lt (moved m high) n then Some (moves.To 0) else None)

-- down or right by n after the move m, if either no start is cut at the last row or column, or all are
abbrev pub forward_by : ℕ → ℕ → ℕ → ℕ → Move → Option Move
forward_by n low high last m =
    if nat_le (moved m high + n) last then Some (and_forward m n)
    else (if nat_lt last (moved m low + n) then Some (moves.To last) else None)

-- the cursor moves to a column, or to a row, and the pending wrap is cleared
abbrev pub with_col : Effect → Move → Effect
with_col e m = record e { col = m; ends_pending = true }

abbrev pub with_row : Effect → Move → Effect
with_row e m = record e { row = m; ends_pending = true }

-- f of the value, if there is one
abbrev pub if_some : {A : Type 0} → (A → Effect) → Option A → Option Effect
if_some f None = None
if_some f (Some x) = Some (f x)

-- whether the margins are known to be the whole screen; with two rows all legal margins are
abbrev pub knows_whole : ℕ → Margins → Bool
knows_whole rows margins.Whole = true
knows_whole rows _ = rows == 2

abbrev pub are_whole : ℕ → Margins → Option Region → Bool
are_whole rows m None = knows_whole rows m
are_whole rows m (Some r) = (r.top == 0) && (r.bottom + 1 == rows)

-- whether every start is on its bottom margin, or on its top margin
abbrev pub on_bottom : ℕ → ℕ → Margins → Bool
on_bottom rows row_min margins.OnBottom = true
on_bottom rows row_min m = knows_whole rows m && nat_le rows (row_min + 1)

abbrev pub on_top : ℕ → ℕ → Margins → Bool
on_top rows row_max margins.OnTop = true
on_top rows row_max m = knows_whole rows m && (row_max == 0)

-- whether the background is the start's
abbrev pub keeps_background : Effect → Bool
keeps_background e = keeps_ink e.rendition.background

-- whether the cursor is where it was at the start
abbrev pub is_unmoved : Effect → Bool
is_unmoved e = is_kept e.row && is_kept e.col

-- whether the region may scroll: the row and the margins are the start's, and no cell has changed
abbrev pub may_scroll : Effect → Bool
may_scroll e =
    (is_kept e.row && keeps_margins e.margins)
    && ((erases_nothing e.erasure && is_still e.scroll) && keeps_background e)

abbrev pub scrolling : Scroll → Effect → Effect
scrolling x e = record e { scroll = x; ends_pending = true }

-- one line down: either no start scrolls, or all do from where they began
abbrev pub line_fed : ℕ → Start → Effect → Option Effect
line_fed rows start e =
    if are_whole rows start.margins e.margins && nat_lt (moved e.row start.row_max + 1) rows
    then Some (with_row e (and_forward e.row 1))
    else (if on_bottom rows start.row_min start.margins && may_scroll e then Some (scrolling scrolls.Up e) else None)

-- one line up: either no start scrolls, or all do from where they began
abbrev pub line_reversed : ℕ → Start → Effect → Option Effect
line_reversed rows start e =
    if are_whole rows start.margins e.margins && nat_le 1 (moved e.row start.row_min)
    then Some (with_row e (and_back e.row 1))
    else (if on_top rows start.row_max start.margins && may_scroll e then Some (scrolling scrolls.Down e) else None)

abbrev pub tabbed : ℕ → Effect → Move → Option Effect
tabbed cols e (moves.To k) = Some (with_col e (moves.To (min ((k / 8 + 1) * 8) (cols - 1))))
tabbed cols e _ = None

-- the whole screen is erased, whatever happened before
abbrev pub screen_erased : Effect → Option Effect
screen_erased e =
    if keeps_background e then Some (record e { erasure = erasures.Screen; scroll = scrolls.Still }) else None

-- cells are erased around the cursor, which must be where it was; if all are erased already, they stay so
abbrev pub cells_erased : Erasure → Effect → Option Effect
cells_erased x e =
    if keeps_background e && is_still e.scroll then
    (if erases_screen e.erasure then Some e
    else (if is_unmoved e && erases_nothing e.erasure then Some (record e { erasure = x }) else None))
    else None

abbrev pub line_erased : EraseExtent → Effect → Option Effect
line_erased ToEnd e = cells_erased erasures.Tail e
line_erased FromStart e = cells_erased erasures.Head e
line_erased functions.Whole e = None

abbrev pub display_erased : EraseExtent → Effect → Option Effect
display_erased ToEnd e = if is_first e.row && is_first e.col then screen_erased e else cells_erased erasures.Rest e
display_erased FromStart e = None
display_erased functions.Whole e = screen_erased e

-- all marks off, and the default colors
abbrev pub all_off : Rendering
all_off = all_rendered switches.Off inks.Default

abbrev pub ink_of : Option Color → Ink
ink_of None = inks.Default
ink_of (Some color) = inks.Color color

-- a rendering after one change of SGR
abbrev pub changing : RenditionChange → Rendering → Rendering
changing changes.Plain r = all_off
changing changes.Bold r = record r { bold = switches.On }
changing changes.Faint r = record r { faint = switches.On }
changing changes.Underline r = record r { underline = switches.On }
changing changes.Blink r = record r { blink = switches.On }
changing changes.Negative r = record r { negative = switches.On }
changing changes.Concealed r = record r { concealed = switches.On }
changing changes.NormalIntensity r = record r { bold = switches.Off; faint = switches.Off }
changing changes.NotUnderlined r = record r { underline = switches.Off }
changing changes.Steady r = record r { blink = switches.Off }
changing changes.Positive r = record r { negative = switches.Off }
changing changes.Revealed r = record r { concealed = switches.Off }
changing (changes.Foreground c) r = record r { foreground = ink_of c }
changing (changes.Background c) r = record r { background = ink_of c }

-- a number that makes no change is ignored
abbrev pub changing_if : Option RenditionChange → Rendering → Rendering
changing_if None r = r
changing_if (Some change) r = changing change r

-- a rendering after one number of SGR (ECMA-48 8.3.117)
abbrev pub rendering : ℕ → Rendering → Rendering
rendering n r = changing_if (change_of n) r

-- a rendering after all numbers of SGR, one after another; the default is 0
abbrev pub all_renderings : List (Option ℕ) → Rendering → Rendering
all_renderings [] r = r
all_renderings (n ∷ ns) r = all_renderings ns (rendering (unwrap_or n 0) r)

-- no record if autowrap turns off or insertion on (VT100 DECAWM, ECMA-48 7.2.10 IRM); VT220 DECTCEM is 25
abbrev pub mode_set : ModeKind → Bool → ℕ → Effect → Option Effect
mode_set Private on n e =
    if n == 7 then (if on then Some e else None)
    else (if n == 25 then Some (record e { visible = if on then switches.On else switches.Off }) else Some e)
mode_set Standard on n e = if n == 4 then (if on then None else Some e) else Some e

abbrev pub modes_set : ModeKind → Bool → List (Option ℕ) → Effect → Option Effect
modes_set kind on [] e = Some e
modes_set kind on (n ∷ ns) e = option_and_then (modes_set kind on ns) (mode_set kind on (unwrap_or n 0) e)

-- DECSTBM sets margins if the first line is above the last, and does nothing otherwise
abbrev pub margins_set : ℕ → ℕ → ℕ → Effect → Effect
margins_set rows first last e =
    let top = first - 1 in
    let bottom = (if last == 0 then rows - 1 else min (last - 1) (rows - 1)) in
    if nat_lt top bottom then record e {
      margins = Some (record { top = top; bottom = bottom });
      row = moves.To 0;
      col = moves.To 0;
      ends_pending = true;
    } else e

abbrev pub switch_of : Bool → Switch
switch_of true = switches.On
switch_of false = switches.Off

abbrev pub designating : CodeElement → Bool → Effect → Effect
designating G0 graphic e = record e { charset = record e.charset { g0_graphic = switch_of graphic } }
designating G1 graphic e = record e { charset = record e.charset { g1_graphic = switch_of graphic } }

abbrev pub shifting : Bool → Effect → Effect
shifting out e = record e { charset = record e.charset { shifted_out = switch_of out } }

-- up or down by n, if the margins are known to be the whole screen
abbrev pub row_back : ℕ → Start → ℕ → Effect → Option Effect
row_back rows start n e =
    if are_whole rows start.margins e.margins then if_some (with_row e) (back_by n start.row_min start.row_max e.row)
    else None

abbrev pub row_forward : ℕ → Start → ℕ → Effect → Option Effect
row_forward rows start n e =
    if are_whole rows start.margins e.margins
    then if_some (with_row e) (forward_by n start.row_min start.row_max (rows - 1) e.row)
    else None

abbrev pub col_back : Start → ℕ → Effect → Option Effect
col_back start n e = if_some (with_col e) (back_by n start.col_min start.col_max e.col)

abbrev pub col_forward : ℕ → Start → ℕ → Effect → Option Effect
col_forward cols start n e = if_some (with_col e) (forward_by n start.col_min start.col_max (cols - 1) e.col)

-- an effect, and then a token's function
abbrev pub extended : ℕ → ℕ → Start → Function → Effect → Option Effect
extended rows cols start LineFeed e = line_fed rows start e
extended rows cols start CarriageReturn e = Some (with_col e (moves.To 0))
extended rows cols start Backspace e = col_back start 1 e
extended rows cols start Tab e = tabbed cols e e.col
extended rows cols start ShiftOut e = Some (shifting true e)
extended rows cols start ShiftIn e = Some (shifting false e)
extended rows cols start ReverseIndex e = line_reversed rows start e
extended rows cols start NextLine e = line_fed rows start (with_col e (moves.To 0))
extended rows cols start (CursorUp n) e = row_back rows start n e
extended rows cols start (CursorDown n) e = row_forward rows start n e
extended rows cols start (CursorForward n) e = col_forward cols start n e
extended rows cols start (CursorBack n) e = col_back start n e
extended rows cols start (CursorColumn col) e = Some (with_col e (moves.To (min (col - 1) (cols - 1))))
extended rows cols start (CursorRow row) e = Some (with_row e (moves.To (min (row - 1) (rows - 1))))
extended rows cols start (CursorPosition row col) e =
    Some (with_col (with_row e (moves.To (min (row - 1) (rows - 1)))) (moves.To (min (col - 1) (cols - 1))))
extended rows cols start (EraseLine part) e = line_erased part e
extended rows cols start (EraseDisplay part) e = display_erased part e
extended rows cols start (EraseCells n) e = cells_erased (erasures.Next (min n cols)) e
extended rows cols start (functions.Margins first last) e = Some (margins_set rows first last e)
extended rows cols start (Designate set graphic) e = Some (designating set graphic e)
extended rows cols start (SelectRendition ns) e = Some (record e { rendition = all_renderings ns e.rendition })
extended rows cols start (Modes kind on ns) e = modes_set kind on ns e
extended rows cols start Ignored e = Some e
extended rows cols start (Print b) e = None
extended rows cols start (InsertCells n) e = None
extended rows cols start (DeleteCells n) e = None
extended rows cols start (InsertLines n) e = None
extended rows cols start (DeleteLines n) e = None
extended rows cols start (ScrollUp n) e = None
extended rows cols start (ScrollDown n) e = None

-- an effect, and then the functions of all these tokens
abbrev pub all_extended : ℕ → ℕ → Start → List (List ℕ) → Effect → Option Effect
all_extended rows cols start [] e = Some e
all_extended rows cols start (token ∷ tokens) e =
    option_and_then (all_extended rows cols start tokens) (extended rows cols start (function_of token) e)

-- the effect of these tokens from every state of the start, if they have a record
abbrev pub record_of : ℕ → ℕ → Start → List (List ℕ) → Option Effect
record_of rows cols start tokens = all_extended rows cols start tokens unchanged

-- `found` is the record of this text's tokens, or None if they have none
pub record IsRecordOf (rows cols : ℕ) (start : Start) (text : List ℕ) (found : Option Effect) : Type 0 where
  pub tokens : List (List ℕ)
  pub splits : Splits text tokens []
  pub is : found ≡ record_of rows cols start tokens
