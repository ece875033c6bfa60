-- The record of a text doesn't both erase and scroll, and it scrolls only if each start is at a margin.
use Rattle.std.proofs.Common.{◌≡◌, ◌⊎◌, inl, inr, ℕ, ◌+◌, ◌-◌, ◌==◌, min, ◌&&◌, Bool, true, false, if◌then◌else◌, List, [], ◌∷◌, Option, None, Some, IfSome, refl, sym, subst}
use Rattle.std.proofs.lemmas.Bool.{and_parts}
use Rattle.std.specs.Option.{unwrap_or, option_and_then}
use Rattle.std.specs.Prelude.{nat_le, nat_lt}
use Rattle.vt_term.specs.Function.{function_of, Function, EraseExtent, ToEnd, FromStart, Print, LineFeed, CarriageReturn, Backspace, Tab, ShiftOut, ShiftIn, ReverseIndex, NextLine, CursorUp, CursorDown, CursorForward, CursorBack, CursorColumn, CursorRow, CursorPosition, EraseLine, EraseDisplay, EraseCells, InsertCells, DeleteCells, InsertLines, DeleteLines, ScrollUp, ScrollDown, CodeElement, G0, G1, Designate, SelectRendition, ModeKind, Standard, Private, Modes, Ignored}
use Rattle.vt_term.specs.Function as functions
use Rattle.vt_effects.specs.declared.effects.Effect.{Effect}
use Rattle.vt_effects.specs.declared.effects.Erasure.{Erasure}
use Rattle.vt_effects.specs.declared.effects.Erasure.TheVariants as erasures
use Rattle.vt_effects.specs.declared.effects.Move.{Move}
use Rattle.vt_effects.specs.declared.effects.Move.TheVariants as moves
use Rattle.vt_effects.specs.declared.effects.Scroll.{Scroll}
use Rattle.vt_effects.specs.declared.effects.Scroll.TheVariants as scrolls
use Rattle.vt_effects.specs.declared.effects.Switch.TheVariants as switches
use Rattle.vt_effects.specs.declared.starts.Start.{Start}
use Rattle.vt_effects.specs.Effect.{moved, unchanged}
use Rattle.vt_effects.specs.Record.{all_extended, and_back, and_forward, are_whole, back_by, cells_erased, display_erased, erases_nothing, erases_screen, extended, forward_by, if_some, is_first, is_kept, is_still, is_unmoved, keeps_background, keeps_margins, line_erased, line_fed, line_reversed, margins_set, may_scroll, mode_set, modes_set, on_bottom, on_top, record_of, screen_erased, scrolling, tabbed, with_col, with_row}
use Rattle.ti_rows.proofs.StartFacts.{never}

-- each start is on its bottom margin, or each one on its top margin
abbrev pub IsAtMargin : ℕ → Start → Type 0
IsAtMargin rows start = (on_bottom rows start.row_min start.margins ≡ true) ⊎ (on_top rows start.row_max start.margins ≡ true)

-- nothing scrolls; or nothing is erased, and each start is at a margin
abbrev pub IsOneChange : ℕ → Start → Effect → Type 0
IsOneChange rows start e = (e.scroll ≡ scrolls.Still) ⊎ ((e.erasure ≡ erasures.Nothing) × IsAtMargin rows start)

if_either : (c : Bool) (a b : Option Effect) (P : Effect → Type 0) → (c ≡ true → IfSome a P) → IfSome b P → IfSome (if c then a else b) P
if_either true a b P f h = f refl
if_either false a b P f h = h

if_moved : (o : Option Move) (f : Move → Effect) (P : Effect → Type 0) → ((m : Move) → P (f m)) → IfSome (if_some f o) P
if_moved None f P h = tt
if_moved (Some m) f P h = h m

nothing_erased : (x : Erasure) → erases_nothing x ≡ true → x ≡ erasures.Nothing
nothing_erased erasures.Nothing h = refl
nothing_erased _ h = never (sym h)

still : (z : Scroll) → is_still z ≡ true → z ≡ scrolls.Still
still scrolls.Still h = refl
still _ h = never (sym h)

may_nothing : (e : Effect) → may_scroll e ≡ true → e.erasure ≡ erasures.Nothing
may_nothing e h =
    let late : ((erases_nothing e.erasure && is_still e.scroll) && keeps_background e) ≡ true = (and_parts (is_kept e.row && keeps_margins e.margins) ((erases_nothing e.erasure && is_still e.scroll) && keeps_background e) h).1 in
    let first : (erases_nothing e.erasure && is_still e.scroll) ≡ true = (and_parts (erases_nothing e.erasure && is_still e.scroll) (keeps_background e) late).0 in
    nothing_erased e.erasure (and_parts (erases_nothing e.erasure) (is_still e.scroll) first).0

fed : (rows : ℕ) (start : Start) (e : Effect) → IsOneChange rows start e → IfSome (line_fed rows start e) (IsOneChange rows start)
fed rows start e h = if_either (are_whole rows start.margins e.margins && nat_lt (moved e.row start.row_max + 1) rows) (Some (with_row e (and_forward e.row 1))) (if on_bottom rows start.row_min start.margins && may_scroll e then Some (scrolling scrolls.Up e) else None) (IsOneChange rows start) (λ _. h)
    (if_either (on_bottom rows start.row_min start.margins && may_scroll e) (Some (scrolling scrolls.Up e)) None (IsOneChange rows start) (λ k. let both = and_parts (on_bottom rows start.row_min start.margins) (may_scroll e) k in inr (may_nothing e both.1, inl both.0)) tt)

reversed : (rows : ℕ) (start : Start) (e : Effect) → IsOneChange rows start e → IfSome (line_reversed rows start e) (IsOneChange rows start)
reversed rows start e h = if_either (are_whole rows start.margins e.margins && nat_le 1 (moved e.row start.row_min)) (Some (with_row e (and_back e.row 1))) (if on_top rows start.row_max start.margins && may_scroll e then Some (scrolling scrolls.Down e) else None) (IsOneChange rows start) (λ _. h)
    (if_either (on_top rows start.row_max start.margins && may_scroll e) (Some (scrolling scrolls.Down e)) None (IsOneChange rows start) (λ k. let both = and_parts (on_top rows start.row_max start.margins) (may_scroll e) k in inr (may_nothing e both.1, inr both.0)) tt)

tab : (rows cols : ℕ) (start : Start) (e : Effect) (m : Move) → IsOneChange rows start e → IfSome (tabbed cols e m) (IsOneChange rows start)
tab rows cols start e (moves.To k) h = h
tab rows cols start e _ h = tt

screen : (rows : ℕ) (start : Start) (e : Effect) → IfSome (screen_erased e) (IsOneChange rows start)
screen rows start e = if_either (keeps_background e) (Some (record e { erasure = erasures.Screen; scroll = scrolls.Still })) None (IsOneChange rows start) (λ _. inl refl) tt

around : (rows : ℕ) (start : Start) (x : Erasure) (e : Effect) → IsOneChange rows start e → IfSome (cells_erased x e) (IsOneChange rows start)
around rows start x e h = if_either (keeps_background e && is_still e.scroll) (if erases_screen e.erasure then Some e else (if is_unmoved e && erases_nothing e.erasure then Some (record e { erasure = x }) else None)) None (IsOneChange rows start)
    (λ k. if_either (erases_screen e.erasure) (Some e) (if is_unmoved e && erases_nothing e.erasure then Some (record e { erasure = x }) else None) (IsOneChange rows start) (λ _. h)
    (if_either (is_unmoved e && erases_nothing e.erasure) (Some (record e { erasure = x })) None (IsOneChange rows start) (λ _. inl (still e.scroll (and_parts (keeps_background e) (is_still e.scroll) k).1)) tt)) tt

line : (rows : ℕ) (start : Start) (part : EraseExtent) (e : Effect) → IsOneChange rows start e → IfSome (line_erased part e) (IsOneChange rows start)
line rows start ToEnd e h = around rows start erasures.Tail e h
line rows start FromStart e h = around rows start erasures.Head e h
line rows start functions.Whole e h = tt

display : (rows : ℕ) (start : Start) (part : EraseExtent) (e : Effect) → IsOneChange rows start e → IfSome (display_erased part e) (IsOneChange rows start)
display rows start ToEnd e h = if_either (is_first e.row && is_first e.col) (screen_erased e) (cells_erased erasures.Rest e) (IsOneChange rows start) (λ _. screen rows start e) (around rows start erasures.Rest e h)
display rows start FromStart e h = tt
display rows start functions.Whole e h = screen rows start e

either : (c : Bool) (a b : Effect) (P : Effect → Type 0) → P a → P b → P (if c then a else b)
either true a b P h k = h
either false a b P h k = k

bounded : (rows first last : ℕ) (start : Start) (e : Effect) → IsOneChange rows start e → IsOneChange rows start (margins_set rows first last e)
bounded rows first last start e h =
    let bottom : ℕ = (if last == 0 then rows - 1 else min (last - 1) (rows - 1)) in
    either (nat_lt (first - 1) bottom) (record e { margins = Some (record { top = first - 1; bottom = bottom }); row = moves.To 0; col = moves.To 0; ends_pending = true }) e (IsOneChange rows start) h h

mode : (rows : ℕ) (start : Start) (kind : ModeKind) (on : Bool) (n : ℕ) (e : Effect) → IsOneChange rows start e → IfSome (mode_set kind on n e) (IsOneChange rows start)
mode rows start Private on n e h =
    let shown : Effect = record e { visible = if on then switches.On else switches.Off } in
    if_either (n == 7) (if on then Some e else None) (if n == 25 then Some shown else Some e) (IsOneChange rows start) (λ _. if_either on (Some e) None (IsOneChange rows start) (λ _. h) tt) (if_either (n == 25) (Some shown) (Some e) (IsOneChange rows start) (λ _. h) h)
mode rows start Standard on n e h = if_either (n == 4) (if on then None else Some e) (Some e) (IsOneChange rows start) (λ _. if_either on None (Some e) (IsOneChange rows start) (λ _. tt) h) h

and_next : (o : Option Effect) (f : Effect → Option Effect) (P : Effect → Type 0) → IfSome o P → ((e : Effect) → P e → IfSome (f e) P) → IfSome (option_and_then f o) P
and_next None f P h k = tt
and_next (Some e) f P h k = k e h

modes : (rows : ℕ) (start : Start) (kind : ModeKind) (on : Bool) (ns : List (Option ℕ)) (e : Effect) → IsOneChange rows start e → IfSome (modes_set kind on ns e) (IsOneChange rows start)
modes rows start kind on [] e h = h
modes rows start kind on (n ∷ ns) e h = and_next (mode_set kind on (unwrap_or n 0) e) (modes_set kind on ns) (IsOneChange rows start) (mode rows start kind on (unwrap_or n 0) e h) (λ f k. modes rows start kind on ns f k)

designated : (rows : ℕ) (start : Start) (set : CodeElement) (graphic : Bool) (e : Effect) → IsOneChange rows start e → IfSome (extended rows 0 start (Designate set graphic) e) (IsOneChange rows start)
designated rows start G0 graphic e h = h
designated rows start G1 graphic e h = h

once_more : (rows cols : ℕ) (start : Start) (f : Function) (e : Effect) → IsOneChange rows start e → IfSome (extended rows cols start f e) (IsOneChange rows start)
once_more rows cols start LineFeed e h = fed rows start e h
once_more rows cols start CarriageReturn e h = h
once_more rows cols start Backspace e h = if_moved (back_by 1 start.col_min start.col_max e.col) (with_col e) (IsOneChange rows start) (λ m. h)
once_more rows cols start Tab e h = tab rows cols start e e.col h
once_more rows cols start ShiftOut e h = h
once_more rows cols start ShiftIn e h = h
once_more rows cols start ReverseIndex e h = reversed rows start e h
once_more rows cols start NextLine e h = fed rows start (with_col e (moves.To 0)) h
once_more rows cols start (CursorUp n) e h = if_either (are_whole rows start.margins e.margins) (if_some (with_row e) (back_by n start.row_min start.row_max e.row)) None (IsOneChange rows start) (λ _. if_moved (back_by n start.row_min start.row_max e.row) (with_row e) (IsOneChange rows start) (λ m. h)) tt
once_more rows cols start (CursorDown n) e h = if_either (are_whole rows start.margins e.margins) (if_some (with_row e) (forward_by n start.row_min start.row_max (rows - 1) e.row)) None (IsOneChange rows start) (λ _. if_moved (forward_by n start.row_min start.row_max (rows - 1) e.row) (with_row e) (IsOneChange rows start) (λ m. h)) tt
once_more rows cols start (CursorForward n) e h = if_moved (forward_by n start.col_min start.col_max (cols - 1) e.col) (with_col e) (IsOneChange rows start) (λ m. h)
once_more rows cols start (CursorBack n) e h = if_moved (back_by n start.col_min start.col_max e.col) (with_col e) (IsOneChange rows start) (λ m. h)
once_more rows cols start (CursorColumn col) e h = h
once_more rows cols start (CursorRow row) e h = h
once_more rows cols start (CursorPosition row col) e h = h
once_more rows cols start (EraseLine part) e h = line rows start part e h
once_more rows cols start (EraseDisplay part) e h = display rows start part e h
once_more rows cols start (EraseCells n) e h = around rows start (erasures.Next (min n cols)) e h
once_more rows cols start (functions.Margins first last) e h = bounded rows first last start e h
once_more rows cols start (Designate set graphic) e h = designated rows start set graphic e h
once_more rows cols start (SelectRendition ns) e h = h
once_more rows cols start (Modes kind on ns) e h = modes rows start kind on ns e h
once_more rows cols start Ignored e h = h
once_more rows cols start (Print b) e h = tt
once_more rows cols start (InsertCells n) e h = tt
once_more rows cols start (DeleteCells n) e h = tt
once_more rows cols start (InsertLines n) e h = tt
once_more rows cols start (DeleteLines n) e h = tt
once_more rows cols start (ScrollUp n) e h = tt
once_more rows cols start (ScrollDown n) e h = tt

all_once : (rows cols : ℕ) (start : Start) (tokens : List (List ℕ)) (e : Effect) → IsOneChange rows start e → IfSome (all_extended rows cols start tokens e) (IsOneChange rows start)
all_once rows cols start [] e h = h
all_once rows cols start (token ∷ tokens) e h = and_next (extended rows cols start (function_of token) e) (all_extended rows cols start tokens) (IsOneChange rows start) (once_more rows cols start (function_of token) e h) (λ f k. all_once rows cols start tokens f k)

pub one_change : (rows cols : ℕ) (start : Start) (tokens : List (List ℕ)) (e : Effect) → record_of rows cols start tokens ≡ Some e → IsOneChange rows start e
one_change rows cols start tokens e is = subst (λ (o : Option Effect). IfSome o (IsOneChange rows start)) is (all_once rows cols start tokens unchanged (inl refl))
