-- The record of a string is in its one form.
use Rattle.std.proofs.Common.{◌≡◌, ◌≢◌, ℕ, ◌+◌, ◌-◌, ◌*◌, ◌/◌, ◌<◌, ◌≤◌, min, List, [], ◌∷◌, length, take, Bool, true, false, ◌&&◌, Option, Some, None, refl, subst, arith}
use Rattle.std.specs.Prelude.{if◌then◌else◌, ◌==◌, nat_le, nat_lt}
use Rattle.std.specs.List.{slice_index}
use Rattle.std.specs.Option.{unwrap_or}
use Rattle.std.proofs.lemmas.Bool.{and_parts, leb-true, ltb-true}
use Rattle.std.proofs.lemmas.Option.{cond_some, option_and_then_some, same_Some}
use Rattle.vt_term.specs.Size.{IsSize}
use Rattle.vt_term.specs.Function as functions
use Rattle.vt_term.specs.Function.{Function, CodeElement, G0, G1, ModeKind, Standard, Private, EraseExtent, ToEnd, FromStart, Print, LineFeed, CarriageReturn, Backspace, Tab, ShiftOut, ShiftIn, ReverseIndex, NextLine, CursorUp, CursorDown, CursorForward, CursorBack, CursorColumn, CursorRow, CursorPosition, EraseLine, EraseDisplay, EraseCells, InsertCells, DeleteCells, InsertLines, DeleteLines, ScrollUp, ScrollDown, Designate, SelectRendition, Modes, Ignored, counted, single, counting, by_number, of_one_number, of_numbers, of_private_numbers, marked, named, sequence, designation, escape_final, escaped, function_of, line_part, display_part, cursor_position}
use Rattle.vt_term.specs.Parameters.{numbers}
use Rattle.vt_effects.specs.declared.effects.Move.{Move}
use Rattle.vt_effects.specs.declared.effects.Move.TheVariants as moves
use Rattle.vt_effects.specs.declared.effects.Erasure.{Erasure}
use Rattle.vt_effects.specs.declared.effects.Erasure.TheVariants as erasures
use Rattle.vt_effects.specs.declared.effects.Scroll.TheVariants as scrolls
use Rattle.vt_effects.specs.declared.effects.Switch.TheVariants as switches
use Rattle.vt_effects.specs.declared.effects.Effect.{Effect}
use Rattle.vt_effects.specs.declared.starts.Start.{Start}
use Rattle.vt_effects.specs.Effect.{moved, unchanged}
use Rattle.vt_effects.specs.Record.{and_back, and_forward, back_by, forward_by, with_col, with_row, if_some, are_whole, on_bottom, on_top, may_scroll, scrolling, line_fed, line_reversed, tabbed, keeps_background, is_first, is_unmoved, is_still, erases_nothing, erases_screen, screen_erased, cells_erased, line_erased, display_erased, mode_set, modes_set, margins_set, designating, shifting, row_back, row_forward, col_back, col_forward, extended, all_extended, all_renderings}
use Rattle.ti_lines.specs.EffectText.{IsPlainMove, IsPlainErasure, IsPlain}
use Rattle.ti_lines.specs.EffectLaws.{RecordedPlain}
use Rattle.ti_lines.proofs.Glyphs.{branch}
use Rattle.ti_lines.proofs.Plains.{net_near}

-- moves by a count that no start is cut by

backed : (n low : ℕ) (m : Move) → low < 65536 → IsPlainMove m → n ≤ moved m low → IsPlainMove (and_back m n)
backed n low moves.Kept h p le = net_near 0 n (omega arith) (omega (arith, h, le))
backed n low (moves.To k) h p le = omega (arith, p)
backed n low (moves.Back k) h p le = let small = p.1 in net_near 0 (k + n) (omega arith) (omega (arith, h, small, le))
backed n low (moves.Forward k) h p le = let small = p.1 in net_near k n (omega (arith, small)) (omega (arith, h, le))

forwarded : (n high last : ℕ) (m : Move) → last < 65536 → IsPlainMove m → moved m high + n ≤ last → IsPlainMove (and_forward m n)
forwarded n high last moves.Kept h p le = net_near n 0 (omega (arith, h, le)) (omega arith)
forwarded n high last (moves.To k) h p le = omega (arith, h, le)
forwarded n high last (moves.Back k) h p le = let small = p.1 in net_near n k (omega (arith, h, le)) (omega (arith, small))
forwarded n high last (moves.Forward k) h p le = net_near (k + n) 0 (omega (arith, h, le)) (omega arith)

back_plain : (n low high : ℕ) (m c : Move) → low < 65536 → IsPlainMove m → back_by n low high m ≡ Some c → IsPlainMove c
back_plain n low high m c h p =
    branch (IsPlainMove c) (nat_le n (moved m low)) (Some (and_back m n)) (if nat_lt (moved m high) n then Some (moves.To 0) else None) c
    (λ t e. subst IsPlainMove (same_Some (and_back m n) c e) (backed n low m h p (leb-true n (moved m low) t)))
    (λ e. subst IsPlainMove (cond_some (nat_lt (moved m high) n) (moves.To 0) c e).1 (omega arith))

forward_plain : (n low high last : ℕ) (m c : Move) → last < 65536 → IsPlainMove m → forward_by n low high last m ≡ Some c → IsPlainMove c
forward_plain n low high last m c h p =
    branch (IsPlainMove c) (nat_le (moved m high + n) last) (Some (and_forward m n)) (if nat_lt last (moved m low + n) then Some (moves.To last) else None) c
    (λ t e. subst IsPlainMove (same_Some (and_forward m n) c e) (forwarded n high last m h p (leb-true (moved m high + n) last t)))
    (λ e. subst IsPlainMove (cond_some (nat_lt last (moved m low + n)) (moves.To last) c e).1 h)

with_row_plain : (e : Effect) (m : Move) → IsPlain e → IsPlainMove m → IsPlain (with_row e m)
with_row_plain e m p q = record { row = q; col = p.col; erasure = p.erasure; margins = p.margins }

with_col_plain : (e : Effect) (m : Move) → IsPlain e → IsPlainMove m → IsPlain (with_col e m)
with_col_plain e m p q = record { row = p.row; col = q; erasure = p.erasure; margins = p.margins }

-- a move that exists
if_move : (f : Move → Effect) (o : Option Move) (e : Effect) → ((m : Move) → o ≡ Some m → IsPlain (f m)) → if_some f o ≡ Some e → IsPlain e
if_move f None e k h = absurd (cc)
if_move f (Some m) e k h = subst IsPlain (same_Some (f m) e h) (k m refl)

line_fed_plain : (rows : ℕ) (start : Start) (e f : Effect) → rows ≤ 200 → IsPlain e → line_fed rows start e ≡ Some f → IsPlain f
line_fed_plain rows start e f r p =
    branch (IsPlain f) (are_whole rows start.margins e.margins && nat_lt (moved e.row start.row_max + 1) rows) (Some (with_row e (and_forward e.row 1)))
    (if on_bottom rows start.row_min start.margins && may_scroll e then Some (scrolling scrolls.Up e) else None) f
    (λ t x. let below = ltb-true (moved e.row start.row_max + 1) rows (and_parts (are_whole rows start.margins e.margins) (nat_lt (moved e.row start.row_max + 1) rows) t).1 in
    subst IsPlain (same_Some (with_row e (and_forward e.row 1)) f x) (with_row_plain e (and_forward e.row 1) p (forwarded 1 start.row_max rows e.row (omega (arith, r)) p.row (omega (arith, below)))))
    (λ x. subst IsPlain (cond_some (on_bottom rows start.row_min start.margins && may_scroll e) (scrolling scrolls.Up e) f x).1 (record { row = p.row; col = p.col; erasure = p.erasure; margins = p.margins }))

line_reversed_plain : (rows : ℕ) (start : Start) (e f : Effect) → start.row_min < 65536 → IsPlain e → line_reversed rows start e ≡ Some f → IsPlain f
line_reversed_plain rows start e f r p =
    branch (IsPlain f) (are_whole rows start.margins e.margins && nat_le 1 (moved e.row start.row_min)) (Some (with_row e (and_back e.row 1)))
    (if on_top rows start.row_max start.margins && may_scroll e then Some (scrolling scrolls.Down e) else None) f
    (λ t x. let above = leb-true 1 (moved e.row start.row_min) (and_parts (are_whole rows start.margins e.margins) (nat_le 1 (moved e.row start.row_min)) t).1 in
    subst IsPlain (same_Some (with_row e (and_back e.row 1)) f x) (with_row_plain e (and_back e.row 1) p (backed 1 start.row_min e.row r p.row above)))
    (λ x. subst IsPlain (cond_some (on_top rows start.row_max start.margins && may_scroll e) (scrolling scrolls.Down e) f x).1 (record { row = p.row; col = p.col; erasure = p.erasure; margins = p.margins }))

tabbed_plain : (cols : ℕ) (e f : Effect) (m : Move) → cols ≤ 500 → IsPlain e → tabbed cols e m ≡ Some f → IsPlain f
tabbed_plain cols e f moves.Kept c p h = absurd (cc)
tabbed_plain cols e f (moves.To k) c p h =
    subst IsPlain (same_Some (with_col e (moves.To (min ((k / 8 + 1) * 8) (cols - 1)))) f h) (with_col_plain e (moves.To (min ((k / 8 + 1) * 8) (cols - 1))) p (near ((k / 8 + 1) * 8)))
  where
    near : (n : ℕ) → min n (cols - 1) < 65536
    near n = omega (arith, c)
tabbed_plain cols e f (moves.Back k) c p h = absurd (cc)
tabbed_plain cols e f (moves.Forward k) c p h = absurd (cc)

screen_plain : (e f : Effect) → IsPlain e → screen_erased e ≡ Some f → IsPlain f
screen_plain e f p h = subst IsPlain (cond_some (keeps_background e) (record e { erasure = erasures.Screen; scroll = scrolls.Still }) f h).1
    (record { row = p.row; col = p.col; erasure = tt; margins = p.margins })

cells_plain : (x : Erasure) (e f : Effect) → IsPlainErasure x → IsPlain e → cells_erased x e ≡ Some f → IsPlain f
cells_plain x e f q p h =
    branch (IsPlain f) (keeps_background e && is_still e.scroll) _ None f
    (λ t h. branch (IsPlain f) (erases_screen e.erasure) (Some e) _ f (λ t g. subst IsPlain (same_Some e f g) p)
    (λ h. subst IsPlain (cond_some (is_unmoved e && erases_nothing e.erasure) (record e { erasure = x }) f h).1 (record { row = p.row; col = p.col; erasure = q; margins = p.margins })) h)
    (λ h. absurd (cc)) h

line_erased_plain : (part : EraseExtent) (e f : Effect) → IsPlain e → line_erased part e ≡ Some f → IsPlain f
line_erased_plain ToEnd e f p h = cells_plain erasures.Tail e f tt p h
line_erased_plain FromStart e f p h = cells_plain erasures.Head e f tt p h
line_erased_plain functions.Whole e f p h = absurd (cc)

display_erased_plain : (part : EraseExtent) (e f : Effect) → IsPlain e → display_erased part e ≡ Some f → IsPlain f
display_erased_plain ToEnd e f p h =
    branch (IsPlain f) (is_first e.row && is_first e.col) (screen_erased e) (cells_erased erasures.Rest e) f (λ t g. screen_plain e f p g) (λ g. cells_plain erasures.Rest e f tt p g) h
display_erased_plain FromStart e f p h = absurd (cc)
display_erased_plain functions.Whole e f p h = screen_plain e f p h

mode_plain : (kind : ModeKind) (on : Bool) (n : ℕ) (e f : Effect) → IsPlain e → mode_set kind on n e ≡ Some f → IsPlain f
mode_plain Private on n e f p h =
    branch (IsPlain f) (n == 7) (if on then Some e else None) (if n == 25 then Some (record e { visible = if on then switches.On else switches.Off }) else Some e) f
    (λ t x. subst IsPlain (cond_some on e f x).1 p)
    (λ x. branch (IsPlain f) (n == 25) (Some (record e { visible = if on then switches.On else switches.Off })) (Some e) f
    (λ t y. subst IsPlain (same_Some (record e { visible = if on then switches.On else switches.Off }) f y) (record { row = p.row; col = p.col; erasure = p.erasure; margins = p.margins }))
    (λ y. subst IsPlain (same_Some e f y) p) x) h
mode_plain Standard on n e f p h =
    branch (IsPlain f) (n == 4) (if on then None else Some e) (Some e) f
    (λ t x. branch (IsPlain f) on None (Some e) f (λ u y. absurd (cc)) (λ y. subst IsPlain (same_Some e f y) p) x)
    (λ x. subst IsPlain (same_Some e f x) p) h

modes_plain : (kind : ModeKind) (on : Bool) (ns : List (Option ℕ)) (e f : Effect) → IsPlain e → modes_set kind on ns e ≡ Some f → IsPlain f
modes_plain kind on [] e f p h = subst IsPlain (same_Some e f h) p
modes_plain kind on (n ∷ ns) e f p h =
    option_and_then_some (modes_set kind on ns) (mode_set kind on (unwrap_or n 0) e) f h
    (λ g x y. modes_plain kind on ns g f (mode_plain kind on (unwrap_or n 0) e g p x) y)

chosen_plain : (b : Bool) (x y : Effect) → (b ≡ true → IsPlain x) → IsPlain y → IsPlain (if b then x else y)
chosen_plain true x y p q = p refl
chosen_plain false x y p q = q

low_bottom : (b : Bool) (rows last : ℕ) → rows ≤ 200 → (if b then rows - 1 else min (last - 1) (rows - 1)) < 65536
low_bottom true rows last r = omega (arith, r)
low_bottom false rows last r = omega (arith, r)

margins_plain : (rows first last : ℕ) (e : Effect) → rows ≤ 200 → IsPlain e → IsPlain (margins_set rows first last e)
margins_plain rows first last e r p =
    let bottom : ℕ = if last == 0 then rows - 1 else min (last - 1) (rows - 1) in
    let low : bottom < 65536 = low_bottom (last == 0) rows last r in
    chosen_plain (nat_lt (first - 1) bottom) _ e
    (λ t. record { row = omega arith; col = omega arith; erasure = p.erasure; margins = (let below = ltb-true (first - 1) bottom t in (omega (arith, below, low), low)) }) p

designating_plain : (set : CodeElement) (graphic : Bool) (e : Effect) → IsPlain e → IsPlain (designating set graphic e)
designating_plain G0 graphic e p = record { row = p.row; col = p.col; erasure = p.erasure; margins = p.margins }
designating_plain G1 graphic e p = record { row = p.row; col = p.col; erasure = p.erasure; margins = p.margins }

-- an erasure of cells erases at least one
record IsCounted (t : Function) : Type 0 where
  cells : (n : ℕ) → t ≡ EraseCells n → 0 < n

row_back_plain : (rows : ℕ) (start : Start) (n : ℕ) (e f : Effect) → start.row_min < 65536 → IsPlain e → row_back rows start n e ≡ Some f → IsPlain f
row_back_plain rows start n e f r p =
    branch (IsPlain f) (are_whole rows start.margins e.margins) (if_some (with_row e) (back_by n start.row_min start.row_max e.row)) None f
    (λ t. if_move (with_row e) (back_by n start.row_min start.row_max e.row) f (λ m x. with_row_plain e m p (back_plain n start.row_min start.row_max e.row m r p.row x))) (λ x. absurd (cc))

row_forward_plain : (rows : ℕ) (start : Start) (n : ℕ) (e f : Effect) → rows ≤ 200 → IsPlain e → row_forward rows start n e ≡ Some f → IsPlain f
row_forward_plain rows start n e f r p =
    branch (IsPlain f) (are_whole rows start.margins e.margins) (if_some (with_row e) (forward_by n start.row_min start.row_max (rows - 1) e.row)) None f
    (λ t. if_move (with_row e) (forward_by n start.row_min start.row_max (rows - 1) e.row) f (λ m x. with_row_plain e m p (forward_plain n start.row_min start.row_max (rows - 1) e.row m (omega (arith, r)) p.row x))) (λ x. absurd (cc))

col_back_plain : (start : Start) (n : ℕ) (e f : Effect) → start.col_min < 65536 → IsPlain e → col_back start n e ≡ Some f → IsPlain f
col_back_plain start n e f c p =
    if_move (with_col e) (back_by n start.col_min start.col_max e.col) f (λ m x. with_col_plain e m p (back_plain n start.col_min start.col_max e.col m c p.col x))

col_forward_plain : (cols : ℕ) (start : Start) (n : ℕ) (e f : Effect) → cols ≤ 500 → IsPlain e → col_forward cols start n e ≡ Some f → IsPlain f
col_forward_plain cols start n e f c p =
    if_move (with_col e) (forward_by n start.col_min start.col_max (cols - 1) e.col) f (λ m x. with_col_plain e m p (forward_plain n start.col_min start.col_max (cols - 1) e.col m (omega (arith, c)) p.col x))

-- the last row or column, or one before it
at_most : (n limit : ℕ) → limit ≤ 500 → min n (limit - 1) < 65536
at_most n limit h = omega (arith, h)

extended_plain : (rows cols : ℕ) (start : Start) (t : Function) (e f : Effect) → IsSize rows cols → start.row_min < 65536 → start.col_min < 65536 → IsCounted t → IsPlain e →
    extended rows cols start t e ≡ Some f → IsPlain f
extended_plain rows cols start LineFeed e f z r c k p h = line_fed_plain rows start e f z.1 p h
extended_plain rows cols start CarriageReturn e f z r c k p h = subst IsPlain (same_Some (with_col e (moves.To 0)) f h) (with_col_plain e (moves.To 0) p (omega arith))
extended_plain rows cols start Backspace e f z r c k p h = col_back_plain start 1 e f c p h
extended_plain rows cols start Tab e f z r c k p h = tabbed_plain cols e f e.col z.3 p h
extended_plain rows cols start ShiftOut e f z r c k p h = subst IsPlain (same_Some (shifting true e) f h) (record { row = p.row; col = p.col; erasure = p.erasure; margins = p.margins })
extended_plain rows cols start ShiftIn e f z r c k p h = subst IsPlain (same_Some (shifting false e) f h) (record { row = p.row; col = p.col; erasure = p.erasure; margins = p.margins })
extended_plain rows cols start ReverseIndex e f z r c k p h = line_reversed_plain rows start e f r p h
extended_plain rows cols start NextLine e f z r c k p h = line_fed_plain rows start (with_col e (moves.To 0)) f z.1 (with_col_plain e (moves.To 0) p (omega arith)) h
extended_plain rows cols start (CursorUp n) e f z r c k p h = row_back_plain rows start n e f r p h
extended_plain rows cols start (CursorDown n) e f z r c k p h = row_forward_plain rows start n e f z.1 p h
extended_plain rows cols start (CursorForward n) e f z r c k p h = col_forward_plain cols start n e f z.3 p h
extended_plain rows cols start (CursorBack n) e f z r c k p h = col_back_plain start n e f c p h
extended_plain rows cols start (CursorColumn col) e f z r c k p h = subst IsPlain (same_Some (with_col e (moves.To (min (col - 1) (cols - 1)))) f h) (with_col_plain e (moves.To (min (col - 1) (cols - 1))) p (at_most (col - 1) cols z.3))
extended_plain rows cols start (CursorRow row) e f z r c k p h =
    subst IsPlain (same_Some (with_row e (moves.To (min (row - 1) (rows - 1)))) f h) (with_row_plain e (moves.To (min (row - 1) (rows - 1))) p (let low = z.1 in at_most (row - 1) rows (omega (arith, low))))
extended_plain rows cols start (CursorPosition row col) e f z r c k p h =
    subst IsPlain (same_Some (with_col (with_row e (moves.To (min (row - 1) (rows - 1)))) (moves.To (min (col - 1) (cols - 1)))) f h)
    (with_col_plain (with_row e (moves.To (min (row - 1) (rows - 1)))) (moves.To (min (col - 1) (cols - 1)))
    (with_row_plain e (moves.To (min (row - 1) (rows - 1))) p (let low = z.1 in at_most (row - 1) rows (omega (arith, low)))) (at_most (col - 1) cols z.3))
extended_plain rows cols start (EraseLine part) e f z r c k p h = line_erased_plain part e f p h
extended_plain rows cols start (EraseDisplay part) e f z r c k p h = display_erased_plain part e f p h
extended_plain rows cols start (EraseCells n) e f z r c k p h = cells_plain (erasures.Next (min n cols)) e f (let some = k.cells n refl in let wide = z.2 in let narrow = z.3 in (omega (arith, some, wide), omega (arith, narrow))) p h
extended_plain rows cols start (functions.Margins first last) e f z r c k p h = subst IsPlain (same_Some (margins_set rows first last e) f h) (margins_plain rows first last e z.1 p)
extended_plain rows cols start (Designate set graphic) e f z r c k p h = subst IsPlain (same_Some (designating set graphic e) f h) (designating_plain set graphic e p)
extended_plain rows cols start (SelectRendition ns) e f z r c k p h =
    subst IsPlain (same_Some (record e { rendition = all_renderings ns e.rendition }) f h) (record { row = p.row; col = p.col; erasure = p.erasure; margins = p.margins })
extended_plain rows cols start (Modes kind on ns) e f z r c k p h = modes_plain kind on ns e f p h
extended_plain rows cols start Ignored e f z r c k p h = subst IsPlain (same_Some e f h) p
extended_plain rows cols start (Print b) e f z r c k p h = absurd (cc)
extended_plain rows cols start (InsertCells n) e f z r c k p h = absurd (cc)
extended_plain rows cols start (DeleteCells n) e f z r c k p h = absurd (cc)
extended_plain rows cols start (InsertLines n) e f z r c k p h = absurd (cc)
extended_plain rows cols start (DeleteLines n) e f z r c k p h = absurd (cc)
extended_plain rows cols start (ScrollUp n) e f z r c k p h = absurd (cc)
extended_plain rows cols start (ScrollDown n) e f z r c k p h = absurd (cc)

-- the functions that tokens name

pick : (b : Bool) (x y : Function) → IsCounted x → IsCounted y → IsCounted (if b then x else y)
pick true x y p q = p
pick false x y p q = q

-- no erasure of cells
other : (t : Function) → ((n : ℕ) → t ≢ EraseCells n) → IsCounted t
other t p = record { cells = λ n e. absurd (p n e) }

single_counted : (b : ℕ) → IsCounted (single b)
single_counted b = pick _ _ _ (other (Print b) (λ n e. cc)) (pick _ _ _ (other Backspace (λ n e. cc)) (pick _ _ _ (other Tab (λ n e. cc)) (pick _ _ _ (other LineFeed (λ n e. cc))
    (pick _ _ _ (other CarriageReturn (λ n e. cc)) (pick _ _ _ (other ShiftOut (λ n e. cc)) (pick _ _ _ (other ShiftIn (λ n e. cc)) (other Ignored (λ n e. cc))))))))

ignored : IsCounted Ignored
ignored = other Ignored (λ n e. cc)

one_at_least : (n : Option ℕ) → 0 < counted n
one_at_least None = omega arith
one_at_least (Some n) = omega arith

cells_counted : (n : ℕ) → 0 < n → IsCounted (EraseCells n)
cells_counted n h = record { cells = λ m e. (let same : n ≡ m = cc in omega (arith, h, same)) }

counting_counted : (final n : ℕ) → 0 < n → IsCounted (counting final n)
counting_counted final n h =
    pick _ _ _ (other (InsertCells n) (λ m e. cc)) (pick _ _ _ (other (CursorUp n) (λ m e. cc)) (pick _ _ _ (other (CursorDown n) (λ m e. cc)) (pick _ _ _ (other (CursorForward n) (λ m e. cc))
    (pick _ _ _ (other (CursorBack n) (λ m e. cc)) (pick _ _ _ (other (CursorColumn n) (λ m e. cc)) (pick _ _ _ (other (InsertLines n) (λ m e. cc)) (pick _ _ _ (other (DeleteLines n) (λ m e. cc))
    (pick _ _ _ (other (DeleteCells n) (λ m e. cc)) (pick _ _ _ (other (ScrollUp n) (λ m e. cc)) (pick _ _ _ (other (ScrollDown n) (λ m e. cc)) (pick _ _ _ (cells_counted n h)
    (pick _ _ _ (other (CursorRow n) (λ m e. cc)) ignored))))))))))))

line_part_counted : (n : ℕ) → IsCounted (line_part n)
line_part_counted n = pick _ _ _ (other (EraseLine ToEnd) (λ m e. cc)) (pick _ _ _ (other (EraseLine FromStart) (λ m e. cc)) (pick _ _ _ (other (EraseLine functions.Whole) (λ m e. cc)) ignored))

display_part_counted : (n : ℕ) → IsCounted (display_part n)
display_part_counted n = pick _ _ _ (other (EraseDisplay ToEnd) (λ m e. cc)) (pick _ _ _ (other (EraseDisplay FromStart) (λ m e. cc)) (pick _ _ _ (other (EraseDisplay functions.Whole) (λ m e. cc)) ignored))

one_number_counted : (final : ℕ) (ns : List (Option ℕ)) → IsCounted (of_one_number final ns)
one_number_counted final [] = ignored
one_number_counted final (n ∷ []) = pick _ _ _ (display_part_counted (unwrap_or n 0)) (pick _ _ _ (line_part_counted (unwrap_or n 0)) (counting_counted final (counted n) (one_at_least n)))
one_number_counted final (n ∷ m ∷ ns) = ignored

position_counted : (ns : List (Option ℕ)) → IsCounted (cursor_position ns)
position_counted [] = ignored
position_counted (row ∷ []) = other (CursorPosition (counted row) 1) (λ n e. cc)
position_counted (row ∷ col ∷ []) = other (CursorPosition (counted row) (counted col)) (λ n e. cc)
position_counted (row ∷ col ∷ n ∷ ns) = ignored

margins_counted : (ns : List (Option ℕ)) → IsCounted (functions.margins ns)
margins_counted [] = ignored
margins_counted (first ∷ []) = other (functions.Margins (unwrap_or first 0) 0) (λ n e. cc)
margins_counted (first ∷ last ∷ []) = other (functions.Margins (unwrap_or first 0) (unwrap_or last 0)) (λ n e. cc)
margins_counted (first ∷ last ∷ n ∷ ns) = ignored

numbers_counted : (final : ℕ) (ns : List (Option ℕ)) → IsCounted (of_numbers final ns)
numbers_counted final ns =
    pick _ _ _ (position_counted ns) (pick _ _ _ (margins_counted ns) (pick _ _ _ (other (SelectRendition ns) (λ n e. cc))
    (pick _ _ _ (other (Modes Standard true ns) (λ n e. cc)) (pick _ _ _ (other (Modes Standard false ns) (λ n e. cc)) (one_number_counted final ns)))))

marked_counted : (final : ℕ) (front : List ℕ) → IsCounted (marked final front)
marked_counted final [] = ignored
marked_counted final (b ∷ bytes) =
    let ns : List (Option ℕ) = numbers bytes in
    pick _ _ _ (pick _ _ _ (other (Modes Private true ns) (λ n e. cc)) (pick _ _ _ (other (Modes Private false ns) (λ n e. cc)) ignored)) ignored

sequence_counted : (body : List ℕ) → IsCounted (sequence body)
sequence_counted body =
    let final : ℕ = slice_index body (length body - 1) in
    let front : List ℕ = take (length body - 1) body in
    pick _ _ _ (numbers_counted final (numbers front)) (marked_counted final front)

designation_counted : (set : CodeElement) (final : ℕ) → IsCounted (designation set final)
designation_counted set final = pick _ _ _ (other (Designate set true) (λ n e. cc)) (pick _ _ _ (other (Designate set false) (λ n e. cc)) ignored)

escaped_counted : (body : List ℕ) → IsCounted (escaped body)
escaped_counted [] = ignored
escaped_counted (final ∷ []) = pick _ _ _ (other LineFeed (λ n e. cc)) (pick _ _ _ (other NextLine (λ n e. cc)) (pick _ _ _ (other ReverseIndex (λ n e. cc)) ignored))
escaped_counted (set ∷ final ∷ []) = pick _ _ _ (designation_counted G0 final) (pick _ _ _ (designation_counted G1 final) ignored)
escaped_counted (set ∷ final ∷ more ∷ rest) = ignored

token_counted : (token : List ℕ) → IsCounted (function_of token)
token_counted [] = ignored
token_counted (b ∷ []) = single_counted b
token_counted (escape ∷ second ∷ body) = pick _ _ _ (sequence_counted body) (escaped_counted (second ∷ body))

all_plain : (rows cols : ℕ) (start : Start) (tokens : List (List ℕ)) (e f : Effect) → IsSize rows cols → start.row_min < 65536 → start.col_min < 65536 → IsPlain e →
    all_extended rows cols start tokens e ≡ Some f → IsPlain f
all_plain rows cols start [] e f z r c p h = subst IsPlain (same_Some e f h) p
all_plain rows cols start (token ∷ tokens) e f z r c p h =
    option_and_then_some (all_extended rows cols start tokens) (extended rows cols start (function_of token) e) f h
    (λ g x y. all_plain rows cols start tokens g f z r c (extended_plain rows cols start (function_of token) e g z r c (token_counted token) p x) y)

pub recorded_plain : RecordedPlain
recorded_plain rows cols start tokens e z r c h = all_plain rows cols start tokens unchanged e z r c (record { row = tt; col = tt; erasure = tt; margins = tt }) h
