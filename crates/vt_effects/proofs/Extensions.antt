-- Each token's record is right, kind by kind.
use Rattle.std.proofs.Common.{◌≡◌, ℕ, ◌+◌, ◌-◌, ◌*◌, ◌/◌, ◌==◌, nat_le, min, max, true, if◌then◌else◌, Option, Some, None, refl, sym, ap, ◌∙◌, arith}
use Rattle.std.proofs.lemmas.Bool.{and_parts, eqb-true}
use Rattle.std.proofs.lemmas.Bool.Decides.{nat_tests}
use Rattle.vt_term.specs.Look.{blank}
use Rattle.vt_term.specs.Screen.{Screen, IsScreen}
use Rattle.vt_term.specs.Step.{goes_to, act}
use Rattle.vt_term.specs.Function as functions
use Rattle.vt_term.specs.Function.{Function}
use Rattle.vt_effects.specs.declared.effects.Move.{Move}
use Rattle.vt_effects.specs.declared.effects.Move.TheVariants as moves
use Rattle.vt_effects.specs.declared.effects.Erasure.{Erasure}
use Rattle.vt_effects.specs.declared.effects.Erasure.TheVariants as erasures
use Rattle.vt_effects.specs.declared.effects.Scroll.{Scroll}
use Rattle.vt_effects.specs.declared.effects.Scroll.TheVariants as scrolls
use Rattle.vt_effects.specs.declared.effects.Ink.{Ink}
use Rattle.vt_effects.specs.declared.effects.Ink.TheVariants as inks
use Rattle.vt_effects.specs.declared.effects.Region.{Region}
use Rattle.vt_effects.specs.declared.effects.Effect.{Effect}
use Rattle.vt_effects.specs.declared.starts.Start.{Start}
use Rattle.vt_effects.specs.declared.starts.Margins.{Margins}
use Rattle.vt_effects.specs.declared.starts.Margins.TheVariants as margins
use Rattle.vt_effects.specs.Effect.{moved, inked, top_of, bottom_of, applied}
use Rattle.vt_effects.specs.Start.{Allows, HasMargins}
use Rattle.vt_effects.specs.Sound.{Extends}
use Rattle.vt_effects.specs.Record as spec
use Rattle.vt_effects.specs.Record.{is_kept, is_first, keeps_ink, keeps_margins, erases_nothing, erases_screen, is_still, back_by, forward_by, with_col, with_row, if_some, knows_whole, are_whole, on_bottom, on_top, keeps_background, is_unmoved, may_scroll, scrolling}
use Rattle.vt_effects.proofs.MoveFacts.{chosen, given, not_found, IsBack, back_leads, forward_leads, back_kept, forward_kept}

-- no start is cut at the first row or column
pub record IsGood (start : Start) (e : Effect) : Type 0 where
  pub row : IsBack e.row start.row_min
  pub col : IsBack e.col start.col_min

pub record Right (rows cols : ℕ) (start : Start) (t : Function) (e f : Effect) : Type 0 where
  pub good : IsGood start f
  pub leads : Extends rows cols start t e f

-- a test of a part of an effect tells the part
pub kept_is : (m : Move) → is_kept m ≡ true → m ≡ moves.Kept
kept_is moves.Kept h = refl
kept_is (moves.To k) h = absurd (cc)
kept_is (moves.Back k) h = absurd (cc)
kept_is (moves.Forward k) h = absurd (cc)

pub first_is : (m : Move) (x : ℕ) → is_first m ≡ true → moved m x ≡ 0
first_is moves.Kept x h = absurd (cc)
first_is (moves.To k) x h = eqb-true k 0 h
first_is (moves.Back k) x h = absurd (cc)
first_is (moves.Forward k) x h = absurd (cc)

ink_is : (i : Ink) → keeps_ink i ≡ true → i ≡ inks.Kept
ink_is inks.Kept h = refl
ink_is inks.Default h = absurd (cc)
ink_is (inks.Color c) h = absurd (cc)

pub margins_are : (m : Option Region) → keeps_margins m ≡ true → m ≡ None
margins_are None h = refl
margins_are (Some r) h = absurd (cc)

pub still_is : (x : Scroll) → is_still x ≡ true → x ≡ scrolls.Still
still_is scrolls.Still h = refl
still_is scrolls.Up h = absurd (cc)
still_is scrolls.Down h = absurd (cc)

pub nothing_is : (x : Erasure) → erases_nothing x ≡ true → x ≡ erasures.Nothing
nothing_is erasures.Nothing h = refl
nothing_is erasures.Screen h = absurd (cc)
nothing_is erasures.Tail h = absurd (cc)
nothing_is erasures.Head h = absurd (cc)
nothing_is erasures.Rest h = absurd (cc)
nothing_is (erasures.Next n) h = absurd (cc)

pub screen_is : (x : Erasure) → erases_screen x ≡ true → x ≡ erasures.Screen
screen_is erasures.Nothing h = absurd (cc)
screen_is erasures.Screen h = refl
screen_is erasures.Tail h = absurd (cc)
screen_is erasures.Head h = absurd (cc)
screen_is erasures.Rest h = absurd (cc)
screen_is (erasures.Next n) h = absurd (cc)

-- the background is still the start's
pub same_blank : (e : Effect) (s : Screen) → keeps_background e ≡ true → blank (applied e s).rendition ≡ blank s.rendition
same_blank e s h = ap (λ (i : Ink). blank (record s.rendition { background = inked i s.rendition.background })) (ink_is e.rendition.background h)

found_move : {G : Type 0} (g : Move → Effect) (o : Option Move) (f : Effect) → if_some g o ≡ Some f → ((m : Move) → o ≡ Some m → Some (g m) ≡ Some f → G) → G
found_move g None f h k = not_found f h
found_move g (Some m) f h k = k m refl h

-- the margins are the whole screen
pub record AreWhole (first last rows : ℕ) : Type 0 where
  pub top : first ≡ 0
  pub bottom : last + 1 ≡ rows

pub known_whole : (m : Margins) (rows : ℕ) (s : Screen) → knows_whole rows m ≡ true → HasMargins m s → s.rows ≡ rows → IsScreen s → AreWhole s.top s.bottom s.rows
known_whole margins.Whole rows s h k e v = record { top = k.0; bottom = k.1 }
known_whole margins.Legal rows s h k e v = let two : rows ≡ 2 = eqb-true rows 2 h in record { top = omega (arith, two, e, v.region, v.bottom); bottom = omega (arith, two, e, v.region, v.bottom) }
known_whole margins.OnBottom rows s h k e v = let two : rows ≡ 2 = eqb-true rows 2 h in record { top = omega (arith, two, e, v.region, v.bottom); bottom = omega (arith, two, e, v.region, v.bottom) }
known_whole margins.OnTop rows s h k e v = let two : rows ≡ 2 = eqb-true rows 2 h in record { top = omega (arith, two, e, v.region, v.bottom); bottom = omega (arith, two, e, v.region, v.bottom) }

whole_after : (r : Option Region) (m : Margins) (rows : ℕ) (s : Screen) → are_whole rows m r ≡ true → HasMargins m s → s.rows ≡ rows → IsScreen s → AreWhole (top_of r s.top) (bottom_of r s.bottom) s.rows
whole_after None m rows s h k e v = known_whole m rows s h k e v
whole_after (Some r) m rows s h k e v =
    let both : ((r.top == 0) ≡ true) × ((r.bottom + 1 == rows) ≡ true) = and_parts (r.top == 0) (r.bottom + 1 == rows) h in
    record { top = eqb-true r.top 0 both.0; bottom = eqb-true (r.bottom + 1) rows both.1 ∙ sym e }

-- moves of the column and of the row
pub col_right : (rows cols : ℕ) (start : Start) (t : Function) (e : Effect) (m : Move) (to : Screen → ℕ) → IsGood start e
    → ((s : Screen) → act t s ≡ goes_to s.row (to s) s) → IsBack m start.col_min
    → ((s : Screen) → Allows rows cols start s → to (applied e s) ≡ moved m s.col) → Right rows cols start t e (with_col e m)
col_right rows cols start t e m to g acts b h = record {
  good = record { row = g.row; col = b };
  leads = λ s a. acts (applied e s) ∙ ap (λ (c : ℕ). goes_to (applied e s).row c (applied e s)) (h s a);
}

pub row_right : (rows cols : ℕ) (start : Start) (t : Function) (e : Effect) (m : Move) (to : Screen → ℕ) → IsGood start e
    → ((s : Screen) → act t s ≡ goes_to (to s) s.col s) → IsBack m start.row_min
    → ((s : Screen) → Allows rows cols start s → to (applied e s) ≡ moved m s.row) → Right rows cols start t e (with_row e m)
row_right rows cols start t e m to g acts b h = record {
  good = record { row = b; col = g.col };
  leads = λ s a. acts (applied e s) ∙ ap (λ (r : ℕ). goes_to r (applied e s).col (applied e s)) (h s a);
}

pub col_back_right : (rows cols : ℕ) (start : Start) (t : Function) (n : ℕ) (e f : Effect) → IsGood start e
    → ((s : Screen) → act t s ≡ goes_to s.row (s.col - n) s) → spec.col_back start n e ≡ Some f → Right rows cols start t e f
col_back_right rows cols start t n e f g acts h = found_move (with_col e) (back_by n start.col_min start.col_max e.col) f h
    (λ m found k. given (λ w. Right rows cols start t e w) (with_col e m) f k
    (col_right rows cols start t e m (λ s. s.col - n) g acts (back_kept e.col m n start.col_min start.col_max found g.col)
    (λ s a. (back_leads e.col m n start.col_min start.col_max s.col found g.col a.col_from a.col_to).there)))

pub col_forward_right : (rows cols : ℕ) (start : Start) (n : ℕ) (e f : Effect) → IsGood start e → spec.col_forward cols start n e ≡ Some f → Right rows cols start (functions.CursorForward n) e f
col_forward_right rows cols start n e f g h = found_move (with_col e) (forward_by n start.col_min start.col_max (cols - 1) e.col) f h
    (λ m found k. given (λ w. Right rows cols start (functions.CursorForward n) e w) (with_col e m) f k
    (col_right rows cols start (functions.CursorForward n) e m (λ s. min (s.col + n) (s.cols - 1)) g (λ s. refl) (forward_kept e.col m n start.col_min start.col_max (cols - 1) found g.col)
    (λ s a. ap (λ (c : ℕ). min (moved e.col s.col + n) (c - 1)) a.cols ∙ (forward_leads e.col m n start.col_min start.col_max (cols - 1) s.col found g.col a.col_from a.col_to).there)))

-- if the margins are the whole screen, no margin stops a move before the screen's edge does
up_held : (top row n : ℕ) → top ≡ 0 → (if nat_le top row then max top (row - n) else row - n) ≡ row - n
up_held top row n h = grind (arith, nat_tests)

down_held : (bottom rows row n : ℕ) → bottom + 1 ≡ rows → (if nat_le row bottom then min bottom (row + n) else min (rows - 1) (row + n)) ≡ min (row + n) (rows - 1)
down_held bottom rows row n h = grind (arith, nat_tests)

pub whole_here : (rows cols : ℕ) (start : Start) (e : Effect) (s : Screen) → are_whole rows start.margins e.margins ≡ true → Allows rows cols start s → AreWhole (applied e s).top (applied e s).bottom s.rows
whole_here rows cols start e s h a = whole_after e.margins start.margins rows s h a.margins a.rows a.screen

pub row_back_right : (rows cols : ℕ) (start : Start) (n : ℕ) (e f : Effect) → IsGood start e → spec.row_back rows start n e ≡ Some f → Right rows cols start (functions.CursorUp n) e f
row_back_right rows cols start n e f g h = chosen (are_whole rows start.margins e.margins) _ None f h
    (λ w i. found_move (with_row e) (back_by n start.row_min start.row_max e.row) f i
    (λ m found k. given (λ x. Right rows cols start (functions.CursorUp n) e x) (with_row e m) f k
    (row_right rows cols start (functions.CursorUp n) e m (λ s. if nat_le s.top s.row then max s.top (s.row - n) else s.row - n) g (λ s. refl) (back_kept e.row m n start.row_min start.row_max found g.row)
    (λ s a. up_held (applied e s).top (moved e.row s.row) n (whole_here rows cols start e s w a).top ∙ (back_leads e.row m n start.row_min start.row_max s.row found g.row a.row_from a.row_to).there))))
    (λ w i. not_found f i)

pub row_forward_right : (rows cols : ℕ) (start : Start) (n : ℕ) (e f : Effect) → IsGood start e → spec.row_forward rows start n e ≡ Some f → Right rows cols start (functions.CursorDown n) e f
row_forward_right rows cols start n e f g h = chosen (are_whole rows start.margins e.margins) _ None f h
    (λ w i. found_move (with_row e) (forward_by n start.row_min start.row_max (rows - 1) e.row) f i
    (λ m found k. given (λ x. Right rows cols start (functions.CursorDown n) e x) (with_row e m) f k
    (row_right rows cols start (functions.CursorDown n) e m (λ s. if nat_le s.row s.bottom then min s.bottom (s.row + n) else min (s.rows - 1) (s.row + n)) g (λ s. refl) (forward_kept e.row m n start.row_min start.row_max (rows - 1) found g.row)
    (λ s a. down_held (applied e s).bottom s.rows (moved e.row s.row) n (whole_here rows cols start e s w a).bottom
    ∙ ap (λ (c : ℕ). min (moved e.row s.row + n) (c - 1)) a.rows ∙ (forward_leads e.row m n start.row_min start.row_max (rows - 1) s.row found g.row a.row_from a.row_to).there))))
    (λ w i. not_found f i)

-- a move to a place
pub to_col_right : (rows cols : ℕ) (start : Start) (t : Function) (k : ℕ) (e : Effect) (to : Screen → ℕ) → IsGood start e
    → ((s : Screen) → act t s ≡ goes_to s.row (to s) s) → ((s : Screen) → Allows rows cols start s → to (applied e s) ≡ k) → Right rows cols start t e (with_col e (moves.To k))
to_col_right rows cols start t k e to g acts h = col_right rows cols start t e (moves.To k) to g acts tt h

pub column_right : (rows cols : ℕ) (start : Start) (col : ℕ) (e : Effect) → IsGood start e → Right rows cols start (functions.CursorColumn col) e (with_col e (moves.To (min (col - 1) (cols - 1))))
column_right rows cols start col e g = to_col_right rows cols start (functions.CursorColumn col) _ e (λ s. min (col - 1) (s.cols - 1)) g (λ s. refl) (λ s a. ap (λ (c : ℕ). min (col - 1) (c - 1)) a.cols)

pub line_right : (rows cols : ℕ) (start : Start) (row : ℕ) (e : Effect) → IsGood start e → Right rows cols start (functions.CursorRow row) e (with_row e (moves.To (min (row - 1) (rows - 1))))
line_right rows cols start row e g = row_right rows cols start (functions.CursorRow row) e (moves.To (min (row - 1) (rows - 1))) (λ s. min (row - 1) (s.rows - 1)) g (λ s. refl) tt (λ s a. ap (λ (c : ℕ). min (row - 1) (c - 1)) a.rows)

pub position_right : (rows cols : ℕ) (start : Start) (row col : ℕ) (e : Effect) → IsGood start e
    → Right rows cols start (functions.CursorPosition row col) e (with_col (with_row e (moves.To (min (row - 1) (rows - 1)))) (moves.To (min (col - 1) (cols - 1))))
position_right rows cols start row col e g = record {
  good = record { row = tt; col = tt };
  leads = λ s a. ap (λ (r : ℕ). goes_to (min (row - 1) (r - 1)) (min (col - 1) (s.cols - 1)) (applied e s)) a.rows
      ∙ ap (λ (c : ℕ). goes_to (min (row - 1) (rows - 1)) (min (col - 1) (c - 1)) (applied e s)) a.cols;
}

pub tab_right : (rows cols : ℕ) (start : Start) (m : Move) (e f : Effect) → IsGood start e → e.col ≡ m → spec.tabbed cols e m ≡ Some f → Right rows cols start functions.Tab e f
tab_right rows cols start moves.Kept e f g i h = not_found f h
tab_right rows cols start (moves.To k) e f g i h = given (λ w. Right rows cols start functions.Tab e w) _ f h
    (to_col_right rows cols start functions.Tab _ e (λ s. min ((s.col / 8 + 1) * 8) (s.cols - 1)) g (λ s. refl)
    (λ s a. ap (λ (w : Move). min ((moved w s.col / 8 + 1) * 8) (s.cols - 1)) i ∙ ap (λ (c : ℕ). min ((k / 8 + 1) * 8) (c - 1)) a.cols))
tab_right rows cols start (moves.Back k) e f g i h = not_found f h
tab_right rows cols start (moves.Forward k) e f g i h = not_found f h
