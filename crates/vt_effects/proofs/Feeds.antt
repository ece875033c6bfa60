-- Lines moved down and up.
use Rattle.std.proofs.Common.{◌≡◌, ℕ, ◌+◌, ◌-◌, ◌<◌, ◌≤◌, ◌==◌, ◌&&◌, nat_le, nat_lt, if◌then◌else◌, Bool, true, false, Option, Some, None, refl, sym, ap, ◌∙◌, arith}
use Rattle.std.proofs.lemmas.Bool.{and_parts, eqb-true, leb-true, ltb-true, lt-ltb, ne_eqb, eq-eqb}
use Rattle.vt_term.specs.Look.{Look, blank}
use Rattle.vt_term.specs.Grid.{Grid, scrolled_up, scrolled_down}
use Rattle.vt_term.specs.Screen.{Screen, IsScreen}
use Rattle.vt_term.specs.Step.{goes_to, line_feed, reverse_index}
use Rattle.vt_term.specs.Function as functions
use Rattle.vt_term.specs.Function.{Function}
use Rattle.vt_effects.specs.declared.effects.Move.{Move}
use Rattle.vt_effects.specs.declared.effects.Move.TheVariants as moves
use Rattle.vt_effects.specs.declared.effects.Scroll.{Scroll}
use Rattle.vt_effects.specs.declared.effects.Scroll.TheVariants as scrolls
use Rattle.vt_effects.specs.declared.effects.Region.{Region}
use Rattle.vt_effects.specs.declared.effects.Effect.{Effect}
use Rattle.vt_effects.specs.declared.starts.Start.{Start}
use Rattle.vt_effects.specs.declared.starts.Margins.{Margins}
use Rattle.vt_effects.specs.declared.starts.Margins.TheVariants as margins
use Rattle.vt_effects.specs.Effect.{moved, erased, scrolled, top_of, bottom_of, applied}
use Rattle.vt_effects.specs.Start.{Allows, HasMargins}
use Rattle.vt_effects.specs.Record as spec
use Rattle.vt_effects.specs.Record.{is_kept, keeps_margins, erases_nothing, is_still, with_col, with_row, knows_whole, are_whole, on_bottom, on_top, keeps_background, may_scroll, scrolling, and_back, and_forward}
use Rattle.vt_effects.proofs.MoveFacts.{chosen, given, not_found, one_back, one_forward, moved_in_order}
use Rattle.vt_effects.proofs.Extensions.{IsGood, Right, kept_is, margins_are, still_is, same_blank, AreWhole, known_whole, whole_here}

-- the conditions under which a region may scroll
pub record Scrolls (e : Effect) : Type 0 where
  pub row : e.row ≡ moves.Kept
  pub margins : e.margins ≡ None
  pub still : e.scroll ≡ scrolls.Still
  pub background : keeps_background e ≡ true

may_scroll_is : (e : Effect) → may_scroll e ≡ true → Scrolls e
may_scroll_is e h =
    let outer = and_parts (is_kept e.row && keeps_margins e.margins) ((erases_nothing e.erasure && is_still e.scroll) && keeps_background e) h in
    let place = and_parts (is_kept e.row) (keeps_margins e.margins) outer.0 in
    let cells = and_parts (erases_nothing e.erasure && is_still e.scroll) (keeps_background e) outer.1 in
    let quiet = and_parts (erases_nothing e.erasure) (is_still e.scroll) cells.0 in
    record { row = kept_is e.row place.0; margins = margins_are e.margins place.1; still = still_is e.scroll quiet.1; background = cells.1 }

line_feed_moves : (s : Screen) → (s.row == s.bottom) ≡ false → nat_lt (s.row + 1) s.rows ≡ true → line_feed s ≡ goes_to (s.row + 1) s.col s
line_feed_moves s h k = rw (h, k) refl

line_feed_scrolls : (s : Screen) → (s.row == s.bottom) ≡ true → line_feed s ≡ record s { grid = scrolled_up s.top s.bottom 1 (blank s.rendition) s.grid; pending = false }
line_feed_scrolls s h = rw h refl

reverse_moves : (s : Screen) → (s.row == s.top) ≡ false → reverse_index s ≡ goes_to (s.row - 1) s.col s
reverse_moves s h = rw h refl

reverse_scrolls : (s : Screen) → (s.row == s.top) ≡ true → reverse_index s ≡ record s { grid = scrolled_down s.top s.bottom 1 (blank s.rendition) s.grid; pending = false }
reverse_scrolls s h = rw h refl

-- the cells of a scrolled region
grid_scrolls : (scroll : ℕ → ℕ → ℕ → Look → Grid → Grid) (e : Effect) (s : Screen) → Scrolls e
    → scroll (applied e s).top (applied e s).bottom 1 (blank (applied e s).rendition) (applied e s).grid ≡ scroll s.top s.bottom 1 (blank s.rendition) (erased e.erasure s.row s.col (blank s.rendition) s.grid)
grid_scrolls scroll e s h =
    ap (λ (m : Option Region). scroll (top_of m s.top) (bottom_of m s.bottom) 1 (blank (applied e s).rendition) (applied e s).grid) h.margins
    ∙ ap (λ (x : Look). scroll s.top s.bottom 1 x (applied e s).grid) (same_blank e s h.background)
    ∙ ap (λ (w : Scroll). scroll s.top s.bottom 1 (blank s.rendition) (scrolled w s.top s.bottom (blank s.rendition) (erased e.erasure s.row s.col (blank s.rendition) s.grid))) h.still

-- an effect that keeps the cursor and the margins
row_stays : (e : Effect) (s : Screen) → Scrolls e → (applied e s).row ≡ s.row
row_stays e s h = ap (λ (m : Move). moved m s.row) h.row

top_stays : (e : Effect) (s : Screen) → Scrolls e → (applied e s).top ≡ s.top
top_stays e s h = ap (λ (m : Option Region). top_of m s.top) h.margins

bottom_stays : (e : Effect) (s : Screen) → Scrolls e → (applied e s).bottom ≡ s.bottom
bottom_stays e s h = ap (λ (m : Option Region). bottom_of m s.bottom) h.margins

-- starts on a margin
whole_bottom : (m : Margins) (rows row_min : ℕ) (s : Screen) → (knows_whole rows m && nat_le rows (row_min + 1)) ≡ true → HasMargins m s → s.rows ≡ rows → IsScreen s → row_min ≤ s.row → s.row ≡ s.bottom
whole_bottom m rows row_min s h k e v le =
    let both = and_parts (knows_whole rows m) (nat_le rows (row_min + 1)) h in
    let whole : AreWhole s.top s.bottom s.rows = known_whole m rows s both.0 k e v in
    omega (arith, whole.bottom, e, v.row, le, leb-true rows (row_min + 1) both.1)

is_on_bottom : (m : Margins) (rows row_min : ℕ) (s : Screen) → on_bottom rows row_min m ≡ true → HasMargins m s → s.rows ≡ rows → IsScreen s → row_min ≤ s.row → s.row ≡ s.bottom
is_on_bottom margins.Whole rows row_min s h k e v le = whole_bottom margins.Whole rows row_min s h k e v le
is_on_bottom margins.Legal rows row_min s h k e v le = whole_bottom margins.Legal rows row_min s h k e v le
is_on_bottom margins.OnBottom rows row_min s h k e v le = k
is_on_bottom margins.OnTop rows row_min s h k e v le = whole_bottom margins.OnTop rows row_min s h k e v le

whole_top : (m : Margins) (rows row_max : ℕ) (s : Screen) → (knows_whole rows m && (row_max == 0)) ≡ true → HasMargins m s → s.rows ≡ rows → IsScreen s → s.row ≤ row_max → s.row ≡ s.top
whole_top m rows row_max s h k e v le =
    let both = and_parts (knows_whole rows m) (row_max == 0) h in
    let whole : AreWhole s.top s.bottom s.rows = known_whole m rows s both.0 k e v in
    omega (arith, whole.top, le, eqb-true row_max 0 both.1)

is_on_top : (m : Margins) (rows row_max : ℕ) (s : Screen) → on_top rows row_max m ≡ true → HasMargins m s → s.rows ≡ rows → IsScreen s → s.row ≤ row_max → s.row ≡ s.top
is_on_top margins.Whole rows row_max s h k e v le = whole_top margins.Whole rows row_max s h k e v le
is_on_top margins.Legal rows row_max s h k e v le = whole_top margins.Legal rows row_max s h k e v le
is_on_top margins.OnBottom rows row_max s h k e v le = whole_top margins.OnBottom rows row_max s h k e v le
is_on_top margins.OnTop rows row_max s h k e v le = k

-- one line down from every start, or a scroll from every start
fed_moves : (rows cols : ℕ) (start : Start) (e : Effect) (s : Screen) → IsGood start e → are_whole rows start.margins e.margins ≡ true → nat_lt (moved e.row start.row_max + 1) rows ≡ true → Allows rows cols start s
    → line_feed (applied e s) ≡ applied (with_row e (and_forward e.row 1)) s
fed_moves rows cols start e s g w h a =
    let whole : AreWhole (applied e s).top (applied e s).bottom s.rows = whole_here rows cols start e s w a in
    let room : moved e.row start.row_max + 1 < rows = ltb-true (moved e.row start.row_max + 1) rows h in
    let order : moved e.row s.row ≤ moved e.row start.row_max = moved_in_order e.row s.row start.row_max a.row_to in
    line_feed_moves (applied e s) (ne_eqb (moved e.row s.row) (applied e s).bottom (λ q. omega (arith, q, whole.bottom, room, order, a.rows)))
    (lt-ltb (moved e.row s.row + 1) s.rows (omega (arith, room, order, a.rows)))
    ∙ ap (λ (r : ℕ). goes_to r (applied e s).col (applied e s)) (one_forward e.row 1 start.row_min s.row g.row a.row_from).there

fed_scrolls : (e : Effect) (s : Screen) → Scrolls e → s.row ≡ s.bottom → line_feed (applied e s) ≡ applied (scrolling scrolls.Up e) s
fed_scrolls e s h there =
    line_feed_scrolls (applied e s) (eq-eqb (applied e s).row (applied e s).bottom (row_stays e s h ∙ there ∙ sym (bottom_stays e s h)))
    ∙ ap (λ (g : Grid). record (applied e s) { grid = g; pending = false }) (grid_scrolls scrolled_up e s h)

-- a line on without a scroll, if two tests say so, or with one, if two others do
line_right : (rows cols : ℕ) (start : Start) (act : Function) (e f moves scrolls : Effect) (a b c d : Bool)
    → (if a && b then Some moves else (if c && d then Some scrolls else None)) ≡ Some f → (a ≡ true → b ≡ true → Right rows cols start act e moves) → (c ≡ true → d ≡ true → Right rows cols start act e scrolls)
    → Right rows cols start act e f
line_right rows cols start act e f moves scrolls a b c d h p q = chosen (a && b) (Some moves) _ f h
    (λ i k. given (λ w. Right rows cols start act e w) _ f k (let both = and_parts a b i in p both.0 both.1))
    (λ i k. chosen (c && d) (Some scrolls) None f k
    (λ j l. given (λ w. Right rows cols start act e w) _ f l (let both = and_parts c d j in q both.0 both.1))
    (λ j l. not_found f l))

pub fed_right : (rows cols : ℕ) (start : Start) (e f : Effect) → IsGood start e → spec.line_fed rows start e ≡ Some f → Right rows cols start functions.LineFeed e f
fed_right rows cols start e f g h = line_right rows cols start functions.LineFeed e f (with_row e (and_forward e.row 1)) (scrolling scrolls.Up e) _ _ _ _ h
    (λ w b. record { good = record { row = (one_forward e.row 1 start.row_min start.row_min g.row (omega arith)).back; col = g.col }; leads = λ s a. fed_moves rows cols start e s g w b a })
    (λ b m. record { good = record { row = g.row; col = g.col }; leads = λ s a. fed_scrolls e s (may_scroll_is e m) (is_on_bottom start.margins rows start.row_min s b a.margins a.rows a.screen a.row_from) })

-- NEL is LF from the first column
pub next_right : (rows cols : ℕ) (start : Start) (e f : Effect) → IsGood start e → spec.line_fed rows start (with_col e (moves.To 0)) ≡ Some f → Right rows cols start functions.NextLine e f
next_right rows cols start e f g h =
    let fed : Right rows cols start functions.LineFeed (with_col e (moves.To 0)) f = fed_right rows cols start (with_col e (moves.To 0)) f (record { row = g.row; col = tt }) h in
    record { good = fed.good; leads = λ s a. fed.leads s a }

reversed_moves : (rows cols : ℕ) (start : Start) (e : Effect) (s : Screen) → IsGood start e → are_whole rows start.margins e.margins ≡ true → nat_le 1 (moved e.row start.row_min) ≡ true → Allows rows cols start s
    → reverse_index (applied e s) ≡ applied (with_row e (and_back e.row 1)) s
reversed_moves rows cols start e s g w h a =
    let whole : AreWhole (applied e s).top (applied e s).bottom s.rows = whole_here rows cols start e s w a in
    let room : 1 ≤ moved e.row start.row_min = leb-true 1 (moved e.row start.row_min) h in
    let order : moved e.row start.row_min ≤ moved e.row s.row = moved_in_order e.row start.row_min s.row a.row_from in
    reverse_moves (applied e s) (ne_eqb (moved e.row s.row) (applied e s).top (λ q. omega (arith, q, whole.top, room, order)))
    ∙ ap (λ (r : ℕ). goes_to r (applied e s).col (applied e s)) (one_back e.row 1 start.row_min s.row g.row a.row_from h).there

reversed_scrolls : (e : Effect) (s : Screen) → Scrolls e → s.row ≡ s.top → reverse_index (applied e s) ≡ applied (scrolling scrolls.Down e) s
reversed_scrolls e s h there =
    reverse_scrolls (applied e s) (eq-eqb (applied e s).row (applied e s).top (row_stays e s h ∙ there ∙ sym (top_stays e s h)))
    ∙ ap (λ (g : Grid). record (applied e s) { grid = g; pending = false }) (grid_scrolls scrolled_down e s h)

pub reversed_right : (rows cols : ℕ) (start : Start) (e f : Effect) → IsGood start e → spec.line_reversed rows start e ≡ Some f → Right rows cols start functions.ReverseIndex e f
reversed_right rows cols start e f g h = line_right rows cols start functions.ReverseIndex e f (with_row e (and_back e.row 1)) (scrolling scrolls.Down e) _ _ _ _ h
    (λ w b. record { good = record { row = (one_back e.row 1 start.row_min start.row_min g.row (omega arith) b).back; col = g.col }; leads = λ s a. reversed_moves rows cols start e s g w b a })
    (λ b m. record { good = record { row = g.row; col = g.col }; leads = λ s a. reversed_scrolls e s (may_scroll_is e m) (is_on_top start.margins rows start.row_max s b a.margins a.rows a.screen a.row_to) })
