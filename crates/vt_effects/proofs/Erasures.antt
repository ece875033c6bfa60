-- Cells erased around the cursor, or all of them.
use Rattle.std.proofs.Common.{◌≡◌, ℕ, ◌+◌, ◌<◌, ◌≤◌, ◌==◌, ◌&&◌, ◌||◌, nat_le, nat_lt, min, Bool, true, length, Some, None, refl, sym, ap, ◌∙◌, arith}
use Rattle.std.proofs.Math.Path.{fun_ext}
use Rattle.std.proofs.lemmas.Bool.{and_parts}
use Rattle.std.proofs.lemmas.Bool.Decides.{nat_tests}
use Rattle.vt_term.specs.Look.{Look, blank}
use Rattle.vt_term.specs.Grid.{Grid, line_at}
use Rattle.vt_term.specs.Screen.{Screen}
use Rattle.vt_term.specs.Step.{act}
use Rattle.vt_term.specs.Function as functions
use Rattle.vt_term.specs.Function.{Function, EraseExtent}
use Rattle.vt_effects.specs.declared.effects.Move.{Move}
use Rattle.vt_effects.specs.declared.effects.Move.TheVariants as moves
use Rattle.vt_effects.specs.declared.effects.Erasure.{Erasure}
use Rattle.vt_effects.specs.declared.effects.Erasure.TheVariants as erasures
use Rattle.vt_effects.specs.declared.effects.Scroll.{Scroll}
use Rattle.vt_effects.specs.declared.effects.Scroll.TheVariants as scrolls
use Rattle.vt_effects.specs.declared.effects.Effect.{Effect}
use Rattle.vt_effects.specs.declared.starts.Start.{Start}
use Rattle.vt_effects.specs.Effect.{moved, blanked, erased, scrolled, applied}
use Rattle.vt_effects.specs.Start.{Allows}
use Rattle.vt_effects.specs.Record as spec
use Rattle.vt_effects.specs.Record.{is_kept, is_first, erases_nothing, erases_screen, is_still, keeps_background, is_unmoved}
use Rattle.vt_effects.proofs.MoveFacts.{chosen, given, not_found}
use Rattle.vt_effects.proofs.Cells.{blanked_again, erased_before, scrolled_before, next_held}
use Rattle.vt_effects.proofs.Extensions.{IsGood, Right, kept_is, first_is, still_is, screen_is, nothing_is, same_blank}

-- the places that become blank, given the cursor
abbrev pub Places : Type 0
Places = ℕ → ℕ → ℕ → ℕ → Bool

abbrev pub Blanks : Function → Places → Type 0
Blanks t places = (s : Screen) → act t s ≡ record s { grid = blanked (places s.row s.col) (blank s.rendition) s.grid }

-- on the screens of a start, these places are those of the erasure
abbrev pub TakesIn : ℕ → ℕ → Start → Places → Erasure → Type 0
TakesIn rows cols start places x = (s : Screen) (y : Look) → Allows rows cols start s → blanked (places s.row s.col) y s.grid ≡ erased x s.row s.col y s.grid

-- the cells after an effect that doesn't scroll
pub still_grid : (e : Effect) (s : Screen) → e.scroll ≡ scrolls.Still → (applied e s).grid ≡ erased e.erasure s.row s.col (blank s.rendition) s.grid
still_grid e s h = ap (λ (w : Scroll). scrolled w s.top s.bottom (blank s.rendition) (erased e.erasure s.row s.col (blank s.rendition) s.grid)) h

-- if all cells are blank, they stay so
pub again : (places : Places) (e : Effect) (s : Screen) → e.scroll ≡ scrolls.Still → e.erasure ≡ erasures.Screen → keeps_background e ≡ true
    → blanked (places (applied e s).row (applied e s).col) (blank (applied e s).rendition) (applied e s).grid ≡ (applied e s).grid
again places e s h k b =
    let all : (applied e s).grid ≡ blanked (λ i j. true) (blank s.rendition) s.grid = still_grid e s h ∙ ap (λ (x : Erasure). erased x s.row s.col (blank s.rendition) s.grid) k in
    ap (λ (y : Look). blanked (places (applied e s).row (applied e s).col) y (applied e s).grid) (same_blank e s b)
    ∙ ap (λ (g : Grid). blanked (places (applied e s).row (applied e s).col) (blank s.rendition) g) all
    ∙ blanked_again (places (applied e s).row (applied e s).col) (blank s.rendition) s.grid ∙ sym all

-- the first erasure, with the cursor unmoved
pub first : (places : Places) (x : Erasure) (e : Effect) (s : Screen) → e.scroll ≡ scrolls.Still → e.erasure ≡ erasures.Nothing → e.row ≡ moves.Kept → e.col ≡ moves.Kept → keeps_background e ≡ true
    → blanked (places s.row s.col) (blank s.rendition) s.grid ≡ erased x s.row s.col (blank s.rendition) s.grid
    → blanked (places (applied e s).row (applied e s).col) (blank (applied e s).rendition) (applied e s).grid ≡ scrolled e.scroll s.top s.bottom (blank s.rendition) (erased x s.row s.col (blank s.rendition) s.grid)
first places x e s h k r c b takes =
    let none : (applied e s).grid ≡ s.grid = still_grid e s h ∙ ap (λ (y : Erasure). erased y s.row s.col (blank s.rendition) s.grid) k in
    ap (λ (y : Look). blanked (places (applied e s).row (applied e s).col) y (applied e s).grid) (same_blank e s b)
    ∙ ap (λ (g : Grid). blanked (places (applied e s).row (applied e s).col) (blank s.rendition) g) none
    ∙ ap (λ (m : Move). blanked (places (moved m s.row) (applied e s).col) (blank s.rendition) s.grid) r
    ∙ ap (λ (m : Move). blanked (places s.row (moved m s.col)) (blank s.rendition) s.grid) c
    ∙ takes ∙ sym (ap (λ (w : Scroll). scrolled w s.top s.bottom (blank s.rendition) (erased x s.row s.col (blank s.rendition) s.grid)) h)

pub cells_right : (rows cols : ℕ) (start : Start) (t : Function) (places : Places) (x : Erasure) (e f : Effect) → IsGood start e → Blanks t places → TakesIn rows cols start places x
    → spec.cells_erased x e ≡ Some f → Right rows cols start t e f
cells_right rows cols start t places x e f g blanks takes h = chosen (keeps_background e && is_still e.scroll) _ None f h
    (λ b k.
    let both = and_parts (keeps_background e) (is_still e.scroll) b in
    let still : e.scroll ≡ scrolls.Still = still_is e.scroll both.1 in
    chosen (erases_screen e.erasure) (Some e) _ f k
    (λ c i. given (λ w. Right rows cols start t e w) e f i (record {
      good = g;
      leads = λ s a. blanks (applied e s) ∙ ap (λ (z : Grid). record (applied e s) { grid = z }) (again places e s still (screen_is e.erasure c) both.0);
    }))
    (λ c i. chosen (is_unmoved e && erases_nothing e.erasure) (Some (record e { erasure = x })) None f i
    (λ d j.
    let unmoved = and_parts (is_unmoved e) (erases_nothing e.erasure) d in
    let place = and_parts (is_kept e.row) (is_kept e.col) unmoved.0 in
    given (λ w. Right rows cols start t e w) (record e { erasure = x }) f j (record {
      good = record { row = g.row; col = g.col };
      leads = λ s a. blanks (applied e s) ∙ ap (λ (z : Grid). record (applied e s) { grid = z })
          (first places x e s still (nothing_is e.erasure unmoved.1) (kept_is e.row place.0) (kept_is e.col place.1) both.0 (takes s (blank s.rendition) a));
    }))
    (λ d j. not_found f j)))
    (λ b k. not_found f k)

-- everything is erased, whatever happened before
pub screen_grid : (e : Effect) (s : Screen) → keeps_background e ≡ true → blanked (λ i j. true) (blank (applied e s).rendition) (applied e s).grid ≡ blanked (λ i j. true) (blank s.rendition) s.grid
screen_grid e s b =
    ap (λ (y : Look). blanked (λ i j. true) y (applied e s).grid) (same_blank e s b)
    ∙ scrolled_before e.scroll s.top s.bottom (blank s.rendition) (erased e.erasure s.row s.col (blank s.rendition) s.grid)
    ∙ erased_before e.erasure s.row s.col (blank s.rendition) s.grid

pub screen_right : (rows cols : ℕ) (start : Start) (t : Function) (e f : Effect) → IsGood start e
    → ((s : Screen) → Allows rows cols start s → act t (applied e s) ≡ record (applied e s) { grid = blanked (λ i j. true) (blank (applied e s).rendition) (applied e s).grid })
    → spec.screen_erased e ≡ Some f → Right rows cols start t e f
screen_right rows cols start t e f g acts h = chosen (keeps_background e) (Some (record e { erasure = erasures.Screen; scroll = scrolls.Still })) None f h
    (λ b k. given (λ w. Right rows cols start t e w) _ f k (record {
      good = record { row = g.row; col = g.col };
      leads = λ s a. acts s a ∙ ap (λ (z : Grid). record (applied e s) { grid = z }) (screen_grid e s b);
    }))
    (λ b k. not_found f k)

-- everything is from the first place to the end
from_first : (row col i j : ℕ) → row ≡ 0 → col ≡ 0 → (nat_lt row i || ((i == row) && nat_le col j)) ≡ true
from_first row col i j h k = grind (arith, nat_tests)

pub all_of_it : (row col : ℕ) (x : Look) (g : Grid) → row ≡ 0 → col ≡ 0 → blanked (λ i j. nat_lt row i || ((i == row) && nat_le col j)) x g ≡ blanked (λ i j. true) x g
all_of_it row col x g h k = ap (λ (chosen : ℕ → ℕ → Bool). blanked chosen x g) (fun_ext (λ i. fun_ext (λ j. from_first row col i j h k)))

pub rest_right : (rows cols : ℕ) (start : Start) (e f : Effect) → IsGood start e → spec.display_erased functions.ToEnd e ≡ Some f → Right rows cols start (functions.EraseDisplay functions.ToEnd) e f
rest_right rows cols start e f g h = chosen (is_first e.row && is_first e.col) (spec.screen_erased e) _ f h
    (λ b k.
    let both = and_parts (is_first e.row) (is_first e.col) b in
    screen_right rows cols start (functions.EraseDisplay functions.ToEnd) e f g
    (λ s a. ap (λ (z : Grid). record (applied e s) { grid = z }) (all_of_it (moved e.row s.row) (moved e.col s.col) (blank (applied e s).rendition) (applied e s).grid (first_is e.row s.row both.0) (first_is e.col s.col both.1))) k)
    (λ b k. cells_right rows cols start (functions.EraseDisplay functions.ToEnd) (λ r c i j. nat_lt r i || ((i == r) && nat_le c j)) erasures.Rest e f g (λ s. refl) (λ s y a. refl) k)

-- no line of a screen has more cells than the screen has columns
lines_within : (rows cols : ℕ) (start : Start) (s : Screen) → Allows rows cols start s → (k : ℕ) → k < length s.grid → length (line_at s.grid k) ≤ cols
lines_within rows cols start s a k lt = omega (arith, a.screen.columns k (omega (arith, lt, a.screen.lines)), a.cols)

pub count_right : (rows cols : ℕ) (start : Start) (n : ℕ) (e f : Effect) → IsGood start e → spec.cells_erased (erasures.Next (min n cols)) e ≡ Some f → Right rows cols start (functions.EraseCells n) e f
count_right rows cols start n e f g h = cells_right rows cols start (functions.EraseCells n) (λ r c i j. (i == r) && (nat_le c j && nat_lt j (c + n))) (erasures.Next (min n cols)) e f g
    (λ s. refl) (λ s y a. next_held s.row s.col n cols y s.grid (lines_within rows cols start s a)) h

pub line_part_right : (rows cols : ℕ) (start : Start) (part : EraseExtent) (e f : Effect) → IsGood start e → spec.line_erased part e ≡ Some f → Right rows cols start (functions.EraseLine part) e f
line_part_right rows cols start functions.ToEnd e f g h = cells_right rows cols start (functions.EraseLine functions.ToEnd) (λ r c i j. (i == r) && nat_le c j) erasures.Tail e f g (λ s. refl) (λ s y a. refl) h
line_part_right rows cols start functions.FromStart e f g h = cells_right rows cols start (functions.EraseLine functions.FromStart) (λ r c i j. (i == r) && nat_le j c) erasures.Head e f g (λ s. refl) (λ s y a. refl) h
line_part_right rows cols start functions.Whole e f g h = not_found f h

pub display_part_right : (rows cols : ℕ) (start : Start) (part : EraseExtent) (e f : Effect) → IsGood start e → spec.display_erased part e ≡ Some f → Right rows cols start (functions.EraseDisplay part) e f
display_part_right rows cols start functions.ToEnd e f g h = rest_right rows cols start e f g h
display_part_right rows cols start functions.FromStart e f g h = not_found f h
display_part_right rows cols start functions.Whole e f g h = screen_right rows cols start (functions.EraseDisplay functions.Whole) e f g (λ s a. refl) h
