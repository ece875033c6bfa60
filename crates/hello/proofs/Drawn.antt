-- The desk after the calls has the greeting.
use Rattle.std.proofs.Common.{◌≡◌, ℕ, ◌+◌, ◌-◌, ◌<◌, ◌≤◌, nat_lt, nat_le, [], List, Bool, true, false, Option, Some, None, Result, Ok, Err, pos, length, zero, suc, get_or, refl, sym, ap, ◌∙◌, subst, arith, if◌then◌else◌}
use Rattle.std.specs.Prelude.{replicate, slice_set}
use Rattle.std.proofs.lemmas.List.{get_or-replicate}
use Rattle.curses.specs.Windows.{Area, Refusal, Span}
use Rattle.curses.specs.Windows.refusals.{OutOfScreen}
use Rattle.curses.specs.Windows.Cells.{Content, space}
use Rattle.curses.specs.Windows.Grids.{blank, cell_at, is_in, line_at}
use Rattle.curses.specs.Windows.Calls.{place}
use Rattle.curses.specs.Windows.Options.{fresh}
use Rattle.curses.specs.Windows.Spans.{area_within, rectangle, span_within}
use Rattle.curses.specs.Windows.Desks.{State, DeskStep, after, new_desk, on_screen, new_slot}
use Rattle.curses.specs.Windows.Slots.{whole_area}
use Rattle.curses.specs.Windows.Creations.{newwin, root_added}
use Rattle.curses.specs.Windows.VirtualScreen.{Screen, new_screen, shown}
use Rattle.curses.specs.Windows.Refreshes.{Refresh, noutrefresh, refresh}
use Rattle.curses.proofs.ByPlace.{copied_by_place}
use Rattle.curses.proofs.Additions.{blank_line}
use Rattle.hello.specs.Calls.{and_then, greeting, written}
use Rattle.hello.specs.Greeting.{IsGreeting, picture, frame}

-- ---- the place of the window
abbrev IsSpan : Span → Option Span → Type 0
IsSpan s None = Unit {0}
IsSpan s (Some t) = t ≡ s

abbrev IsPlace : Result Area Refusal → Type 0
IsPlace (Ok a) = a ≡ frame
IsPlace (Err e) = Unit {0}

span_of : (s : Span) (a b : Bool) → IsSpan s (if a then (if b then Some s else None) else None)
span_of s true true = refl
span_of s true false = tt
span_of s false b = tt

place_of : (v h : Option Span) → IsSpan (record { at = 1; size = 3 }) v → IsSpan (record { at = 4; size = 17 }) h → IsPlace (rectangle v h OutOfScreen)
place_of None h p q = tt
place_of (Some v) None p q = tt
place_of (Some v) (Some h) p q = ap (λ (s : Span). record { top = s.at; left = h.at; rows = s.size; cols = h.size }) p ∙ ap (λ (s : Span). record { top = 1; left = s.at; rows = 3; cols = s.size }) q

lies : (rows cols : ℕ) → IsPlace (area_within rows cols (pos 3) (pos 17) (pos 1) (pos 4) OutOfScreen)
lies rows cols = place_of (span_within (pos 3) (pos 1) rows) (span_within (pos 17) (pos 4) cols) (span_of _ (nat_lt 1 rows) (nat_le 3 (rows - 1))) (span_of _ (nat_lt 4 cols) (nat_le 17 (cols - 4)))

-- ---- the desk when all is drawn
final : ℕ → ℕ → State
final rows cols = record {
  rows = rows;
  cols = cols;
  grids = slice_set (slice_set (replicate 64 []) 0 (blank rows cols)) 1 picture;
  origins = slice_set (replicate 64 (on_screen 0 0 false)) 1 (on_screen 1 4 false);
  windows = slice_set (slice_set (replicate 64 None) 0 (Some (new_slot 0 (whole_area rows cols)))) 1
      (Some (record { root = 1; parent = None; window = record (fresh (whole_area 3 17)) { row = 1; col = 15 } }));
}

made_on : State → Area → DeskStep
made_on d a = (root_added d 1 (blank a.rows a.cols) (on_screen a.top a.left false) (fresh (whole_area a.rows a.cols)), Ok tt)

is_made : (rows cols : ℕ) → newwin (new_desk rows cols) 1 (pos 3) (pos 17) (pos 1) (pos 4) ≡ after (area_within rows cols (pos 3) (pos 17) (pos 1) (pos 4) OutOfScreen) (new_desk rows cols) (made_on (new_desk rows cols))
unfolding made_on
is_made rows cols = refl

ends : (rows cols : ℕ) → written (made_on (new_desk rows cols) frame).0 ≡ (final rows cols, Ok tt)
unfolding made_on final
ends rows cols = refl

no_refusal : (f : Refusal) (a : Result (Unit {0}) Refusal) → Ok tt ≡ a → a ≡ Err f → ⊥
no_refusal f a ok e = absurd cc

all_drawn : (rows cols : ℕ) (d : State) (r : Result Area Refusal) → IsPlace r → (d, Ok tt) ≡ and_then (after r (new_desk rows cols) (made_on (new_desk rows cols))) written → d ≡ final rows cols
unfolding made_on
all_drawn rows cols d (Ok a) p e = ap (λ (x : DeskStep). x.0) (e ∙ ap (λ (b : Area). written (made_on (new_desk rows cols) b).0) p ∙ ends rows cols)
all_drawn rows cols d (Err f) p e = absurd (no_refusal f (Err f) (ap (λ (x : DeskStep). x.1) e) refl)

drawn : (rows cols : ℕ) (d : State) → (d, Ok tt) ≡ greeting (new_desk rows cols) → d ≡ final rows cols
drawn rows cols d e = all_drawn rows cols d (area_within rows cols (pos 3) (pos 17) (pos 1) (pos 4) OutOfScreen) (lies rows cols) (e ∙ ap (λ (x : DeskStep). and_then x written) (is_made rows cols))

-- ---- the screen that it was copied to
greeted : ℕ → ℕ → Screen
greeted rows cols = shown frame picture (place 0 0) (Some (place 2 19)) false (new_screen rows cols)

copied_so : (rows cols : ℕ) → (noutrefresh (final rows cols) (new_screen rows cols) 1).1 ≡ greeted rows cols
unfolding final greeted
copied_so rows cols = refl

picture_fits : (i : ℕ) → i < 3 → 0 + 17 ≤ length (line_at picture i)
picture_fits zero lt = omega arith
picture_fits (suc zero) lt = omega arith
picture_fits (suc (suc zero)) lt = omega arith
picture_fits (suc (suc (suc i))) lt = absurd (omega arith)

blank_cell : (rows cols i j : ℕ) → i < rows → j < cols → cell_at (blank rows cols) i j ≡ space
blank_cell rows cols i j lt lt2 = ap (λ (l : List Content). get_or l j space) (get_or-replicate rows i (replicate cols space) [] lt) ∙ get_or-replicate cols j space space lt2

same_if : (b : Bool) (p q k m : ℕ) (c : Content) → k ≡ p → m ≡ q → c ≡ space → (if b then cell_at picture k m else c) ≡ (if b then cell_at picture p q else space)
same_if true p q k m c e f h = ap (λ (x : ℕ). cell_at picture x m) e ∙ ap (λ (x : ℕ). cell_at picture p x) f
same_if false p q k m c e f h = h

screen_so : (rows cols : ℕ) → IsGreeting rows cols (greeted rows cols)
unfolding greeted
screen_so rows cols = record {
  rows_same = refl;
  cols_same = refl;
  cells = λ i j lt lt2. copied_by_place frame (place 0 0) picture (blank rows cols) i j (record { rows = omega arith; cols = picture_fits }) (let e = blank_line rows cols i lt in omega arith)
      ∙ same_if (is_in frame i j) (i - 1) (j - 4) (0 + (i - 1)) (0 + (j - 4)) (cell_at (blank rows cols) i j) (omega arith) (omega arith) (blank_cell rows cols i j lt lt2);
  cursor = refl;
  clearok = refl;
  pairs = refl;
}

pub is_greeting : (rows cols : ℕ) (d e : State) (v : Screen) → (d, Ok tt) ≡ greeting (new_desk rows cols) → refresh e v (Ok tt) ≡ noutrefresh d (new_screen rows cols) 1 → IsGreeting rows cols v
is_greeting rows cols d e v drew copied =
    subst (IsGreeting rows cols) (sym (ap (λ (x : Refresh). x.1) copied ∙ ap (λ (x : State). (noutrefresh x (new_screen rows cols) 1).1) (drawn rows cols d drew) ∙ copied_so rows cols)) (screen_so rows cols)

pub greeting_shown : (rows cols : ℕ) (c d e : State) (u v : Screen) → c ≡ new_desk rows cols → u ≡ new_screen rows cols → (d, Ok tt) ≡ greeting c → refresh e v (Ok tt) ≡ noutrefresh d u 1 → IsGreeting rows cols v
greeting_shown rows cols c d e u v first blank drew copied =
    is_greeting rows cols d e v (drew ∙ ap greeting first) (copied ∙ ap (λ (x : Screen). noutrefresh d x 1) blank)
