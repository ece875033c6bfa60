-- The refusals of each call, in the order of ranks. No condition depends on another one.
use Rattle.std.specs.Prelude.{ℕ, ◌==◌, ◌&&◌, ◌||◌, nat_le, nat_lt, not, is_some, is_ok, List, [], ◌∷◌, Bool, false}
use Rattle.std.specs.Prelude.{Option, Some, None, ℤ, int_lt, pos, ◌-ℤ◌}
use Rattle.cur_drawing.specs.declared.puts.Put.{Put}
use Rattle.cur_drawing.specs.declared.puts.Border.{Border}
use Rattle.cur_drawing.specs.declared.refusals.Refusal.TheVariants.{NoWindow, OutOfWindow, OutOfScreen, HasChildren}
use Rattle.cur_drawing.specs.declared.refusals.Refusal.TheVariants.{IsSub, PadKind, NoScroll, BadRegion, NumberUsed}
use Rattle.cur_drawing.specs.declared.refusals.Refusal.TheVariants.{BadCell, Full, IsScreen, BadPair}
use Rattle.cur_drawing.specs.Calls.{canvas, character}
use Rattle.cur_drawing.specs.Refusals.{Condition}
use Rattle.cur_drawing.specs.Spans.{span_within, is_negative, start_within}
use Rattle.cur_drawing.specs.Cells.{pair_count}
use Rattle.cur_drawing.specs.Windows.{place_below, is_printed, is_pair}
use Rattle.cur_screens.specs.declared.slots.Slot.{Slot}
use Rattle.cur_drawing.specs.Spans.{matched}
use Rattle.cur_windows.specs.Desks.{State, last_number, window_at, grid_at, origin_at}
use Rattle.cur_windows.specs.Creations.{is_some_slot, has_child, corner}

-- a number past the last one
abbrev pub is_past_last : ℕ → Bool
is_past_last n = nat_lt last_number n

abbrev pub is_used : State → ℕ → Bool
is_used d n = is_some_slot (window_at d n)

abbrev pub slot_is : (Slot → Bool) → Option Slot → Bool
slot_is test (Some s) = test s
slot_is test None = false

-- the number names a window, and the test holds of it
abbrev pub window_is : State → ℕ → (Slot → Bool) → Bool
window_is d n test = slot_is test (window_at d n)

abbrev pub slots_are : (Slot → Slot → Bool) → Option Slot → Option Slot → Bool
slots_are test (Some s) (Some t) = test s t
slots_are test (Some s) None = false
slots_are test None t = false

abbrev pub is_pad : State → Slot → Bool
is_pad d s = (origin_at d s.root).pad

-- a size at a place isn't within this height and width
abbrev pub lies_outside : ℕ → ℕ → ℤ → ℤ → ℤ → ℤ → Bool
lies_outside height width lines cols y x =
    not (is_some (span_within lines y height) && is_some (span_within cols x width))

-- a window's size at a place isn't on the screen
abbrev pub moves_outside : State → ℤ → ℤ → Slot → Bool
moves_outside d y x s =
    not (is_some (start_within y s.window.area.rows d.rows) && is_some (start_within x s.window.area.cols d.cols))

abbrev pub newwin : State → ℕ → ℤ → ℤ → ℤ → ℤ → List Condition
newwin d n lines cols y x =
    (Full, is_past_last n) ∷ (NumberUsed, is_used d n) ∷ (BadRegion, is_negative lines || is_negative cols)
    ∷ (OutOfScreen, lies_outside d.rows d.cols lines cols y x) ∷ []

abbrev pub derwin : State → ℕ → ℕ → ℤ → ℤ → ℤ → ℤ → List Condition
derwin d n w lines cols y x =
    (Full, is_past_last n || is_past_last w) ∷ (NumberUsed, is_used d n) ∷ (NoWindow, not (is_used d w))
    ∷ (PadKind, window_is d w (is_pad d))
    ∷ (BadRegion, is_negative lines || is_negative cols)
    ∷ (OutOfWindow, window_is d w (λ s. lies_outside s.window.area.rows s.window.area.cols lines cols y x)) ∷ []

abbrev pub subwin : State → ℕ → ℕ → ℤ → ℤ → ℤ → ℤ → List Condition
subwin d n w lines cols y x =
    (Full, is_past_last n || is_past_last w) ∷ (NumberUsed, is_used d n) ∷ (NoWindow, not (is_used d w))
    ∷ (PadKind, window_is d w (is_pad d))
    ∷ (BadRegion, is_negative lines || is_negative cols)
    ∷ (
      OutOfWindow,
      window_is d w (λ s. lies_outside s.window.area.rows s.window.area.cols lines cols (y -ℤ pos
          (corner d s).0) (x -ℤ pos (corner d s).1)),
    ) ∷ []

-- lack of memory comes after these
abbrev pub dupwin : State → ℕ → ℕ → List Condition
dupwin d n w = (Full, is_past_last n || is_past_last w) ∷ (NumberUsed, is_used d n) ∷ (NoWindow, not (is_used d w)) ∷ []

abbrev pub delwin : State → ℕ → List Condition
delwin d n =
    (Full, is_past_last n) ∷ (NoWindow, not (is_used d n)) ∷ (IsScreen, n == 0)
    ∷ (HasChildren, has_child n 0 d.windows) ∷ []

abbrev pub mvwin : State → ℕ → ℤ → ℤ → List Condition
mvwin d n y x =
    (Full, is_past_last n) ∷ (NoWindow, not (is_used d n)) ∷ (PadKind, window_is d n (is_pad d))
    ∷ (IsSub, window_is d n (λ s. is_some s.parent))
    ∷ (OutOfScreen, window_is d n (moves_outside d y x)) ∷ []

-- the conditions of overlay and overwrite
abbrev pub overlay : State → ℕ → ℕ → List Condition
overlay d n m =
    (Full, is_past_last n || is_past_last m) ∷ (NoWindow, not (is_used d n && is_used d m))
    ∷ (PadKind, window_is d n (is_pad d) || window_is d m (is_pad d)) ∷ []

abbrev pub copywin : State → ℕ → ℕ → ℤ → ℤ → ℤ → ℤ → ℤ → ℤ → List Condition
copywin d n m sr sc dr dc er ec =
    (Full, is_past_last n || is_past_last m) ∷ (NoWindow, not (is_used d n && is_used d m))
    ∷ (BadRegion, int_lt er dr || int_lt ec dc)
    ∷ (
      OutOfWindow,
      slots_are (λ s t. not (is_some (matched sr dr er s.window.area.rows t.window.area.rows)
          && is_some (matched sc dc ec s.window.area.cols t.window.area.cols))) (window_at d n) (window_at d m),
    ) ∷ []

abbrev pub noutrefresh : State → ℕ → List Condition
noutrefresh d n = (Full, is_past_last n) ∷ (NoWindow, not (is_used d n)) ∷ (PadKind, window_is d n (is_pad d)) ∷ []

-- calls that take any window: erase, clear, delch, insertln, deleteln, clrtoeol, clrtobot, the options
abbrev pub any_window : State → ℕ → List Condition
any_window d n = (Full, is_past_last n) ∷ (NoWindow, not (is_used d n)) ∷ []

-- calls with a character that a cell gets as it is: insch, hline, vline, bkgd, bkgdset
abbrev pub with_cell : State → ℕ → Put → List Condition
with_cell d n p =
    (Full, is_past_last n) ∷ (NoWindow, not (is_used d n)) ∷ (BadCell, not (is_printed p.byte))
    ∷ (BadPair, not (is_pair p.pair)) ∷ []

abbrev pub move_to : State → ℕ → ℤ → ℤ → List Condition
move_to d n y x =
    (Full, is_past_last n) ∷ (NoWindow, not (is_used d n))
    ∷ (
      OutOfWindow,
      window_is d n (λ s.
          not (is_some (place_below y s.window.area.rows) && is_some (place_below x s.window.area.cols))),
    ) ∷ []

abbrev pub in_turn : Option ℕ → Option ℕ → Bool
in_turn (Some t) (Some b) = nat_le t b
in_turn (Some t) None = false
in_turn None b = false

-- these aren't lines of the window, in order
abbrev pub lacks_lines : ℤ → ℤ → Slot → Bool
lacks_lines t b s = not (in_turn (place_below t s.window.area.rows) (place_below b s.window.area.rows))

abbrev pub noutrefresh_lines : State → ℕ → ℤ → ℤ → List Condition
noutrefresh_lines d n t b =
    (Full, is_past_last n) ∷ (NoWindow, not (is_used d n)) ∷ (PadKind, window_is d n (is_pad d))
    ∷ (BadRegion, window_is d n (lacks_lines t b)) ∷ []

abbrev pub setscrreg : State → ℕ → ℤ → ℤ → List Condition
setscrreg d n t b =
    (Full, is_past_last n) ∷ (NoWindow, not (is_used d n)) ∷ (BadRegion, window_is d n (lacks_lines t b)) ∷ []

abbrev pub color_set : State → ℕ → ℤ → List Condition
color_set d n p =
    (Full, is_past_last n) ∷ (NoWindow, not (is_used d n)) ∷ (BadPair, not (is_some (place_below p pair_count))) ∷ []

abbrev pub scroll : State → ℕ → List Condition
scroll d n =
    (Full, is_past_last n) ∷ (NoWindow, not (is_used d n)) ∷ (NoScroll, window_is d n (λ s. not s.window.scrolls)) ∷ []

-- a cell can hold the byte of each part of the border
abbrev pub border_printed : Border → Bool
border_printed b =
    (is_printed b.left.byte && is_printed b.right.byte) && (is_printed b.top.byte && is_printed b.bottom.byte)
    && (is_printed b.top_left.byte && is_printed b.top_right.byte)
    && (is_printed b.bottom_left.byte && is_printed b.bottom_right.byte)

abbrev pub border_pairs : Border → Bool
border_pairs b =
    (is_pair b.left.pair && is_pair b.right.pair) && (is_pair b.top.pair && is_pair b.bottom.pair)
    && (is_pair b.top_left.pair && is_pair b.top_right.pair)
    && (is_pair b.bottom_left.pair && is_pair b.bottom_right.pair)

-- border and box
abbrev pub border : State → ℕ → Border → List Condition
border d n b =
    (Full, is_past_last n) ∷ (NoWindow, not (is_used d n)) ∷ (BadCell, not (border_printed b))
    ∷ (BadPair, not (border_pairs b)) ∷ []

-- writing the character would move the cursor below the last line of a window that may not scroll
abbrev pub cannot_advance : State → Put → Slot → Bool
cannot_advance d p s = not (is_ok (character p (canvas (grid_at d s.root) s.window)).1)

abbrev pub addch : State → ℕ → Put → List Condition
addch d n p =
    (Full, is_past_last n) ∷ (NoWindow, not (is_used d n)) ∷ (BadCell, not (nat_lt p.byte 128))
    ∷ (BadPair, not (is_pair p.pair))
    ∷ (NoScroll, window_is d n (cannot_advance d p)) ∷ []
