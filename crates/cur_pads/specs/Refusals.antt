-- The refusals of each call, in the order of ranks. No condition depends on another one.
use Rattle.std.specs.Prelude.{ℕ, ◌&&◌, ◌||◌, not, is_some, List, [], ◌∷◌, Bool, false, Option, Some, None, ℤ, int_lt}
use Rattle.std.specs.Prelude.{pos}
use Rattle.cur_drawing.specs.declared.refusals.Refusal.TheVariants.{NoWindow, OutOfWindow, OutOfScreen, PadKind}
use Rattle.cur_drawing.specs.declared.refusals.Refusal.TheVariants.{BadRegion, NumberUsed, Full}
use Rattle.cur_drawing.specs.declared.spans.Span.{Span}
use Rattle.cur_drawing.specs.Refusals.{Condition}
use Rattle.cur_drawing.specs.Spans.{is_negative}
use Rattle.cur_windows.specs.Desks.{State}
use Rattle.cur_windows.specs.Refusals.{is_past_last, is_used, window_is, is_pad, lies_outside}
use Rattle.cur_pads.specs.Creations.{side}
use Rattle.cur_pads.specs.Ranges.{between, from}
use Rattle.cur_pads.specs.Displays.{start}

-- lack of memory comes after these
abbrev pub newpad : State → ℕ → ℤ → ℤ → List Condition
newpad d n lines cols =
    (Full, is_past_last n) ∷ (NumberUsed, is_used d n)
    ∷ (BadRegion, not (is_some (side lines) && is_some (side cols))) ∷ []

abbrev pub subpad : State → ℕ → ℕ → ℤ → ℤ → ℤ → ℤ → List Condition
subpad d n w lines cols y x =
    (Full, is_past_last n || is_past_last w) ∷ (NumberUsed, is_used d n) ∷ (NoWindow, not (is_used d w))
    ∷ (PadKind, window_is d w (λ s. not (is_pad d s)))
    ∷ (BadRegion, is_negative lines || is_negative cols)
    ∷ (OutOfWindow, window_is d w (λ s. lies_outside s.window.area.rows s.window.area.cols lines cols y x)) ∷ []

-- as many lines or columns as the screen's run has, from a first one on, aren't all below the limit
abbrev pub ends_past : Option Span → ℕ → ℕ → Bool
ends_past (Some v) first limit = not (is_some (from first v.size limit))
ends_past None first limit = false

abbrev pub pnoutrefresh : State → ℕ → ℤ → ℤ → ℤ → ℤ → ℤ → ℤ → List Condition
pnoutrefresh d n pr pc sr sc er ec =
    let rows = between (start sr) er d.rows in
    let cols = between (start sc) ec d.cols in
    (Full, is_past_last n) ∷ (NoWindow, not (is_used d n)) ∷ (PadKind, window_is d n (λ s. not (is_pad d s)))
    ∷ (BadRegion, int_lt er (pos (start sr)) || int_lt ec (pos (start sc)))
    ∷ (OutOfScreen, not (is_some rows && is_some cols))
    ∷ (
      OutOfWindow,
      window_is d n (λ s.
          ends_past rows (start pr) s.window.area.rows || ends_past cols (start pc) s.window.area.cols),
    ) ∷ []
