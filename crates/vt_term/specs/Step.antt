-- The effect of each token on the screen.
use Rattle.std.specs.Prelude.{ℕ, List, [], ◌∷◌}
use Rattle.vt_screen.specs.Screen.{Screen}
pub use Rattle.vt_screen.specs.Step.{goes_to, lines_up, lines_down, goes_down, goes_up, line_feed, reverse_index}
pub use Rattle.vt_screen.specs.Step.{wrapped, shown, inserted, deleted, opened, placed, printed, all_printed, erased}
pub use Rattle.vt_screen.specs.Step.{part_erased, lines_erased, line_erased, display_erased, cells_erased, in_region}
pub use Rattle.vt_screen.specs.Step.{lines_inserted, lines_deleted, margins_set, rendered, all_rendered, mode_set}
pub use Rattle.vt_screen.specs.Step.{all_modes_set, invoked, act, CanAct}
use Rattle.vt_term.specs.Function.{function_of}

abbrev pub step : List ℕ → Screen → Screen
step token s = act (function_of token) s

abbrev pub steps : List (List ℕ) → Screen → Screen
steps [] s = s
steps (token ∷ tokens) s = steps tokens (step token s)
