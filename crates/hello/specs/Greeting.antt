-- The greeting, place by place (X/Open Curses Issue 7, newwin, box, wmove, waddstr, wnoutrefresh).
use Rattle.std.specs.Prelude.{◌≡◌, ◌-◌, ◌<◌, ℕ, List, [], ◌∷◌, ◌++◌, false, if◌then◌else◌, Some, codes, map, replicate}
use Rattle.curses.specs.Windows.{Area}
use Rattle.curses.specs.Windows.Calls.{place}
use Rattle.curses.specs.Windows.Cells.{Content, pair_count, space}
use Rattle.curses.specs.Windows.Grids.{Grid, cell_at, is_in}
use Rattle.curses.specs.Windows.VirtualScreen.{Screen, default_colors}

-- characters, and characters of the alternate set, which has lines
abbrev pub letters : List ℕ → List Content
letters bytes = map (λ byte. record { byte = byte; attrs = 0; pair = 0 }) bytes

abbrev pub drawings : List ℕ → List Content
drawings bytes = map (λ byte. record { byte = byte; attrs = 128; pair = 0 }) bytes

-- the greeting's window: a text with a border around it
abbrev pub picture : Grid
picture =
    drawings (codes "lqqqqqqqqqqqqqqqk")
    ∷ (drawings (codes "x") ++ (letters (codes " Hello, world! ") ++ drawings (codes "x")))
    ∷ drawings (codes "mqqqqqqqqqqqqqqqj")
    ∷ []

-- the place of the window on the screen
abbrev pub frame : Area
frame = record { top = 1; left = 4; rows = 3; cols = 17 }

-- a screen of this size with the greeting on it, blank around it, and the cursor after the text
pub record IsGreeting (rows cols : ℕ) (v : Screen) : Type 0 where
  pub rows_same : v.rows ≡ rows
  pub cols_same : v.cols ≡ cols
  pub cells : (i j : ℕ) → i < rows → j < cols
      → cell_at v.grid i j ≡ (if is_in frame i j then cell_at picture (i - 1) (j - 4) else space)
  pub cursor : v.cursor ≡ Some (place 2 19)
  pub clearok : v.clearok ≡ false
  pub pairs : v.pairs ≡ replicate pair_count default_colors
