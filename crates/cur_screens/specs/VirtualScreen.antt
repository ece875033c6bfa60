-- The virtual screen: the picture that the terminal must show (X/Open Curses Issue 7, noutrefresh, doupdate; "Color
-- Manipulation").
use Rattle.std.specs.Prelude.{◌≡◌, ℕ, zero, suc, ◌<◌, ◌≤◌, ◌||◌, ◌==◌, List, length, slice_index_or, slice_set}
use Rattle.std.specs.Prelude.{replicate}
use Rattle.std.specs.Prelude.{Bool, false, nat_lt, Option, Some, None, IfSome, Result, Ok, Err, if◌then◌else◌, ℤ, pos}
use Rattle.std.specs.Prelude.{negsuc}
use Rattle.grids.specs.declared.areas.Area.{Area}
use Rattle.grids.specs.declared.areas.Place.{Place}
use Rattle.cur_drawing.specs.declared.refusals.Refusal.{Refusal}
use Rattle.cur_drawing.specs.declared.refusals.Refusal.TheVariants.{BadPair}
use Rattle.cur_drawing.specs.Cells.{pair_count}
use Rattle.cur_drawing.specs.Grids.{Grid, line_at, copied, blank}
use Rattle.cur_drawing.specs.Windows.{place_below}
use Rattle.cur_drawing.specs.Calls.{place}
use Rattle.cur_screens.specs.declared.virtual_screen.Colors.{Colors}

pub record Screen : Type 0 where
  pub rows : ℕ
  pub cols : ℕ
  pub grid : Grid
  -- the place of the cursor, or none if it may be anywhere
  pub cursor : Option Place
  -- the next refresh must clear the terminal first
  pub clearok : Bool
  -- the colors of the pairs
  pub pairs : List Colors

-- the screen of these parts
abbrev pub screen_of : ℕ → ℕ → Grid → Option Place → Bool → List Colors → Screen
screen_of rows cols grid cursor clearok pairs =
    record { rows = rows; cols = cols; grid = grid; cursor = cursor; clearok = clearok; pairs = pairs }

abbrev pub default_colors : Colors
default_colors = record { foreground = None; background = None }

abbrev pub colors_at : Screen → ℕ → Colors
colors_at v p = slice_index_or v.pairs p default_colors

-- the grid has the size, the cursor is in it, and all pairs have colors
pub record IsScreen (v : Screen) : Type 0 where
  pub lines : length v.grid ≡ v.rows
  pub columns : (i : ℕ) → i < length v.grid → length (line_at v.grid i) ≡ v.cols
  pub cursor : IfSome v.cursor (λ p. (p.row < v.rows) × (p.col < v.cols))
  pub pairs : length v.pairs ≡ pair_count

-- the pairs from `first` on are default on default; `first` is a pair, or one more than the last pair
pub record AreDefault (first : ℕ) (pairs : List Colors) : Type 0 where
  pub within : first ≤ pair_count
  pub colors : (p : ℕ) → first ≤ p → slice_index_or pairs p default_colors ≡ default_colors

-- a new screen: spaces without attributes, the cursor at the corner, all pairs default on default
abbrev pub new_screen : ℕ → ℕ → Screen
new_screen rows cols = record {
  rows = rows;
  cols = cols;
  grid = blank rows cols;
  cursor = Some (place 0 0);
  clearok = false;
  pairs = replicate pair_count default_colors;
}

-- the screen after a refresh that succeeded
abbrev pub refreshed : Screen → Screen
refreshed v = record v { clearok = false }

abbrev pub initialized : Option ℕ → Option ℕ → Option ℕ → Screen → Screen × Result (Unit {0}) Refusal
initialized (Some p) (Some f) (Some b) v =
    if p == 0 then (v, Err BadPair)
    else (record v { pairs = slice_set v.pairs p (record { foreground = Some f; background = Some b }) }, Ok tt)
initialized (Some p) (Some f) None v = (v, Err BadPair)
initialized (Some p) None b v = (v, Err BadPair)
initialized None f b v = (v, Err BadPair)

-- init_pair: pairs 1 to 63, colors 0 to 7
abbrev pub init_pair : ℤ → ℤ → ℤ → Screen → Screen × Result (Unit {0}) Refusal
init_pair p f b v = initialized (place_below p pair_count) (place_below f 8) (place_below b 8) v

-- a color of a pair: 0 to 7, or -1 for the terminal's default color
abbrev pub color_or_default : ℤ → Option (Option ℕ)
color_or_default (pos n) = if nat_lt n 8 then Some (Some n) else None
color_or_default (negsuc zero) = Some None
color_or_default (negsuc (suc n)) = None

abbrev pub colored : Option ℕ → Option (Option ℕ) → Option (Option ℕ) → Screen → Screen × Result (Unit {0}) Refusal
colored (Some p) (Some f) (Some b) v =
    if p == 0 then (v, Err BadPair)
    else (record v { pairs = slice_set v.pairs p (record { foreground = f; background = b }) }, Ok tt)
colored (Some p) (Some f) None v = (v, Err BadPair)
colored (Some p) None b v = (v, Err BadPair)
colored None f b v = (v, Err BadPair)

-- init_pair of a terminal that allows its default colors in pairs (ncurses' use_default_colors): pairs 1 to 63
abbrev pub init_pair_or_default : ℤ → ℤ → ℤ → Screen → Screen × Result (Unit {0}) Refusal
init_pair_or_default p f b v = colored (place_below p pair_count) (color_or_default f) (color_or_default b) v

-- a rectangle of the screen gets the cells of a grid from a place on
abbrev pub shown : Area → Grid → Place → Option Place → Bool → Screen → Screen
shown area g from cursor clears v =
    record v { grid = copied area from g v.grid; cursor = cursor; clearok = v.clearok || clears }
