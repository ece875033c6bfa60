-- The number of places in which two virtual screens differ. A pair counts as the colors in its screen's table.
use Rattle.std.specs.Prelude.{ℕ, ◌+◌, ◌==◌, ◌&&◌, Bool, true, false, Option, Some, None, if◌then◌else◌, zero, suc}
use Rattle.cur_drawing.specs.Cells.{Content}
use Rattle.cur_screens.specs.VirtualScreen.{Screen, colors_at}
use Rattle.cur_screens.specs.declared.virtual_screen.Colors.{Colors}
use Rattle.cur_update.specs.Inks.{content_at}

abbrev pub same_number : Option ℕ → Option ℕ → Bool
same_number None None = true
same_number (Some a) (Some b) = a == b
same_number (Some m) None = false
same_number None (Some n) = false

abbrev pub same_colors : Colors → Colors → Bool
same_colors p q = same_number p.foreground q.foreground && same_number p.background q.background

abbrev pub same_character : Content → Content → Bool
same_character c d = (c.byte == d.byte) && (c.attrs == d.attrs)

abbrev pub same_at : Screen → Screen → ℕ → ℕ → Bool
same_at v w i j =
    same_character (content_at v i j) (content_at w i j)
    && same_colors (colors_at v (content_at v i j).pair) (colors_at w (content_at w i j).pair)

-- 1 if a place differs, else 0
abbrev pub cells_differ : Screen → Screen → ℕ → ℕ → ℕ
cells_differ v w i j = if same_at v w i j then 0 else 1

-- the number of differing places among the first n of a line
abbrev pub in_line : Screen → Screen → ℕ → ℕ → ℕ
in_line v w i zero = 0
in_line v w i (suc n) = in_line v w i n + cells_differ v w i n

-- the number of differing places in the first n lines
abbrev pub in_lines : Screen → Screen → ℕ → ℕ → ℕ
in_lines v w cols zero = 0
in_lines v w cols (suc n) = in_lines v w cols n + in_line v w n cols
