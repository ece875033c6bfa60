-- The two colors of a brush, and the rows that set them (terminfo(5), "Color Handling").
use Rattle.std.specs.Prelude.{ℕ, Option}
use Rattle.vt_term.specs.Color.{Color}
use Rattle.ti_rows.specs.declared.rows.Row.{Row}
use Rattle.ti_rows.specs.declared.rows.Row.TheVariants.{Setaf, Setab}
use Rattle.ti_conforms.specs.Certified.{Table}
use Rattle.cur_steps.specs.declared.inks.Brush.{Brush}
pub use Rattle.cur_steps.specs.declared.inks.Ground.{Ground}
pub use Rattle.cur_steps.specs.declared.inks.Ground.TheVariants.{Fore, Back}

-- a brush's color of a ground
abbrev pub color_of : Ground → Brush → Option Color
color_of Fore b = b.foreground
color_of Back b = b.background

-- a brush with another color of a ground
abbrev pub with_color : Ground → Option Color → Brush → Brush
with_color Fore c b = record b { foreground = c }
with_color Back c b = record b { background = c }

-- the row whose line sets the color of a ground
abbrev pub color_row : Ground → Color → Row
color_row Fore c = Setaf c
color_row Back c = Setab c

-- the most bytes of such a line
abbrev pub color_limit : Table → Ground → ℕ
color_limit t Fore = t.longest.setaf
color_limit t Back = t.longest.setab
