-- How a cell of the virtual screen is printed on a terminal (X/Open Curses Issue 7, "Attributes", "Color Manipulation";
-- terminfo(5), "Line Graphics").
use Rattle.std.specs.Prelude.{ℕ, ◌≡◌, ◌==◌, ◌&&◌, ◌+◌, ◌-◌, ◌<◌, ◌≤◌, nat_lt, not, Bool, false, Option, Some, None}
use Rattle.std.specs.Prelude.{bit_and, if◌then◌else◌, List, length, map, slice_index_or}
use Rattle.std.specs.List.{range_with_len}
use Rattle.vt_term.specs.Color.{Color, color}
use Rattle.ti_rows.specs.declared.rows.Attributes.{Attributes}
use Rattle.ti_rows.specs.declared.rows.Row.TheVariants.{Op, Smacs}
use Rattle.ti_conforms.specs.Alternates.{Character, shown, printed_only, in_plain_set}
use Rattle.ti_conforms.specs.declared.partners.Character.{Character as KnownCharacter}
use Rattle.cur_drawing.specs.Cells.{Content, space}
use Rattle.cur_drawing.specs.Grids.{line_at}
use Rattle.cur_screens.specs.VirtualScreen.{Screen, colors_at}
use Rattle.cur_screens.specs.declared.virtual_screen.Colors.{Colors}
use Rattle.ti_conforms.specs.Certified.{Table, has}
use Rattle.cur_steps.specs.Inks.{blank_ink, byte_as, same}
use Rattle.cur_steps.specs.declared.inks.Brush.{Brush}
use Rattle.cur_steps.specs.declared.inks.Ink.{Ink}
use Rattle.cur_update.specs.declared.inks.Means.{Means}

-- one of the bits is in the set
abbrev pub has_bit : ℕ → ℕ → Bool
has_bit set bit = bit_and set bit == bit

abbrev pub attributes_of : ℕ → Attributes
attributes_of a = record {
  standout = has_bit a 1;
  underline = has_bit a 2;
  reverse = has_bit a 4;
  blink = has_bit a 8;
  dim = has_bit a 16;
  bold = has_bit a 32;
  invisible = has_bit a 64;
}

-- colors only if the entry has strings for them
abbrev pub color_of : Bool → Option ℕ → Option Color
color_of colored None = None
color_of colored (Some n) = if colored then Some (color n) else None

abbrev pub brush_of : Bool → Colors → Content → Brush
brush_of colored p c =
    record {
      attributes = attributes_of c.attrs;
      foreground = color_of colored p.foreground;
      background = color_of colored p.background;
    }

-- a partner counts if the entry has the strings for the graphic set and the partner can be printed
abbrev pub partner_in : Bool → Option ℕ → Option ℕ
partner_in graphic partner = if graphic then printed_only partner else None

-- a cell of the alternate set shows its letter's partner, or a substitute; any other shows its byte
abbrev pub character_of : Bool → (ℕ → Option ℕ) → Content → Character
character_of graphic partners c =
    if has_bit c.attrs 128 then shown (partner_in graphic (partners c.byte)) c.byte else in_plain_set c.byte

abbrev pub ink_of : Table → (ℕ → Option ℕ) → Colors → Content → Ink
ink_of t partners p c = let x = character_of (has t Smacs) partners c in
    record { byte = x.byte; graphic = x.graphic; brush = brush_of (has t Op) p c }

-- (Serves the code alone.) a character as the code has it
abbrev pub known_as : Character → KnownCharacter
known_as x = record { byte = x.byte; graphic = x.graphic }

-- (Serves the code alone.) what a letter of the alternate set shows, counted from 32
abbrev pub alternate_of : Bool → (ℕ → Option ℕ) → ℕ → KnownCharacter
alternate_of graphic partners k = known_as (shown (partner_in graphic (partners (32 + k))) (32 + k))

-- (Serves the code alone.) what each letter of the alternate set shows, from 32 to 126
abbrev pub alternates_of : Bool → (ℕ → Option ℕ) → List KnownCharacter
alternates_of graphic partners = map (alternate_of graphic partners) (range_with_len 0 95)

-- (Serves the code alone.) what an entry has for printing cells
abbrev pub means_of : Table → (ℕ → Option ℕ) → Means
means_of t partners = record { colored = has t Op; alternates = alternates_of (has t Smacs) partners }

-- (Serves the code alone.) the character that a cell shows, if its letter's is looked up
abbrev pub character_in : Means → Content → KnownCharacter
character_in m c =
    if has_bit c.attrs 128
    then slice_index_or m.alternates (c.byte - 32) (known_as (in_plain_set 32)) else known_as (in_plain_set c.byte)

-- (Serves the code alone.) a cell's ink, by what was looked up
abbrev pub ink_with : Means → Colors → Content → Ink
ink_with m p c = let x = character_in m c in
    record { byte = x.byte; graphic = x.graphic; brush = brush_of m.colored p c }

-- (Serves the code alone.) the colors of a pair, the foreground first
abbrev pub pair_colors : Option ℕ × Option ℕ → Colors
pair_colors p = record { foreground = p.0; background = p.1 }

-- (Serves the code alone.) a character without attributes, in default colors
abbrev pub plain_ink : ℕ → Ink
plain_ink byte = record blank_ink { byte = byte }

abbrev pub content_at : Screen → ℕ → ℕ → Content
content_at v i j = slice_index_or (line_at v.grid i) j space

-- the virtual screen as it is printed, each cell in the colors that its pair has there, and blanks around it
abbrev pub ink_at : Table → (ℕ → Option ℕ) → Screen → ℕ → ℕ → Ink
ink_at t partners v i j =
    if nat_lt i v.rows && nat_lt j v.cols
    then ink_of t partners (colors_at v (content_at v i j).pair) (content_at v i j) else blank_ink

-- (Serves the code alone.) a cell of the virtual screen as it is printed, by what was looked up
abbrev pub printed_cell : Means → Screen → Content → Ink
printed_cell m v c = ink_with m (colors_at v c.pair) c

-- (Serves the code alone.) the virtual screen as it is printed, by what was looked up
abbrev pub ink_at_with : Means → Screen → ℕ → ℕ → Ink
ink_at_with m v i j =
    if nat_lt i v.rows && nat_lt j v.cols then printed_cell m v (content_at v i j) else blank_ink

-- (Serves the code alone.) a cell of the plain set with another character
abbrev pub is_other : Content → ℕ → Bool
is_other c byte = not (has_bit c.attrs 128) && not (c.byte == byte)

-- (Serves the code alone.) a cell without attributes, of pair 0
abbrev pub IsBare : Content → Type 0
IsBare c = (c.attrs ≡ 0) × (c.pair ≡ 0)

-- (Serves the code alone.) a cell of the plain set with this character, and the attributes and the pair of another one
pub record IsPlainLike (c d : Content) (byte : ℕ) : Type 0 where
  pub byte_is : byte ≡ c.byte
  pub attrs : c.attrs ≡ d.attrs
  pub pair : c.pair ≡ d.pair
  pub plain : has_bit c.attrs 128 ≡ false

-- (Serves the code alone.) for each cell of a line, whether it is printed like an ink with the character of a text
abbrev pub AreCellsShown : Means → Screen → List Content → Ink → List ℕ → List Bool → Type 0
AreCellsShown m v line ink text shown = (k : ℕ) → k < length line
    → slice_index_or shown k false
    ≡ same (printed_cell m v (slice_index_or line k space)) (record ink { byte = slice_index_or text k 0 })

-- (Serves the code alone.) the first n of a line's cells are printed in the set and the brush of another cell, and have
-- these characters: up to the first that isn't, or to the end of the line or of the room for text
pub record IsLineText (m : Means) (v : Screen) (line : List Content) (other : Content) (n : ℕ) (text : List ℕ)
    : Type 0 where
  pub within : n ≤ length line
  pub room : n ≤ length text
  pub characters : (k : ℕ) → k < n
      → byte_as (printed_cell m v (slice_index_or line k space)) (printed_cell m v other)
      ≡ Some (slice_index_or text k 0)
  pub end : n < length line → n < length text
      → byte_as (printed_cell m v (slice_index_or line n space)) (printed_cell m v other) ≡ None
