-- The content of a place of the screen: a character, its set, its attributes and colors; and its look.
use Rattle.std.specs.Prelude.{ℕ, ◌≡◌, ◌==◌, ◌&&◌, ◌||◌, nat_le, nat_lt, Bool, true, false, Option, Some, None}
use Rattle.std.specs.Prelude.{if◌then◌else◌}
use Rattle.vt_term.specs.Color.{Color, color_number}
use Rattle.vt_term.specs.Look.{Look, Rendition, IsPrinted}
use Rattle.ti_rows.specs.declared.rows.Attributes.{Attributes}
use Rattle.ti_rows.specs.declared.rows.Looks.{Looks}
use Rattle.cur_steps.specs.declared.inks.Brush.{Brush}
use Rattle.cur_steps.specs.declared.inks.Ink.{Ink}
use Rattle.ti_rows.specs.declared.rows.Row.TheVariants.{Op, Smacs}
use Rattle.ti_rows.specs.Wants.{marked}
use Rattle.ti_rows.specs.Looks.{shown}
pub use Rattle.ti_rows.specs.Names.{no_attributes}
use Rattle.ti_conforms.specs.Certified.{Table, has}

-- the union of the attributes' marks, and the colors
abbrev pub rendition_of : Looks → Brush → Rendition
rendition_of l b = marked (shown l b.attributes) b.foreground b.background

-- the graphic set has pictures of its own from 95 on (VT100 user guide, "Special graphics characters")
abbrev pub look_of : Looks → Ink → Look
look_of l x = record { byte = x.byte; graphic = x.graphic && nat_le 95 x.byte; rendition = rendition_of l x.brush }

abbrev pub plain_brush : Brush
plain_brush = record { attributes = no_attributes; foreground = None; background = None }

-- these attributes in the default colors
abbrev pub in_default_colors : Attributes → Brush
in_default_colors a = record { attributes = a; foreground = None; background = None }

abbrev pub blank_ink : Ink
blank_ink = record { byte = 32; graphic = false; brush = plain_brush }

abbrev pub alike : Bool → Bool → Bool
alike true b = b
alike false true = false
alike false false = true

abbrev pub same_few : Attributes → Attributes → Bool
same_few a b = alike a.standout b.standout && (alike a.underline b.underline && alike a.reverse b.reverse)

abbrev pub same_others : Attributes → Attributes → Bool
same_others a b = alike a.blink b.blink && (alike a.dim b.dim && (alike a.bold b.bold && alike a.invisible b.invisible))

abbrev pub same_attributes : Attributes → Attributes → Bool
same_attributes a b = same_few a b && same_others a b

abbrev pub same_color : Option Color → Option Color → Bool
same_color None None = true
same_color (Some c) (Some d) = color_number c == color_number d
same_color (Some c) None = false
same_color None (Some d) = false

abbrev pub same_brush : Brush → Brush → Bool
same_brush a b = same_attributes a.attributes b.attributes
    && (same_color a.foreground b.foreground && same_color a.background b.background)

abbrev pub same : Ink → Ink → Bool
same a b = (a.byte == b.byte) && (alike a.graphic b.graphic && same_brush a.brush b.brush)

-- the character, if it has the set and the brush of another one
abbrev pub byte_as : Ink → Ink → Option ℕ
byte_as x y = if alike x.graphic y.graphic && same_brush x.brush y.brush then Some x.byte else None

-- default colors, if the entry has no lines for colors
pub record IsColored (t : Table) (b : Brush) : Type 0 where
  pub foreground : has t Op ≡ false → b.foreground ≡ None
  pub background : has t Op ≡ false → b.background ≡ None

-- an ink that the entry can show
pub record IsInk (t : Table) (x : Ink) : Type 0 where
  pub printed : IsPrinted x.byte
  pub colored : IsColored t x.brush
  pub set : has t Smacs ≡ false → x.graphic ≡ false

abbrev pub CanShow : Table → (ℕ → ℕ → Ink) → Type 0
CanShow t g = (i j : ℕ) → IsInk t (g i j)

-- one place becomes x
abbrev pub put_at : ℕ → ℕ → Ink → (ℕ → ℕ → Ink) → ℕ → ℕ → Ink
put_at r k x g i j = if (i == r) && (j == k) then x else g i j

-- the new cells before a place, line by line, and the old ones from there on
abbrev pub mixed : (ℕ → ℕ → Ink) → (ℕ → ℕ → Ink) → ℕ → ℕ → ℕ → ℕ → Ink
mixed old new r k i j = if nat_lt i r || ((i == r) && nat_lt j k) then new i j else old i j
