-- A place of the display in four bytes: its character, its marks, and its colors.
use Rattle.std.specs.Prelude.{ℕ, ◌+◌, ◌*◌, ◌<◌, ◌==◌, ◌≡◌, Bool, true, false, Option, None, Some, refl}
use Rattle.std.specs.Int.RustNames.{bit_and}
use Rattle.std.proofs.Common.{ap, ◌∙◌}
use Rattle.std.proofs.lemmas.Bool.{agree_below_at, eqb-true}
use Rattle.vt_screen.specs.declared.renditions.Color.{Color}
use Rattle.vt_screen.specs.declared.renditions.Color.TheVariants.{Black, Red, Green, Yellow, Blue, Magenta, Cyan, White}
use Rattle.vt_screen.specs.declared.renditions.Rendition.{Rendition}
use Rattle.vt_screen.specs.declared.marks.Shade.{Shade}
use Rattle.vt_screen.specs.declared.marks.Shade.TheVariants as shades

abbrev pub shade_color : Shade → Option Color
shade_color shades.Default = None
shade_color shades.Black = Some Black
shade_color shades.Red = Some Red
shade_color shades.Green = Some Green
shade_color shades.Yellow = Some Yellow
shade_color shades.Blue = Some Blue
shade_color shades.Magenta = Some Magenta
shade_color shades.Cyan = Some Cyan
shade_color shades.White = Some White

abbrev pub shade_of : Option Color → Shade
shade_of None = shades.Default
shade_of (Some Black) = shades.Black
shade_of (Some Red) = shades.Red
shade_of (Some Green) = shades.Green
shade_of (Some Yellow) = shades.Yellow
shade_of (Some Blue) = shades.Blue
shade_of (Some Magenta) = shades.Magenta
shade_of (Some Cyan) = shades.Cyan
shade_of (Some White) = shades.White

-- whether `mark` is among these marks
abbrev pub has : ℕ → ℕ → Bool
has marks mark = bit_and marks mark == mark

abbrev pub bit : Bool → ℕ
bit true = 1
bit false = 0

-- each mark is a bit
abbrev pub marks_of : Bool → Rendition → ℕ
marks_of graphic r =
    bit r.bold + 2 * bit r.faint + 4 * bit r.underline + 8 * bit r.blink + 16 * bit r.negative + 32 * bit r.concealed
    + 64 * bit graphic

-- the rendition with these marks and colors
abbrev pub rendition_of : ℕ → Option Color → Option Color → Rendition
rendition_of marks foreground background = record {
  bold = has marks 1;
  faint = has marks 2;
  underline = has marks 4;
  blink = has marks 8;
  negative = has marks 16;
  concealed = has marks 32;
  foreground = foreground;
  background = background;
}

-- Packing loses nothing. The proofs are here because an impl's law can't name anything in proofs/.
pub shade_kept : (s : Shade) → shade_of (shade_color s) ≡ s
shade_kept shades.Default = refl
shade_kept shades.Black = refl
shade_kept shades.Red = refl
shade_kept shades.Green = refl
shade_kept shades.Yellow = refl
shade_kept shades.Blue = refl
shade_kept shades.Magenta = refl
shade_kept shades.Cyan = refl
shade_kept shades.White = refl

abbrev pub remade : ℕ → ℕ
remade m = marks_of (has m 64) (rendition_of m None None)

pub marks_kept : (m : ℕ) → m < 128 → remade m ≡ m
marks_kept m lt = eqb-true (remade m) m (agree_below_at (λ n. remade n == n) (λ n. true) 128 m refl lt)

pub cell_kept : {A : Type 0} (make : ℕ → Shade → Shade → A) (m : ℕ) (f b : Shade) → m < 128
    → make (remade m) (shade_of (shade_color f)) (shade_of (shade_color b)) ≡ make m f b
cell_kept make m f b lt =
    ap (λ (n : ℕ). make n (shade_of (shade_color f)) (shade_of (shade_color b))) (marks_kept m lt)
    ∙ ap (λ (s : Shade). make m s (shade_of (shade_color b))) (shade_kept f)
    ∙ ap (λ (s : Shade). make m f s) (shade_kept b)
