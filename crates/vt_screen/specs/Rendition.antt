-- The table of SGR: the change that each number makes (ECMA-48 8.3.117), and the rendition after a change.
use Rattle.std.specs.Prelude.{ℕ, ◌-◌, ◌==◌, ◌&&◌, nat_le, true, false, List, [], ◌∷◌, if◌then◌else◌, Option, None, Some}
use Rattle.std.specs.Option.{unwrap_or}
use Rattle.vt_screen.specs.declared.renditions.Rendition.{Rendition}
use Rattle.vt_screen.specs.declared.renditions.RenditionChange.{RenditionChange}
use Rattle.vt_screen.specs.declared.renditions.RenditionChange.TheVariants.{Plain, Bold, Faint, Underline, Blink}
use Rattle.vt_screen.specs.declared.renditions.RenditionChange.TheVariants.{Negative, Concealed, NormalIntensity}
use Rattle.vt_screen.specs.declared.renditions.RenditionChange.TheVariants.{NotUnderlined, Steady, Positive, Revealed}
use Rattle.vt_screen.specs.declared.renditions.RenditionChange.TheVariants.{Foreground, Background}
use Rattle.vt_screen.specs.Color.{color}
use Rattle.vt_screen.specs.Look.{plain}

abbrev pub change_of : ℕ → Option RenditionChange
change_of n =
    if n == 0 then Some Plain
    else (if n == 1 then Some Bold
    else (if n == 2 then Some Faint
    else (if n == 4 then Some Underline
    else (if n == 5 then Some Blink
    else (if n == 7 then Some Negative
    else (if n == 8 then Some Concealed
    else (if n == 22 then Some NormalIntensity
    else (if n == 24 then Some NotUnderlined
    else (if n == 25 then Some Steady
    else (if n == 27 then Some Positive
    else (if n == 28 then Some Revealed
    else (if nat_le 30 n && nat_le n 37 then Some (Foreground (Some (color (n - 30))))
    else (if n == 39 then Some (Foreground None)
    else (if nat_le 40 n && nat_le n 47 then Some (Background (Some (color (n - 40))))
    else (if n == 49 then Some (Background None)
    else None)))))))))))))))

abbrev pub changed : RenditionChange → Rendition → Rendition
changed Plain r = plain
changed Bold r = record r { bold = true }
changed Faint r = record r { faint = true }
changed Underline r = record r { underline = true }
changed Blink r = record r { blink = true }
changed Negative r = record r { negative = true }
changed Concealed r = record r { concealed = true }
changed NormalIntensity r = record r { bold = false; faint = false }
changed NotUnderlined r = record r { underline = false }
changed Steady r = record r { blink = false }
changed Positive r = record r { negative = false }
changed Revealed r = record r { concealed = false }
changed (Foreground c) r = record r { foreground = c }
changed (Background c) r = record r { background = c }

-- a number that makes no change is ignored
abbrev pub changed_if : Option RenditionChange → Rendition → Rendition
changed_if None r = r
changed_if (Some change) r = changed change r

-- the rendition after one number of SGR
abbrev pub rendered : ℕ → Rendition → Rendition
rendered n r = changed_if (change_of n) r

-- the rendition after all numbers of SGR, one after another; the default is 0
abbrev pub all_rendered : List (Option ℕ) → Rendition → Rendition
all_rendered [] r = r
all_rendered (n ∷ ns) r = all_rendered ns (rendered (unwrap_or n 0) r)
