-- The parts of an effect, one by one.
use Rattle.std.specs.Prelude.{◌≡◌, ◌&&◌, ◌+◌, ℕ, Bool, if◌then◌else◌}
use Rattle.ti_blames.specs.declared.parts.Mark.{Mark}
use Rattle.ti_blames.specs.declared.parts.Mark.TheVariants.{Bold, Faint, Underline, Blink, Negative, Concealed}
use Rattle.ti_blames.specs.declared.parts.Part.{Part}
use Rattle.ti_blames.specs.declared.parts.Part.TheVariants.{Row, Column, Erasure, Scroll, Mark as OfMark, Foreground}
use Rattle.ti_blames.specs.declared.parts.Part.TheVariants.{Background, Sets, Margins, Visible, Pending}
use Rattle.ti_rows.specs.declared.rows.Attributes.{Attributes}
use Rattle.ti_rows.specs.declared.rows.Looks.{Looks}
use Rattle.vt_effects.specs.declared.effects.Effect.{Effect}
use Rattle.vt_effects.specs.declared.effects.Rendering.{Rendering}
use Rattle.vt_effects.specs.declared.effects.Switch.{Switch}

-- the change of a mark by a change of the rendition, and by an effect
abbrev pub switch_in : Mark → Rendering → Switch
switch_in Bold rendition = rendition.bold
switch_in Faint rendition = rendition.faint
switch_in Underline rendition = rendition.underline
switch_in Blink rendition = rendition.blink
switch_in Negative rendition = rendition.negative
switch_in Concealed rendition = rendition.concealed

abbrev pub switch_of : Mark → Effect → Switch
switch_of mark effect = switch_in mark effect.rendition

-- two effects are the same in a part
abbrev pub AreSame : Part → Effect → Effect → Type 0
AreSame Row one other = one.row ≡ other.row
AreSame Column one other = one.col ≡ other.col
AreSame Erasure one other = one.erasure ≡ other.erasure
AreSame Scroll one other = one.scroll ≡ other.scroll
AreSame (OfMark mark) one other = switch_of mark one ≡ switch_of mark other
AreSame Foreground one other = one.rendition.foreground ≡ other.rendition.foreground
AreSame Background one other = one.rendition.background ≡ other.rendition.background
AreSame Sets one other = one.charset ≡ other.charset
AreSame Margins one other = one.margins ≡ other.margins
AreSame Visible one other = one.visible ≡ other.visible
AreSame Pending one other = one.ends_pending ≡ other.ends_pending

-- the attribute of a mark is asked for, and looks so
abbrev pub is_shown : Mark → Attributes → Looks → Bool
is_shown Underline attributes looks = attributes.underline && looks.underline
is_shown Negative attributes looks = attributes.reverse && looks.reverse
is_shown Blink attributes looks = attributes.blink && looks.blink
is_shown Faint attributes looks = attributes.dim && looks.dim
is_shown Bold attributes looks = attributes.bold && looks.bold
is_shown Concealed attributes looks = attributes.invisible && looks.invisible

-- the digit of the attribute's parameter of `sgr`: 1 is standout, 2 underline, and so on
abbrev pub own_digit : Mark → ℕ
own_digit Underline = 48 + 2
own_digit Negative = 48 + 3
own_digit Blink = 48 + 4
own_digit Faint = 48 + 5
own_digit Bold = 48 + 6
own_digit Concealed = 48 + 7

-- the digit of the parameter of `sgr` by which a mark is asked for
abbrev pub digit_for : Mark → Attributes → Looks → ℕ
digit_for mark attributes looks = if is_shown mark attributes looks then own_digit mark else 48 + 1
