-- How sets of attributes look, and how the lines of single attributes show it.
use Rattle.std.specs.Prelude.{ℕ, ◌<◌, ◌≡◌, ◌==◌, ◌&&◌, ◌||◌, true, if◌then◌else◌}
use Rattle.vt_effects.specs.declared.effects.Effect.{Effect}
use Rattle.vt_effects.specs.declared.effects.Rendering.{Rendering}
use Rattle.ti_rows.specs.Rows.{Attributes, Marks, Looks, Row, Sgr, Smul, Rev, Blink, Dim, Bold, Invis, Smso}
use Rattle.ti_rows.specs.Switches.{is_on}
use Rattle.ti_rows.specs.Bits.{number_of}

-- the marks of a set of attributes: the union of what each of them shows alone
abbrev pub shown : Looks → Attributes → Marks
shown l a = record {
  bold = (a.bold && l.bold) || (a.standout && l.standout.bold);
  faint = (a.dim && l.dim) || (a.standout && l.standout.faint);
  underline = (a.underline && l.underline) || (a.standout && l.standout.underline);
  blink = (a.blink && l.blink) || (a.standout && l.standout.blink);
  negative = (a.reverse && l.reverse) || (a.standout && l.standout.negative);
  concealed = (a.invisible && l.invisible) || (a.standout && l.standout.concealed);
}

-- the marks that a record turns on
abbrev pub marks_on : Rendering → Marks
marks_on r = record {
  bold = is_on r.bold;
  faint = is_on r.faint;
  underline = is_on r.underline;
  blink = is_on r.blink;
  negative = is_on r.negative;
  concealed = is_on r.concealed;
}

-- the look of the one attribute of a parameter list, which is given by its number
abbrev pub learned_alone : ℕ → Rendering → Looks → Looks
learned_alone n r l =
    if n == 64 then record l { standout = marks_on r }
    else (if n == 32 then record l { underline = is_on r.underline }
    else (if n == 16 then record l { reverse = is_on r.negative }
    else (if n == 8 then record l { blink = is_on r.blink }
    else (if n == 4 then record l { dim = is_on r.faint }
    else (if n == 2 then record l { bold = is_on r.bold }
    else (if n == 1 then record l { invisible = is_on r.concealed }
    else l))))))

abbrev pub learned : Row → Effect → Looks → Looks
learned (Sgr a) e l = learned_alone (number_of a) e.rendition l
learned Smso e l = record l { standout = marks_on e.rendition }
learned Smul e l = record l { underline = true }
learned Rev e l = record l { reverse = true }
learned Blink e l = record l { blink = true }
learned Dim e l = record l { dim = true }
learned Bold e l = record l { bold = true }
learned Invis e l = record l { invisible = true }
learned _ e l = l

-- a parameter list of `sgr` leaves the looks of the lists before it as they are
abbrev pub EarlierKept : Type 0
EarlierKept =
    (l : Looks) (a b : Attributes) (e : Effect) → number_of b < number_of a → shown (learned (Sgr a) e l) b ≡ shown l b
