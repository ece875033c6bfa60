-- An attribute alone that shows a mark of another one (terminfo(5), "Highlighting, Underlining, and Visible Bells").
use Rattle.std.specs.Prelude.{ℕ, ◌≡◌, ◌&&◌, ◌||◌, not, Bool, true, false, List, [], Option, Some, None, if◌then◌else◌}
use Rattle.vt_effects.specs.declared.effects.Effect.{Effect}
use Rattle.vt_term.specs.Run.{Runs}
use Rattle.vt_term.specs.Screen.{Screen}
use Rattle.ti_rows.specs.Asked.{no_marks}
use Rattle.ti_rows.specs.Bits.{number_of}
use Rattle.ti_rows.specs.Starts.{Starts}
use Rattle.ti_rows.specs.declared.rows.Attributes.{Attributes}
use Rattle.ti_rows.specs.declared.rows.Marks.{Marks}
use Rattle.ti_rows.specs.declared.rows.Row.{Row}
use Rattle.ti_rows.specs.declared.rows.Row.TheVariants.{Sgr, Smul, Rev, Blink, Dim, Bold, Invis}
use Rattle.ti_conforms.specs.Looks.{is_single}
use Rattle.ti_checker.specs.Alone.{marks_of}
use Rattle.ti_checker.specs.Breakage.{marks_after}

-- the marks that have the names of these attributes
abbrev pub own_marks : Attributes → Marks
own_marks a = record {
  bold = a.bold;
  faint = a.dim;
  underline = a.underline;
  blink = a.blink;
  negative = a.reverse;
  concealed = a.invisible;
}

-- The mark of the attribute that the row turns on alone, by `sgr` or by a string of its own. Standout has none: it may
-- look like anything.
abbrev pub own_mark : Row → Option Marks
own_mark (Sgr a) = if is_single (number_of a) then Some (own_marks a) else None
own_mark Smul = Some (record no_marks { underline = true })
own_mark Rev = Some (record no_marks { negative = true })
own_mark Blink = Some (record no_marks { blink = true })
own_mark Dim = Some (record no_marks { faint = true })
own_mark Bold = Some (record no_marks { bold = true })
own_mark Invis = Some (record no_marks { concealed = true })
own_mark _ = None

-- whether one of these marks isn't among the attribute's own
abbrev pub has_other : Marks → Marks → Bool
has_other own m =
    (m.bold && not own.bold) || ((m.faint && not own.faint) || ((m.underline && not own.underline)
    || ((m.blink && not own.blink) || ((m.negative && not own.negative) || (m.concealed && not own.concealed)))))

-- a row that turns an attribute on alone shows these marks, and one of them isn't the attribute's own
abbrev pub other_in : Option Marks → Marks → Bool
other_in (Some own) m = has_other own m
other_in None m = false

abbrev pub shows_other : Row → Marks → Bool
shows_other row m = other_in (own_mark row) m

-- from a start of the row without any mark, the run of the bytes ends with a mark that isn't the attribute's own
pub record Mislooks (rows cols : ℕ) (row : Row) (bytes : List ℕ) : Type 0 where
  pub before : Screen
  pub starts : Starts rows cols row before
  pub unmarked : marks_of before.rendition ≡ no_marks
  pub after : Screen
  pub runs : Runs (record { screen = before; rest = [] }) bytes (record { screen = after; rest = [] })
  pub other : shows_other row (marks_of after.rendition) ≡ true

-- (Serves the code alone.) `Mislooks`, decided by the effect.
abbrev pub looks_other : Row → Effect → Bool
looks_other row e = shows_other row (marks_after e.rendition no_marks)
