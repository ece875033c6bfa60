-- How an attribute looks: by the marks that it turns on alone, from a state without any (terminfo(5), "Highlighting,
-- Underlining, and Visible Bells").
use Rattle.std.specs.Prelude.{ℕ, ◌≡◌, ◌==◌, ◌||◌, not, Bool, false, List, []}
use Rattle.vt_term.specs.Look.{Rendition}
use Rattle.vt_term.specs.Run.{Runs}
use Rattle.vt_term.specs.Screen.{Screen}
use Rattle.ti_rows.specs.Asked.{no_marks}
use Rattle.ti_rows.specs.Bits.{number_of}
use Rattle.ti_rows.specs.Looks.{shown}
use Rattle.ti_rows.specs.Starts.{Starts}
use Rattle.ti_rows.specs.declared.rows.Looks.{Looks}
use Rattle.ti_rows.specs.declared.rows.Marks.{Marks}
use Rattle.ti_rows.specs.declared.rows.Row.{Row}
use Rattle.ti_rows.specs.declared.rows.Row.TheVariants.{Sgr, Smso}
use Rattle.ti_conforms.specs.Looks.{is_single}

abbrev pub marks_of : Rendition → Marks
marks_of r = record {
  bold = r.bold;
  faint = r.faint;
  underline = r.underline;
  blink = r.blink;
  negative = r.negative;
  concealed = r.concealed;
}

-- whether the row is one of `sgr` whose set isn't exactly one attribute: such a set shows each attribute as it is shown
-- alone
abbrev pub is_several : Row → Bool
is_several (Sgr a) = not (is_single (number_of a) || number_of a == 64)
is_several _ = false

-- the looks show the one attribute that the row turns on by these marks
abbrev pub ShowsBy : Looks → Row → Marks → Type 0
ShowsBy looks (Sgr a) m = is_several (Sgr a) ≡ false → shown looks a ≡ m
ShowsBy looks Smso m = looks.standout ≡ m
ShowsBy looks _ m = Unit {0}

-- the looks show the row's one attribute by the marks that the bytes turn on: a run from a start of the row without
-- marks ends with just these marks
abbrev pub ShowsAlone : ℕ → ℕ → Row → List ℕ → Looks → Type 0
ShowsAlone rows cols row bytes looks = (before after : Screen) → Starts rows cols row before
    → marks_of before.rendition ≡ no_marks
    → Runs (record { screen = before; rest = [] }) bytes (record { screen = after; rest = [] })
    → ShowsBy looks row (marks_of after.rendition)
