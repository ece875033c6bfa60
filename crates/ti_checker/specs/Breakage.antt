-- A string's wrong effect, seen from a probe.
use Rattle.std.specs.Prelude.{ℕ, ◌≡◌, ◌<◌, Bool, true, false, if◌then◌else◌, List, [], Some, None}
use Rattle.vt_term.specs.Screen.{Screen}
use Rattle.vt_effects.specs.declared.effects.Effect.{Effect}
use Rattle.vt_effects.specs.declared.effects.Rendering.{Rendering}
use Rattle.vt_effects.specs.declared.effects.Ink.TheVariants as inks
use Rattle.vt_effects.specs.declared.effects.Switch.TheVariants as switches
use Rattle.vt_effects.specs.Effect.{applied, rendered}
use Rattle.vt_effects.specs.Record.{record_of}
use Rattle.vt_term.specs.Run.{Runs}
use Rattle.vt_term.specs.Text.{Splits}
use Rattle.ti_rows.specs.Bits.{number_of}
use Rattle.ti_rows.specs.Looks.{shown}
use Rattle.ti_rows.specs.declared.rows.Attributes.{Attributes}
use Rattle.ti_rows.specs.declared.rows.Looks.{Looks}
use Rattle.ti_rows.specs.declared.rows.Marks.{Marks}
use Rattle.ti_rows.specs.declared.rows.Row.{Row}
use Rattle.ti_rows.specs.declared.rows.Row.TheVariants.{Sgr, Cvvis, Smcup, Rmcup}
use Rattle.ti_rows.specs.Asked.{no_marks, start_of, asked}
use Rattle.ti_rows.specs.Starts.{Starts}
use Rattle.ti_rows.specs.Wants.{Wants, marked}
use Rattle.ti_checker.specs.Alone.{is_several, marks_of, ShowsAlone, ShowsBy}
use Rattle.ti_checker.specs.First.{StandBefore}
use Rattle.ti_checker.specs.Probes.{screen_of}
use Rattle.ti_checker.specs.Taught.{IsTaught}
use Rattle.ti_checker.specs.declared.probes.Probe.{Probe}

-- The probe is a start of the row, and the run of the bytes from it has an end that isn't wanted. This must hold for
-- all looks of attributes with which the string's rows before this one are right, and which show the one attribute that
-- the row turns on, if it is just one, as the bytes do from a start without marks.
pub record Breaks (rows cols : ℕ) (string : List ℕ) (row : Row) (bytes : List ℕ) (p : Probe) : Type 0 where
  pub starts : Starts rows cols row (screen_of rows cols p)
  pub after : Screen
  pub runs : Runs (record { screen = screen_of rows cols p; rest = [] }) bytes (record { screen = after; rest = [] })
  pub unwanted : (looks : Looks) → StandBefore rows cols looks string row → ShowsAlone rows cols row bytes looks
      → Wants looks row (screen_of rows cols p) after → ⊥

-- for a row of `sgr`, both looks show each parameter list before it by the same marks; for other rows, nothing is
-- needed
abbrev pub AgreeBefore : Row → Looks → Looks → Type 0
AgreeBefore (Sgr a) l m = (b : Attributes) → number_of b < number_of a → shown l b ≡ shown m b
AgreeBefore _ l m = Unit {0}

-- the marks after an effect's rendering, starting from these marks
abbrev pub marks_after : Rendering → Marks → Marks
marks_after e m = marks_of (rendered e (marked m None None))

-- the end of the effect isn't wanted, for all looks that agree with what the rows before taught and with which the one
-- attribute that the row turns on looks as the effect shows it from a start without marks
abbrev pub NotWanted : ℕ → ℕ → Looks → Row → Effect → Probe → Type 0
NotWanted rows cols taught row e p = (looks : Looks) → AgreeBefore row taught looks
    → ShowsBy looks row (marks_after e.rendition no_marks)
    → Wants looks row (screen_of rows cols p) (applied e (screen_of rows cols p)) → ⊥

-- the probe is a start of the row, and from it the end of the effect isn't wanted
pub record IsShown (rows cols : ℕ) (taught : Looks) (row : Row) (e : Effect) (p : Probe) : Type 0 where
  pub starts : Starts rows cols row (screen_of rows cols p)
  pub unwanted : NotWanted rows cols taught row e p

-- if the probe shows that the effect of the bytes isn't wanted, with the looks that the rows before taught, the run of
-- the bytes from it has an end that isn't wanted (`Breaks`)
abbrev pub ShownBreaks : Type 0
ShownBreaks = (rows cols : ℕ) (string : List ℕ) (taught : Looks) (row : Row) (bytes : List ℕ)
    → (tokens : List (List ℕ)) (e : Effect) (p : Probe) → IsTaught rows cols string row taught → Splits bytes tokens []
    → record_of rows cols (start_of rows cols row) tokens ≡ Some e → IsShown rows cols taught row e p
    → Breaks rows cols string row bytes p

-- ---- (Serves the code alone.) The wanted ends of an effect.

-- the rows with two wanted ends: after `sgr` both colors stay or both are default, after `cvvis` the cursor becomes
-- visible or all stays
abbrev pub has_choice : Row → Bool
has_choice (Sgr a) = true
has_choice Cvvis = true
has_choice _ = false

-- the rows whose wanted end has the cells, the cursor's place, the rendition and the sets that the effect itself leaves
abbrev pub is_free : Row → Bool
is_free Smcup = true
is_free Rmcup = true
is_free _ = false

abbrev pub wanted_end : Looks → Row → Effect → Effect
wanted_end l row e = if is_free row then record e { margins = None; visible = switches.Kept } else asked l row e

-- the effect, changed so that `asked` leads to the first or to the second of two wanted ends
abbrev pub with_defaults : Effect → Effect
with_defaults e =
    record e {
      rendition = record e.rendition { foreground = inks.Default; background = inks.Default };
      visible = switches.On;
    }

abbrev pub without_defaults : Effect → Effect
without_defaults e =
    record e {
      rendition = record e.rendition { foreground = inks.Kept; background = inks.Kept };
      visible = switches.Kept;
    }

-- the looks by which standout shows exactly these marks, and each other attribute its own mark if it is one of them
abbrev pub looks_of : Marks → Looks
looks_of m = record {
  standout = m;
  underline = m.underline;
  reverse = m.negative;
  blink = m.blink;
  dim = m.faint;
  bold = m.bold;
  invisible = m.concealed;
}

-- the looks by which the end of the effect is judged: those taught, for a row of `sgr` that doesn't turn on just one
-- attribute; for other rows, those that the effect shows from a start without marks
abbrev pub looks_for : Looks → Row → Effect → Looks
looks_for taught row e = if is_several row then taught else looks_of (marks_after e.rendition no_marks)

-- two effects lead from the screen to one end
abbrev pub EndAlike : Effect → Effect → Screen → Type 0
EndAlike e f s = applied e s ≡ applied f s
