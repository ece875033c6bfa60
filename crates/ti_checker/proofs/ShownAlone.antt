-- Looks with which a row is right show the one attribute that it turns on as its bytes do from starts without marks.
use Rattle.std.proofs.Common.{◌≡◌, ℕ, Bool, true, false, ◌||◌, List, [], refl, sym, ap, subst, ◌∙◌}
use Rattle.vt_term.specs.Screen.{State, Screen}
use Rattle.vt_term.proofs.Runs.{runs_once}
use Rattle.ti_rows.specs.Asked.{no_marks}
use Rattle.ti_rows.specs.Looks.{shown}
use Rattle.ti_rows.specs.Right.{IsRight}
use Rattle.ti_rows.specs.Wants.{Wants}
use Rattle.ti_rows.specs.declared.rows.Looks.{Looks}
use Rattle.ti_rows.specs.declared.rows.Marks.{Marks}
use Rattle.ti_rows.specs.declared.rows.Row.{Row}
use Rattle.ti_rows.specs.declared.rows.Row.TheVariants.{Sgr, Smso}
use Rattle.ti_checker.specs.Alone.{marks_of, ShowsAlone, ShowsBy}
use Rattle.ti_checker.proofs.Mislooked.{just_marks}
use Rattle.ti_checker.proofs.Teaching.{same_sets}

-- a mark that was off is on afterwards exactly if it is added
from_none : (l b : Bool) → b ≡ false → l ≡ (l || b)
from_none true b h = refl
from_none false b h = sym h

standout_alone : (l : Marks) (s : Screen) → marks_of s.rendition ≡ no_marks
    → l ≡ record { bold = l.bold || s.rendition.bold; faint = l.faint || s.rendition.faint; underline = l.underline || s.rendition.underline; blink = l.blink || s.rendition.blink; negative = l.negative || s.rendition.negative; concealed = l.concealed || s.rendition.concealed }
standout_alone l s u = same_sets l.bold l.faint l.underline l.blink l.negative l.concealed _ _ _ _ _ _
    (from_none l.bold s.rendition.bold (ap (λ (m : Marks). m.bold) u))
    (from_none l.faint s.rendition.faint (ap (λ (m : Marks). m.faint) u))
    (from_none l.underline s.rendition.underline (ap (λ (m : Marks). m.underline) u))
    (from_none l.blink s.rendition.blink (ap (λ (m : Marks). m.blink) u))
    (from_none l.negative s.rendition.negative (ap (λ (m : Marks). m.negative) u))
    (from_none l.concealed s.rendition.concealed (ap (λ (m : Marks). m.concealed) u))

shows_by : (l : Looks) (row : Row) (s t : Screen) → marks_of s.rendition ≡ no_marks → Wants l row s t → ShowsBy l row (marks_of t.rendition)
shows_by l (Sgr a) s t u w = λ single. sym (just_marks (shown l a) s t w)
shows_by l Smso s t u w = standout_alone l.standout s u ∙ sym (ap (λ (x : Screen). marks_of x.rendition) w)
shows_by l _ s t u w = tt

pub right_alone : (rows cols : ℕ) (l : Looks) (row : Row) (bytes : List ℕ) → IsRight rows cols l row bytes → ShowsAlone rows cols row bytes l
right_alone rows cols l row bytes r before after starts unmarked runs =
    let s : State = record { screen = before; rest = [] } in
    let e = r.ends s refl starts in
    let same : e.after ≡ record { screen = after; rest = [] } = runs_once s (record { screen = after; rest = [] }) e.after bytes runs e.runs in
    shows_by l row before after unmarked (subst (λ (x : State). Wants l row before x.screen) same e.wanted)
