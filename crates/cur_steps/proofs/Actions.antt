-- From a line of the certificate to a step.
use Rattle.std.proofs.Common.{◌≡◌, ℕ, ◌≤◌, List, length, Some, Ok, Result, true, sym, ap, arith}
use Rattle.vt_term.specs.Screen.{State}
use Rattle.cur_steps.specs.Leads.{Leads}
use Rattle.cur_steps.specs.Wire.{IsWire, Sends}
use Rattle.vt_term.specs.Ends.{Closed, Ends}
use Rattle.cur_steps.specs.WireSteps.{Spells, Steps}
use Rattle.cur_steps.proofs.Stops.{leads_line, spells_as, spells_sent, steps_nothing, steps_sent}
use Rattle.cur_steps.proofs.Completion.{ends_sized}
use Rattle.ti_rows.specs.declared.rows.Row.{Row}
use Rattle.ti_conforms.specs.Certified.{Table, IsLost, IsReady, IsChecked, IsCheckedLine, IsPiece, Line, Ended, limit_of, or_nothing, text_of}
use Rattle.cur_steps.specs.Beliefs.{Agrees, Belief, LeadsTo, Turns}
use Rattle.cur_steps.specs.Pieces.{IsPaint, Stroke, paints}
use Rattle.cur_steps.specs.Steps.{Acts}
use Rattle.cur_steps.specs.declared.inks.Ink.{Ink}

pub ready_lost : (t : Table) → IsChecked t → (s : State) → IsReady t s → IsLost t s
ready_lost t checked s h = record {
  sized = h.sized;
  tame = h.tame;
  reached = checked.settled_reached s.screen.charset h.settled;
  margins = λ e. h.whole;
  visible = h.visible;
}

pub agrees_lost : (t : Table) → IsChecked t → (g : ℕ → ℕ → Ink) (b : Belief) (s : State) → Agrees t g b s → IsLost t s
agrees_lost t checked g b s h = ready_lost t checked s h.ready

-- a step that sends nothing, as the terminal already agrees with the belief after it
pub acts_nothing : {W E : Type 0} (went : W → W → List ℕ → Type 0) (failures : W → ℕ) → IsWire went failures → (a : W) (t : Table) → IsChecked t → (n : ℕ) (g h : ℕ → ℕ → Ink) (b c : Belief)
    → ((s : State) → Agrees t g b s → Agrees t h c s) → Acts {T = Unit {0}} {E = E} went failures a a (Ok tt) t n g h b c
acts_nothing went failures lawful a t checked n g h b c so =
    steps_nothing went failures lawful a tt (IsPaint t) n (IsLost t) (Agrees t g b) (Agrees t h c) (λ s x. x.ready.rest) so (agrees_lost t checked g b)

-- the end of a line's run
pub line_ends : (t : Table) → IsChecked t → (row : Row) (bytes : List ℕ) → t.line_of row ≡ Some bytes → (g h : ℕ → ℕ → Ink) (b c : Belief) → Turns t row g b h c → (s : State) → Agrees t g b s → Ends s bytes (Agrees t h c)
line_ends t checked row bytes is g h b c turns s x =
    let line : IsCheckedLine t row bytes = checked.lines row bytes is in
    ends_sized t.rows t.cols s bytes (Closed (Ended t row s.screen)) (Agrees t h c) x.ready.sized (λ u sized k. turns.ends s u x sized k.rest k.screen) (line.drives.right s x.ready.rest (turns.starts s x))

-- one line, each prefix of which leaves a lost state
pub line_leads : (P : List ℕ → Type 0) (t : Table) → IsChecked t → (row : Row) (bytes : List ℕ) → t.line_of row ≡ Some bytes → P bytes → (n : ℕ) → length bytes ≤ n → (g h : ℕ → ℕ → Ink) (b c : Belief) → Turns t row g b h c → Leads P n (IsLost t) (Agrees t g b) bytes (Agrees t h c)
line_leads P t checked row bytes is sort n le g h b c turns =
    leads_line P n (IsLost t) (Agrees t g b) (Agrees t h c) bytes sort le (line_ends t checked row bytes is g h b c turns)
    (λ s x front back e. (let line : IsCheckedLine t row bytes = checked.lines row bytes is in line.drives.fronts s x.ready.rest (agrees_lost t checked g b s x) front back e))

-- a line that paints, sent where its row starts
pub line_sent : {W T E : Type 0} (went : W → W → List ℕ → Type 0) (failures : W → ℕ) (a z : W) (answer : Result T E) (t : Table) → IsChecked t → (row : Row) (bytes : List ℕ) → t.line_of row ≡ Some bytes → paints row ≡ true
    → (n : ℕ) (g h : ℕ → ℕ → Ink) (b c : Belief) → length bytes ≤ n → Turns t row g b h c → Sends went failures a z bytes answer
    → Steps went failures a z answer (IsPaint t) n (IsLost t) (Agrees t g b) (Agrees t h c)
line_sent went failures a z answer t checked row bytes is paint n g h b c le turns sends =
    steps_sent went failures a z answer (IsPaint t) n (IsLost t) (Agrees t g b) (Agrees t h c) bytes (line_leads (IsPaint t) t checked row bytes is (Stroke row paint is) n le g h b c turns) (agrees_lost t checked h c) sends

-- a line that paints, within the row's limit
pub line_steps : {W T E : Type 0} (went : W → W → List ℕ → Type 0) (failures : W → ℕ) (a z : W) (answer : Result T E) (t : Table) → IsChecked t → (row : Row) (bytes : List ℕ) → t.line_of row ≡ Some bytes → paints row ≡ true
    → (n : ℕ) (g h : ℕ → ℕ → Ink) (b c : Belief) → limit_of t row ≤ n → Turns t row g b h c → Sends went failures a z bytes answer
    → Steps went failures a z answer (IsPaint t) n (IsLost t) (Agrees t g b) (Agrees t h c)
line_steps went failures a z answer t checked row bytes is paint n g h b c le turns sends =
    line_sent went failures a z answer t checked row bytes is paint n g h b c (omega (arith, (checked.lines row bytes is).short, le)) turns sends

-- a line that paints, with exactly the bytes that go out
pub line_spelled : {W T E : Type 0} (went : W → W → List ℕ → Type 0) (failures : W → ℕ) (a z : W) (answer : Result T E) (t : Table) → IsChecked t → (row : Row) (bytes : List ℕ) → t.line_of row ≡ Some bytes
    → (g : ℕ → ℕ → Ink) (b c : Belief) → Turns t row g b g c → Sends went failures a z bytes answer
    → Spells went failures a z answer (text_of t row) (IsPiece t) (limit_of t row) (IsLost t) (Agrees t g b) (Agrees t g c)
line_spelled went failures a z answer t checked row bytes is g b c turns sends =
    let short : length bytes ≤ limit_of t row = (checked.lines row bytes is).short in
    spells_as went failures a z answer bytes (text_of t row) (IsPiece t) (limit_of t row) (limit_of t row) (IsLost t) (Agrees t g b) (Agrees t g c) (sym (ap or_nothing is)) (omega arith)
    (spells_sent went failures a z answer (IsPiece t) (limit_of t row) (IsLost t) (Agrees t g b) (Agrees t g c) bytes (line_leads (IsPiece t) t checked row bytes is (Line row is) (limit_of t row) short g g b c turns) (agrees_lost t checked g c) sends)

-- a line that paints, and leads from the first belief to the second
pub line_leading : {W T E : Type 0} (went : W → W → List ℕ → Type 0) (failures : W → ℕ) (a z : W) (answer : Result T E) (t : Table) → IsChecked t → (row : Row) (bytes : List ℕ) → t.line_of row ≡ Some bytes → paints row ≡ true
    → (n : ℕ) (g h : ℕ → ℕ → Ink) (b c : Belief) → limit_of t row ≤ n → LeadsTo t bytes g b h c → Sends went failures a z bytes answer
    → Steps went failures a z answer (IsPaint t) n (IsLost t) (Agrees t g b) (Agrees t h c)
line_leading went failures a z answer t checked row bytes is paint n g h b c le ends sends =
    let line : IsCheckedLine t row bytes = checked.lines row bytes is in
    let leads : Leads (IsPaint t) n (IsLost t) (Agrees t g b) bytes (Agrees t h c) =
    leads_line (IsPaint t) n (IsLost t) (Agrees t g b) (Agrees t h c) bytes (Stroke row paint is) (omega (arith, line.short, le)) ends
    (λ s k front back e. line.drives.fronts s k.ready.rest (agrees_lost t checked g b s k) front back e) in
    steps_sent went failures a z answer (IsPaint t) n (IsLost t) (Agrees t g b) (Agrees t h c) bytes leads (agrees_lost t checked h c) sends
