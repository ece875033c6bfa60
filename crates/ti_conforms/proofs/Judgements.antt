-- A judged line ends as wanted, and may be cut off.
use Rattle.std.proofs.Common.{◌≡◌, ℕ, Bool, true, false, List, [], ◌∷◌, Option, Some, refl, sym, ap, subst, ◌∙◌}
use Rattle.std.specs.Prelude.{is_some}
use Rattle.std.proofs.lemmas.Bool.{false≢true}
use Rattle.vt_term.specs.Screen.{State, Screen, Charset}
use Rattle.vt_term.specs.Function.{function_of}
use Rattle.vt_term.specs.Step.{step, steps}
use Rattle.vt_term.proofs.Charsets.{act_charset}
use Rattle.vt_term.proofs.Runs.{text_runs}
use Rattle.vt_term.proofs.Splits.{one_splitting}
use Rattle.vt_effects.specs.Effect.{applied, designated}
use Rattle.vt_effects.specs.Settings.{EachKeepsMargins, EachKeepsVisible}
use Rattle.vt_effects.proofs.Sounds.{record_right}
use Rattle.ti_conforms.specs.Charsets.{charset_after, charset_over}
use Rattle.ti_rows.specs.declared.rows.Row.{Row}
use Rattle.ti_rows.specs.declared.rows.Row.TheVariants.{Csr, Cnorm}
use Rattle.ti_rows.specs.Asked.{start_of}
use Rattle.ti_rows.specs.Starts.{Starts}
use Rattle.ti_rows.specs.Wants.{Wants}
use Rattle.ti_rows.specs.Right.{IsRight, sets_margins, sets_visible}
use Rattle.ti_rows.proofs.StartFacts.{starts_allowed}
use Rattle.ti_rows.proofs.WantFacts.{asked_is_wanted}
use Rattle.ti_rows.proofs.Rightness.{recorded_is_right}
use Rattle.vt_term.specs.Ends.{Closed, Ends}
use Rattle.ti_conforms.specs.Lines.{StaysIn, MayBeCut}
use Rattle.ti_conforms.proofs.Fronts.{fronts_stay}
use Rattle.ti_conforms.specs.Table.{Table, has, widening, Activates, Ended}
use Rattle.ti_conforms.specs.Judged.{AskedLine, IsJudged}
use Rattle.ti_conforms.specs.Holds.{LineHolds}

pub over_steps : (ts : List (List ℕ)) (s : Screen) → (steps ts s).charset ≡ charset_over ts s.charset
over_steps [] s = refl
over_steps (t ∷ ts) s = over_steps ts (step t s) ∙ ap (λ (c : Charset). charset_over ts c) (act_charset (function_of t) s)

over_stays : (among : Charset → Bool) (ts : List (List ℕ)) (c : Charset) → StaysIn among ts → among c ≡ true → among (charset_over ts c) ≡ true
over_stays among [] c stays h = h
over_stays among (t ∷ ts) c stays h = over_stays among ts (charset_after (function_of t) c) stays.1 (stays.0 c h)

pub right : (t : Table) (row : Row) (bytes : List ℕ) → AskedLine t row bytes → IsRight t.rows t.cols t.looks row bytes
right t row bytes l = recorded_is_right t.rows t.cols t.looks row bytes l.tokens l.effect l.whole l.recorded l.asked_for

activates_as : (row : Row) (c d : Charset) → d ≡ c → Activates row c → Activates row d
activates_as row c d e h = subst (λ (x : Charset). Activates row x) (sym e) h

pub ends : (t : Table) (row : Row) (bytes : List ℕ) → AskedLine t row bytes → (s : State) → s.rest ≡ [] → Starts t.rows t.cols row s.screen → Ends s bytes (Closed (Ended t row s.screen))
ends t row bytes l s rest start =
    let same : steps l.tokens s.screen ≡ applied l.effect s.screen = record_right t.rows t.cols (start_of t.rows t.cols row) l.tokens l.effect l.recorded s.screen (starts_allowed t.rows t.cols row s.screen start) in
    let charset : (steps l.tokens s.screen).charset ≡ designated l.effect.charset s.screen.charset = ap (λ (x : Screen). x.charset) same in
    record {
      after = record { screen = steps l.tokens s.screen; rest = [] };
      runs = text_runs s bytes l.tokens rest l.whole;
      there = record {
        rest = refl;
        screen = record {
          wants = subst (λ (x : Screen). Wants t.looks row s.screen x) (sym same) (asked_is_wanted t.rows t.cols t.looks row l.effect l.asked_for s.screen start);
          settled = λ k h. ap (λ (c : Charset). t.settled c) charset ∙ l.settles k s.screen.charset h;
          active = λ h. activates_as row (designated l.effect.charset s.screen.charset) _ charset (l.active s.screen.charset h);
          reached = λ h. ap (λ (c : Charset). t.reached c) (over_steps l.tokens s.screen) ∙ over_stays t.reached l.tokens s.screen.charset l.stays h;
        };
      };
    }

sets_widening : (t : Table) (row : Row) → IsJudged t → has t row ≡ true → sets_margins row ≡ true → has t (widening t) ≡ true
sets_widening t (Csr top bottom) j h e = j.widens top bottom h
sets_widening t _ j h e = absurd (false≢true e)

-- margins stay if there is no line of `csr`
kept_margins : (t : Table) (row : Row) (tokens : List (List ℕ)) (b : Bool) → sets_margins row ≡ b → (sets_margins row ≡ false → EachKeepsMargins t.rows tokens) → (sets_margins row ≡ true → has t (widening t) ≡ true) → has t (widening t) ≡ false → EachKeepsMargins t.rows tokens
kept_margins t row tokens false e keeps widens none = keeps e
kept_margins t row tokens true e keeps widens none = let no : false ≡ true = sym none ∙ widens e in absurd (false≢true no)

kept_visible : (t : Table) (row : Row) (tokens : List (List ℕ)) (b : Bool) → sets_visible row ≡ b → (sets_visible row ≡ false → EachKeepsVisible tokens) → (sets_visible row ≡ true → has t Cnorm ≡ true) → has t Cnorm ≡ false → EachKeepsVisible tokens
kept_visible t row tokens false e keeps shows none = keeps e
kept_visible t row tokens true e keeps shows none = let no : false ≡ true = sym none ∙ shows e in absurd (false≢true no)

pub may_be_cut : (t : Table) (row : Row) (bytes : List ℕ) → IsJudged t → t.line_of row ≡ Some bytes → AskedLine t row bytes → (sets_visible row ≡ true → has t Cnorm ≡ true) → MayBeCut t.rows (has t (widening t)) (has t Cnorm) t.reached bytes
may_be_cut t row bytes j there l shows =
    let r : IsRight t.rows t.cols t.looks row bytes = right t row bytes l in
    let same = one_splitting bytes r.tokens l.tokens [] [] r.whole l.whole in
    record {
      tokens = r.tokens;
      whole = r.whole;
      tame = r.tame;
      stays = subst (λ (ts : List (List ℕ)). StaysIn t.reached ts) same.0 l.stays;
      margins = kept_margins t row r.tokens (sets_margins row) refl r.margins (sets_widening t row j (ap (λ (o : Option (List ℕ)). is_some o) there));
      visible = kept_visible t row r.tokens (sets_visible row) refl r.visible shows;
    }

pub line : (t : Table) → IsJudged t → (row : Row) (bytes : List ℕ) → t.line_of row ≡ Some bytes → LineHolds t row bytes
line t j row bytes there =
    let l : AskedLine t row bytes = j.lines row bytes there in
    record {
      right = right t row bytes l;
      ends = ends t row bytes l;
      fronts = λ shows s rest lost front back parts. fronts_stay t.rows t.cols (has t (widening t)) (has t Cnorm) t.reached bytes (may_be_cut t row bytes j there l shows) s rest lost front back parts;
    }
