-- An attribute alone shows a mark that isn't its own, by its effect or by the run.
use Rattle.std.proofs.Common.{◌≡◌, inl, inr, ℕ, ◌==◌, ◌||◌, ◌&&◌, ◌<◌, not, Bool, true, false, if◌then◌else◌, List, [], Some, None, refl, sym, ap, subst, ◌∙◌, arith}
use Rattle.std.proofs.lemmas.Bool.{true≢false, false≢true, eqb-true}
use Rattle.vt_term.specs.Screen.{State, Screen, Charset}
use Rattle.vt_term.specs.Size.{IsSize}
use Rattle.vt_term.specs.Text.{Splits}
use Rattle.vt_term.proofs.Runs.{runs_once}
use Rattle.vt_effects.specs.Effect.{applied}
use Rattle.vt_effects.specs.Record.{record_of}
use Rattle.vt_effects.specs.declared.effects.Effect.{Effect}
use Rattle.vt_effects.proofs.Sounds.{runs_right}
use Rattle.ti_rows.specs.Asked.{no_marks, start_of}
use Rattle.ti_rows.specs.Bits.{bit, number_of}
use Rattle.ti_rows.specs.Looks.{shown}
use Rattle.ti_rows.specs.Right.{IsRight}
use Rattle.ti_rows.specs.Starts.{Starts, IsFree}
use Rattle.ti_rows.specs.Wants.{Wants, HasJust}
use Rattle.ti_rows.specs.declared.rows.Attributes.{Attributes}
use Rattle.ti_rows.specs.declared.rows.Looks.{Looks}
use Rattle.ti_rows.specs.declared.rows.Marks.{Marks}
use Rattle.ti_rows.specs.declared.rows.Row.{Row}
use Rattle.ti_rows.specs.declared.rows.Row.TheVariants.{Sgr, Smul, Rev, Blink, Dim, Bold, Invis}
use Rattle.ti_rows.proofs.StartFacts.{starts_allowed}
use Rattle.ti_conforms.specs.Looks.{is_single}
use Rattle.ti_checker.specs.Breakage.{marks_after}
use Rattle.ti_checker.specs.Alone.{marks_of}
use Rattle.ti_checker.specs.Mislooks.{own_marks, other_in, shows_other, Mislooks, looks_other}
use Rattle.ti_checker.proofs.Quiet.{start, starts_free}

-- ---- by the effect

free_start : (rows cols : ℕ) (row : Row) (m : Marks) (s : Screen) → shows_other row m ≡ true → IsFree rows cols s → Starts rows cols row s
free_start rows cols (Sgr a) m s h free = free
free_start rows cols Smul m s h free = free
free_start rows cols Rev m s h free = free
free_start rows cols Blink m s h free = free
free_start rows cols Dim m s h free = free
free_start rows cols Bold m s h free = free
free_start rows cols Invis m s h free = free
free_start rows cols _ m s h free = absurd (false≢true h)

plain_sets : Charset
plain_sets = record { g0_graphic = false; g1_graphic = false; shifted_out = false }

pub mislooks : (rows cols : ℕ) (row : Row) (bytes : List ℕ) (tokens : List (List ℕ)) (e : Effect) → IsSize rows cols → Splits bytes tokens [] → record_of rows cols (start_of rows cols row) tokens ≡ Some e
    → looks_other row e ≡ true → Mislooks rows cols row bytes
mislooks rows cols row bytes tokens e size split recorded other =
    let s : State = start rows cols plain_sets in
    let starts : Starts rows cols row s.screen = free_start rows cols row (marks_after e.rendition no_marks) s.screen other (starts_free rows cols plain_sets size) in
    record {
      before = s.screen;
      starts = starts;
      unmarked = refl;
      after = applied e s.screen;
      runs = runs_right rows cols (start_of rows cols row) tokens e recorded s bytes refl (starts_allowed rows cols row s.screen starts) split;
      other = other;
    }

pub not_mislooks : (rows cols : ℕ) (row : Row) (bytes : List ℕ) (tokens : List (List ℕ)) (e : Effect) → Splits bytes tokens [] → record_of rows cols (start_of rows cols row) tokens ≡ Some e
    → looks_other row e ≡ false → Mislooks rows cols row bytes → ⊥
not_mislooks rows cols row bytes tokens e split recorded own m =
    let s : State = record { screen = m.before; rest = [] } in
    let end : State = record { screen = applied e m.before; rest = [] } in
    let same : record { screen = m.after; rest = [] } ≡ end = runs_once s end (record { screen = m.after; rest = [] })
    bytes (runs_right rows cols (start_of rows cols row) tokens e recorded s bytes refl (starts_allowed rows cols row m.before m.starts) split) m.runs in
    false≢true (sym own ∙ (sym (ap (λ (x : Marks). shows_other row (marks_after e.rendition x)) m.unmarked)
    ∙ (sym (ap (λ (x : State). shows_other row (marks_of x.screen.rendition)) same) ∙ m.other)))

-- ---- rows that are right

small_single : (n : ℕ) → is_single n ≡ true → n < 64
small_single n h = by_one (n == 1) _ (λ t. omega (arith, eqb-true n 1 t))
    (λ h1. by_one (n == 2) _ (λ t. omega (arith, eqb-true n 2 t))
    (λ h2. by_one (n == 4) _ (λ t. omega (arith, eqb-true n 4 t))
    (λ h3. by_one (n == 8) _ (λ t. omega (arith, eqb-true n 8 t))
    (λ h4. by_one (n == 16) _ (λ t. omega (arith, eqb-true n 16 t))
    (λ h5. omega (arith, eqb-true n 32 h5)) h4) h3) h2) h1) h
  where
    by_one : (b c : Bool) → (b ≡ true → n < 64) → (c ≡ true → n < 64) → (b || c) ≡ true → n < 64
    by_one true c f g e = f refl
    by_one false c f g e = g e

no_standout : (a : Attributes) → is_single (number_of a) ≡ true → a.standout ≡ false
no_standout a h = by_standout a.standout (let lt = small_single (number_of a) h in omega (arith, lt))
  where
    by_standout : (b : Bool) → bit b ≡ 0 → b ≡ false
    by_standout true e = absurd (omega (arith, e))
    by_standout false e = refl

none_here : (b x y s : Bool) → s ≡ false → (((b && x) || (s && y)) && not b) ≡ false
none_here true true y s h = refl
none_here true false y true h = absurd (true≢false h)
none_here true false y false h = refl
none_here false x y true h = absurd (true≢false h)
none_here false x y false h = refl

none_of : (a b c d e f : Bool) → a ≡ false → b ≡ false → c ≡ false → d ≡ false → e ≡ false → f ≡ false → (a || (b || (c || (d || (e || f))))) ≡ false
none_of true b c d e f h i j k l m = absurd (true≢false h)
none_of false true c d e f h i j k l m = absurd (true≢false i)
none_of false false true d e f h i j k l m = absurd (true≢false j)
none_of false false false true e f h i j k l m = absurd (true≢false k)
none_of false false false false true f h i j k l m = absurd (true≢false l)
none_of false false false false false f h i j k l m = m

own_shown : (l : Looks) (a : Attributes) (b : Bool) → is_single (number_of a) ≡ b → other_in (if b then Some (own_marks a) else None) (shown l a) ≡ false
own_shown l a false h = refl
own_shown l a true h =
    let s = no_standout a h in
    none_of _ _ _ _ _ _ (none_here a.bold l.bold l.standout.bold a.standout s) (none_here a.dim l.dim l.standout.faint a.standout s) (none_here a.underline l.underline l.standout.underline a.standout s)
    (none_here a.blink l.blink l.standout.blink a.standout s) (none_here a.reverse l.reverse l.standout.negative a.standout s) (none_here a.invisible l.invisible l.standout.concealed a.standout s)

pub just_marks : (m : Marks) (s t : Screen) → HasJust m s t → marks_of t.rendition ≡ m
just_marks m s t (inl e) = ap (λ (x : Screen). marks_of x.rendition) e
just_marks m s t (inr e) = ap (λ (x : Screen). marks_of x.rendition) e

none_other : (l : Looks) (row : Row) (s t : Screen) → marks_of s.rendition ≡ no_marks → Wants l row s t → shows_other row (marks_of t.rendition) ≡ false
none_other l (Sgr a) s t u w = ap (λ (m : Marks). shows_other (Sgr a) m) (just_marks (shown l a) s t w) ∙ own_shown l a (is_single (number_of a)) refl
none_other l Smul s t u w = ap (λ (x : Screen). shows_other Smul (marks_of x.rendition)) w ∙ ap (λ (m : Marks). shows_other Smul (record m { underline = true })) u
none_other l Rev s t u w = ap (λ (x : Screen). shows_other Rev (marks_of x.rendition)) w ∙ ap (λ (m : Marks). shows_other Rev (record m { negative = true })) u
none_other l Blink s t u w = ap (λ (x : Screen). shows_other Blink (marks_of x.rendition)) w ∙ ap (λ (m : Marks). shows_other Blink (record m { blink = true })) u
none_other l Dim s t u w = ap (λ (x : Screen). shows_other Dim (marks_of x.rendition)) w ∙ ap (λ (m : Marks). shows_other Dim (record m { faint = true })) u
none_other l Bold s t u w = ap (λ (x : Screen). shows_other Bold (marks_of x.rendition)) w ∙ ap (λ (m : Marks). shows_other Bold (record m { bold = true })) u
none_other l Invis s t u w = ap (λ (x : Screen). shows_other Invis (marks_of x.rendition)) w ∙ ap (λ (m : Marks). shows_other Invis (record m { concealed = true })) u
none_other l _ s t u w = refl

-- bytes that are right for a row show no mark but the attribute's own
pub right_looks : (rows cols : ℕ) (l : Looks) (row : Row) (bytes : List ℕ) → IsRight rows cols l row bytes → Mislooks rows cols row bytes → ⊥
right_looks rows cols l row bytes r m =
    let s : State = record { screen = m.before; rest = [] } in
    let e = r.ends s refl m.starts in
    let same : e.after ≡ record { screen = m.after; rest = [] } = runs_once s (record { screen = m.after; rest = [] }) e.after bytes m.runs e.runs in
    let w : Wants l row m.before m.after = subst (λ (x : State). Wants l row m.before x.screen) same e.wanted in
    false≢true (sym (none_other l row m.before m.after m.unmarked w) ∙ m.other)
