-- The wanted end of an effect is the end of the effect that the table asks for.
use Rattle.std.proofs.Common.{◌≡◌, ℕ, Bool, true, false, ◌&&◌, ◌||◌, if◌then◌else◌, Option, None, ◌⊎◌, inl, inr, refl, sym, ap, subst, ◌∙◌}
use Rattle.std.proofs.lemmas.Bool.{true≢false}
use Rattle.vt_term.specs.Color.{Color}
use Rattle.vt_term.specs.Look.{Rendition}
use Rattle.vt_term.specs.Screen.{Screen}
use Rattle.vt_effects.specs.declared.effects.Effect.{Effect}
use Rattle.vt_effects.specs.declared.effects.Ink.TheVariants as inks
use Rattle.vt_effects.specs.Effect.{applied, switched, rendered}
use Rattle.vt_effects.specs.Record.{switch_of}
use Rattle.ti_rows.specs.declared.rows.Attributes.{Attributes}
use Rattle.ti_rows.specs.declared.rows.Marks.{Marks}
use Rattle.ti_rows.specs.declared.rows.Looks.{Looks}
use Rattle.ti_rows.specs.declared.rows.Row.{Row}
use Rattle.ti_rows.specs.declared.rows.Row.TheVariants.{Cub1, Cuf1, Cuu1, Cud1, Cub, Cuf, Cuu, Cud, El, El1, Ed, Ech, Sgr, Smso, Csr, Ind, Ri, Cvvis, Smcup, Rmcup}
use Rattle.ti_rows.specs.Looks.{shown}
use Rattle.ti_rows.specs.Starts.{Starts}
use Rattle.ti_rows.specs.Wants.{Wants, marked}
use Rattle.ti_rows.specs.Asked.{asked, no_marks, on_or_kept, just, with_marks_on}
use Rattle.ti_rows.proofs.WantFacts.{same_marks}
use Rattle.ti_checker.specs.Probes.{screen_of}
use Rattle.ti_checker.specs.Alone.{is_several, ShowsBy}
use Rattle.ti_checker.specs.Breakage.{has_choice, wanted_end, with_defaults, without_defaults, marks_after, looks_of, looks_for, AgreeBefore, EndAlike, NotWanted}
use Rattle.ti_checker.specs.declared.probes.Probe.{Probe}
use Rattle.ti_checker.proofs.Teaching.{several_shown}

never : {A : Type 0} → true ≡ false → A
never h = absurd (true≢false h)

-- ---- marks

pub set_mark : (b x : Bool) → b ≡ switched (switch_of b) x
set_mark true x = refl
set_mark false x = refl

or_kept : (b x : Bool) → (b || x) ≡ switched (on_or_kept b) x
or_kept true x = refl
or_kept false x = refl

absorbed : (m s : Bool) → (m || (s && m)) ≡ m
absorbed true s = refl
absorbed false true = refl
absorbed false false = refl

-- a mark that is shown is shown by the looks that are seen, too
shown_mark : (a s x y m : Bool) → m ≡ ((a && x) || (s && y)) → ((a && x) || (s && y)) ≡ ((a && m) || (s && m))
shown_mark true s x y m h = sym h ∙ sym (absorbed m s)
shown_mark false true x y m h = sym h
shown_mark false false x y m h = refl

just_shown : (l : Looks) (a : Attributes) (m : Marks) (x y : Option Color)
    → m.bold ≡ (shown l a).bold → m.faint ≡ (shown l a).faint → m.underline ≡ (shown l a).underline → m.blink ≡ (shown l a).blink → m.negative ≡ (shown l a).negative → m.concealed ≡ (shown l a).concealed
    → (r : Rendition) → marked (shown l a) x y ≡ record (rendered (just (shown (looks_of m) a) inks.Kept) r) { foreground = x; background = y }
just_shown l a m x y b f u k n c r = same_marks _ _ _ _ _ _ _ _ _ _ _ _ x y
    (shown_mark a.bold a.standout l.bold l.standout.bold m.bold b ∙ set_mark (shown (looks_of m) a).bold r.bold)
    (shown_mark a.dim a.standout l.dim l.standout.faint m.faint f ∙ set_mark (shown (looks_of m) a).faint r.faint)
    (shown_mark a.underline a.standout l.underline l.standout.underline m.underline u ∙ set_mark (shown (looks_of m) a).underline r.underline)
    (shown_mark a.blink a.standout l.blink l.standout.blink m.blink k ∙ set_mark (shown (looks_of m) a).blink r.blink)
    (shown_mark a.reverse a.standout l.reverse l.standout.negative m.negative n ∙ set_mark (shown (looks_of m) a).negative r.negative)
    (shown_mark a.invisible a.standout l.invisible l.standout.concealed m.concealed c ∙ set_mark (shown (looks_of m) a).concealed r.concealed)

just_added : (l m : Marks) (r : Rendition) (x y : Option Color) → l ≡ m
    → marked (record { bold = l.bold || r.bold; faint = l.faint || r.faint; underline = l.underline || r.underline; blink = l.blink || r.blink; negative = l.negative || r.negative; concealed = l.concealed || r.concealed }) x y
    ≡ record (rendered (with_marks_on m) r) { foreground = x; background = y }
just_added l m r x y h = same_marks _ _ _ _ _ _ _ _ _ _ _ _ x y
    (ap (λ (z : Marks). z.bold || r.bold) h ∙ or_kept m.bold r.bold) (ap (λ (z : Marks). z.faint || r.faint) h ∙ or_kept m.faint r.faint)
    (ap (λ (z : Marks). z.underline || r.underline) h ∙ or_kept m.underline r.underline) (ap (λ (z : Marks). z.blink || r.blink) h ∙ or_kept m.blink r.blink)
    (ap (λ (z : Marks). z.negative || r.negative) h ∙ or_kept m.negative r.negative) (ap (λ (z : Marks). z.concealed || r.concealed) h ∙ or_kept m.concealed r.concealed)

-- ---- a row with one wanted end

calm_end : (b p : Bool) → p ≡ false → p ≡ (if b then false else p)
calm_end true p h = h
calm_end false p h = refl

-- the marks after the effect from a start without marks, and the looks by which attributes show these marks
abbrev alone : Effect → Marks
alone e = marks_after e.rendition no_marks

abbrev pub seen_alone : Effect → Looks
seen_alone e = looks_of (alone e)

standout_asked : (rows cols : ℕ) (l : Looks) (e : Effect) (p : Probe) → l.standout ≡ alone e → Wants l Smso (screen_of rows cols p) (applied e (screen_of rows cols p)) → EndAlike e (asked (seen_alone e) Smso e) (screen_of rows cols p)
standout_asked rows cols l e p by h =
    let s : Screen = screen_of rows cols p in
    h ∙ ap (λ (r : Rendition). record s { rendition = r; charset = (applied e s).charset }) (just_added l.standout (alone e) s.rendition p.foreground p.background by)

one_end : (rows cols : ℕ) (l : Looks) (row : Row) (e : Effect) (p : Probe) → has_choice row ≡ false → Starts rows cols row (screen_of rows cols p) → ShowsBy l row (alone e)
    → Wants l row (screen_of rows cols p) (applied e (screen_of rows cols p)) → EndAlike e (wanted_end (seen_alone e) row e) (screen_of rows cols p)
one_end rows cols l Cub1 e p one st by h = h ∙ ap (λ (z : Bool). record (screen_of rows cols p) { col = (applied (asked (seen_alone e) Cub1 e) (screen_of rows cols p)).col; pending = z }) (calm_end e.ends_pending p.pending st.0.pending)
one_end rows cols l Cuf1 e p one st by h = h ∙ ap (λ (z : Bool). record (screen_of rows cols p) { col = (applied (asked (seen_alone e) Cuf1 e) (screen_of rows cols p)).col; pending = z }) (calm_end e.ends_pending p.pending st.0.pending)
one_end rows cols l Cuu1 e p one st by h = h ∙ ap (λ (z : Bool). record (screen_of rows cols p) { row = (applied (asked (seen_alone e) Cuu1 e) (screen_of rows cols p)).row; pending = z }) (calm_end e.ends_pending p.pending st.0.pending)
one_end rows cols l Cud1 e p one st by h = h ∙ ap (λ (z : Bool). record (screen_of rows cols p) { row = (applied (asked (seen_alone e) Cud1 e) (screen_of rows cols p)).row; pending = z }) (calm_end e.ends_pending p.pending st.0.pending)
one_end rows cols l (Cub n) e p one st by h = h ∙ ap (λ (z : Bool). record (screen_of rows cols p) { col = (applied (asked (seen_alone e) (Cub n) e) (screen_of rows cols p)).col; pending = z }) (calm_end e.ends_pending p.pending st.0.pending)
one_end rows cols l (Cuf n) e p one st by h = h ∙ ap (λ (z : Bool). record (screen_of rows cols p) { col = (applied (asked (seen_alone e) (Cuf n) e) (screen_of rows cols p)).col; pending = z }) (calm_end e.ends_pending p.pending st.0.pending)
one_end rows cols l (Cuu n) e p one st by h = h ∙ ap (λ (z : Bool). record (screen_of rows cols p) { row = (applied (asked (seen_alone e) (Cuu n) e) (screen_of rows cols p)).row; pending = z }) (calm_end e.ends_pending p.pending st.0.pending)
one_end rows cols l (Cud n) e p one st by h = h ∙ ap (λ (z : Bool). record (screen_of rows cols p) { row = (applied (asked (seen_alone e) (Cud n) e) (screen_of rows cols p)).row; pending = z }) (calm_end e.ends_pending p.pending st.0.pending)
one_end rows cols l El e p one st by h = h ∙ ap (λ (z : Bool). record (screen_of rows cols p) { grid = (applied (asked (seen_alone e) El e) (screen_of rows cols p)).grid; pending = z }) (calm_end e.ends_pending p.pending st.pending)
one_end rows cols l El1 e p one st by h = h ∙ ap (λ (z : Bool). record (screen_of rows cols p) { grid = (applied (asked (seen_alone e) El1 e) (screen_of rows cols p)).grid; pending = z }) (calm_end e.ends_pending p.pending st.pending)
one_end rows cols l Ed e p one st by h = h ∙ ap (λ (z : Bool). record (screen_of rows cols p) { grid = (applied (asked (seen_alone e) Ed e) (screen_of rows cols p)).grid; pending = z }) (calm_end e.ends_pending p.pending st.pending)
one_end rows cols l (Ech n) e p one st by h = h ∙ ap (λ (z : Bool). record (screen_of rows cols p) { grid = (applied (asked (seen_alone e) (Ech n) e) (screen_of rows cols p)).grid; pending = z }) (calm_end e.ends_pending p.pending st.pending)
one_end rows cols l (Sgr a) e p one st by h = never one
one_end rows cols l Smso e p one st by h = standout_asked rows cols l e p by h
one_end rows cols l (Csr top bottom) e p one st by h = h.others
one_end rows cols l Ind e p one st by h = h ∙ ap (λ (z : Bool). record (screen_of rows cols p) { grid = (applied (asked (seen_alone e) Ind e) (screen_of rows cols p)).grid; pending = z }) (calm_end e.ends_pending p.pending st.0.pending)
one_end rows cols l Ri e p one st by h = h ∙ ap (λ (z : Bool). record (screen_of rows cols p) { grid = (applied (asked (seen_alone e) Ri e) (screen_of rows cols p)).grid; pending = z }) (calm_end e.ends_pending p.pending st.0.pending)
one_end rows cols l Cvvis e p one st by h = never one
one_end rows cols l Smcup e p one st by h = h.others
one_end rows cols l Rmcup e p one st by h = h.others
one_end rows cols l row e p one st by h = h

-- the looks for a row with one wanted end are those that are seen
one_seen : (taught : Looks) (row : Row) (e : Effect) → has_choice row ≡ false → looks_for taught row e ≡ seen_alone e
one_seen taught (Sgr a) e one = never one
one_seen taught _ e one = refl

-- a row with one wanted end isn't satisfied if the ends differ
pub one_end_missed : (rows cols : ℕ) (taught : Looks) (row : Row) (e : Effect) (p : Probe) → has_choice row ≡ false → Starts rows cols row (screen_of rows cols p)
    → (EndAlike e (wanted_end (looks_for taught row e) row e) (screen_of rows cols p) → ⊥) → NotWanted rows cols taught row e p
one_end_missed rows cols taught row e p one st apart l agree by h =
    apart (subst (λ (m : Looks). EndAlike e (wanted_end m row e) (screen_of rows cols p)) (sym (one_seen taught row e one)) (one_end rows cols l row e p one st by h))

-- ---- a row with two wanted ends

abbrev pub TwoEnds : ℕ → ℕ → Looks → Row → Effect → Probe → Type 0
TwoEnds rows cols m row e p = EndAlike e (asked m row (with_defaults e)) (screen_of rows cols p) ⊎ EndAlike e (asked m row (without_defaults e)) (screen_of rows cols p)

-- a set of one attribute is shown as the effect shows it from a start without marks
shown_alone : (l : Looks) (a : Attributes) (m : Marks) (x y : Option Color) → shown l a ≡ m → (r : Rendition) → marked (shown l a) x y ≡ record (rendered (just (shown (looks_of m) a) inks.Kept) r) { foreground = x; background = y }
shown_alone l a m x y by r = just_shown l a m x y (sym (ap (λ (z : Marks). z.bold) by)) (sym (ap (λ (z : Marks). z.faint) by)) (sym (ap (λ (z : Marks). z.underline) by))
    (sym (ap (λ (z : Marks). z.blink) by)) (sym (ap (λ (z : Marks). z.negative) by)) (sym (ap (λ (z : Marks). z.concealed) by)) r

two_inks : (rows cols : ℕ) (l : Looks) (a : Attributes) (e : Effect) (p : Probe) → shown l a ≡ alone e → Wants l (Sgr a) (screen_of rows cols p) (applied e (screen_of rows cols p)) → TwoEnds rows cols (seen_alone e) (Sgr a) e p
two_inks rows cols l a e p by (inl h) =
    let s : Screen = screen_of rows cols p in
    inr (h ∙ ap (λ (r : Rendition). record s { rendition = r; charset = (applied e s).charset }) (shown_alone l a (alone e) p.foreground p.background by s.rendition))
two_inks rows cols l a e p by (inr h) =
    let s : Screen = screen_of rows cols p in
    inl (h ∙ ap (λ (r : Rendition). record s { rendition = r; charset = (applied e s).charset }) (shown_alone l a (alone e) None None by s.rendition))

-- exactly these marks, whatever was on before
just_these : (m : Marks) (x y : Option Color) (r : Rendition) → marked m x y ≡ record (rendered (just m inks.Kept) r) { foreground = x; background = y }
just_these m x y r = same_marks _ _ _ _ _ _ _ _ _ _ _ _ x y (set_mark m.bold r.bold) (set_mark m.faint r.faint) (set_mark m.underline r.underline) (set_mark m.blink r.blink) (set_mark m.negative r.negative) (set_mark m.concealed r.concealed)

-- the ends of a set that is shown as was taught
taught_inks : (rows cols : ℕ) (l taught : Looks) (a : Attributes) (e : Effect) (p : Probe) → shown taught a ≡ shown l a → Wants l (Sgr a) (screen_of rows cols p) (applied e (screen_of rows cols p)) → TwoEnds rows cols taught (Sgr a) e p
taught_inks rows cols l taught a e p same (inl h) =
    let s : Screen = screen_of rows cols p in
    inr (h ∙ (ap (λ (m : Marks). record s { rendition = marked m p.foreground p.background; charset = (applied e s).charset }) (sym same)
    ∙ ap (λ (r : Rendition). record s { rendition = r; charset = (applied e s).charset }) (just_these (shown taught a) p.foreground p.background s.rendition)))
taught_inks rows cols l taught a e p same (inr h) =
    let s : Screen = screen_of rows cols p in
    inl (h ∙ (ap (λ (m : Marks). record s { rendition = marked m None None; charset = (applied e s).charset }) (sym same)
    ∙ ap (λ (r : Rendition). record s { rendition = r; charset = (applied e s).charset }) (just_these (shown taught a) None None s.rendition)))

set_ends : (rows cols : ℕ) (l taught : Looks) (a : Attributes) (e : Effect) (p : Probe) (b : Bool) → is_several (Sgr a) ≡ b → AgreeBefore (Sgr a) taught l → ShowsBy l (Sgr a) (alone e) → Wants l (Sgr a) (screen_of rows cols p) (applied e (screen_of rows cols p))
    → TwoEnds rows cols (if b then taught else seen_alone e) (Sgr a) e p
set_ends rows cols l taught a e p true several agree by h = taught_inks rows cols l taught a e p (several_shown a taught l several agree) h
set_ends rows cols l taught a e p false single agree by h = two_inks rows cols l a e p (by single) h

appeared : (rows cols : ℕ) (l : Looks) (e : Effect) (p : Probe) → Wants l Cvvis (screen_of rows cols p) (applied e (screen_of rows cols p)) → TwoEnds rows cols (seen_alone e) Cvvis e p
appeared rows cols l e p (inl h) = inl h
appeared rows cols l e p (inr h) = inr h

two_ends : (rows cols : ℕ) (l taught : Looks) (row : Row) (e : Effect) (p : Probe) → has_choice row ≡ true → AgreeBefore row taught l → ShowsBy l row (alone e) → Wants l row (screen_of rows cols p) (applied e (screen_of rows cols p)) → TwoEnds rows cols (looks_for taught row e) row e p
two_ends rows cols l taught (Sgr a) e p choice agree by h = set_ends rows cols l taught a e p (is_several (Sgr a)) refl agree by h
two_ends rows cols l taught Cvvis e p choice agree by h = appeared rows cols l e p h
two_ends rows cols l taught _ e p choice agree by h = never (sym choice)

neither : {A B : Type 0} → (A → ⊥) → (B → ⊥) → A ⊎ B → ⊥
neither f g (inl h) = f h
neither f g (inr h) = g h

pub two_ends_missed : (rows cols : ℕ) (taught : Looks) (row : Row) (e : Effect) (p : Probe) → has_choice row ≡ true
    → (EndAlike e (asked (looks_for taught row e) row (with_defaults e)) (screen_of rows cols p) → ⊥) → (EndAlike e (asked (looks_for taught row e) row (without_defaults e)) (screen_of rows cols p) → ⊥) → NotWanted rows cols taught row e p
two_ends_missed rows cols taught row e p choice apart off l agree by h = neither apart off (two_ends rows cols l taught row e p choice agree by h)
