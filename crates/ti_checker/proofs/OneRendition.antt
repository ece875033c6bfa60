-- An effect that no probe shows wrong renders as wanted, from any start of the row.
use Rattle.std.proofs.Common.{◌≡◌, ℕ, ◌<◌, ◌&&◌, ◌||◌, Bool, true, false, if◌then◌else◌, Option, None, Some, refl, sym, ap, subst, ◌∙◌, arith}
use Rattle.std.proofs.lemmas.Bool.{and_parts}
use Rattle.std.proofs.lemmas.Option.{none-some}
use Rattle.vt_term.specs.Color.{Color, Red, Blue}
use Rattle.vt_term.specs.Look.{Rendition}
use Rattle.vt_effects.specs.declared.effects.Effect.{Effect}
use Rattle.vt_effects.specs.declared.effects.Ink.{Ink}
use Rattle.vt_effects.specs.declared.effects.Ink.TheVariants as inks
use Rattle.vt_effects.specs.declared.effects.Rendering.{Rendering}
use Rattle.vt_effects.specs.declared.effects.Switch.{Switch}
use Rattle.vt_effects.specs.Effect.{inked, rendered, switched}
use Rattle.vt_effects.specs.Record.{switch_of}
use Rattle.ti_rows.specs.Asked.{no_marks, start_of, asked, ink_of, is_on, just, with_marks_on}
use Rattle.ti_rows.specs.Looks.{learned, shown}
use Rattle.ti_rows.specs.Wants.{marked}
use Rattle.ti_rows.specs.declared.rows.Attributes.{Attributes}
use Rattle.ti_rows.specs.declared.rows.Looks.{Looks}
use Rattle.ti_rows.specs.declared.rows.Marks.{Marks}
use Rattle.ti_rows.specs.declared.rows.Row.{Row}
use Rattle.ti_rows.specs.declared.rows.Row.TheVariants.{Sgr, Smso}
use Rattle.ti_rows.proofs.Answers.{earlier_kept}
use Rattle.ti_rows.proofs.StartFacts.{never}
use Rattle.ti_checker.specs.Alone.{is_several, marks_of}
use Rattle.ti_checker.specs.Breakage.{AgreeBefore, looks_for, looks_of, marks_after}
use Rattle.ti_checker.specs.Trials.{all_marks, choices_of, probe_by, IsEnd, Only, WithDefaults, WithoutDefaults, EndsAsWanted, EndsBelow}
use Rattle.ti_checker.specs.declared.probes.Probe.{Probe}
use Rattle.ti_checker.proofs.Ends.{ends_as, is_fixed}
use Rattle.ti_checker.proofs.Elsewhere.{agree_with_itself}
use Rattle.ti_checker.proofs.Teaching.{sets, same_sets}
use Rattle.ti_checker.proofs.Wanted.{set_mark}

-- ---- two renderings that do the same if nothing is on and if all is on

pub by_both : (a b : Switch) (c : Bool) → switched a false ≡ switched b false → switched a true ≡ switched b true → switched a c ≡ switched b c
by_both a b true h k = k
by_both a b false h k = h

ink_by_both : (i j : Ink) (d : Color) (c : Option Color) → inked i None ≡ inked j None → inked i (Some d) ≡ inked j (Some d) → inked i c ≡ inked j c
ink_by_both inks.Kept inks.Kept d c h k = refl
ink_by_both inks.Kept inks.Default d c h k = absurd (none-some d (sym k))
ink_by_both inks.Kept (inks.Color y) d c h k = absurd (none-some y h)
ink_by_both inks.Default inks.Kept d c h k = absurd (none-some d k)
ink_by_both inks.Default inks.Default d c h k = refl
ink_by_both inks.Default (inks.Color y) d c h k = absurd (none-some y h)
ink_by_both (inks.Color x) inks.Kept d c h k = absurd (none-some x (sym h))
ink_by_both (inks.Color x) inks.Default d c h k = absurd (none-some x (sym h))
ink_by_both (inks.Color x) (inks.Color y) d c h k = h

marks_by_both : (q r : Rendering) (m : Marks) → marks_after q (all_marks false) ≡ marks_after r (all_marks false) → marks_after q (all_marks true) ≡ marks_after r (all_marks true) → marks_after q m ≡ marks_after r m
marks_by_both q r m h k = same_sets _ _ _ _ _ _ _ _ _ _ _ _
    (by_both q.bold r.bold m.bold (ap (λ (x : Marks). x.bold) h) (ap (λ (x : Marks). x.bold) k))
    (by_both q.faint r.faint m.faint (ap (λ (x : Marks). x.faint) h) (ap (λ (x : Marks). x.faint) k))
    (by_both q.underline r.underline m.underline (ap (λ (x : Marks). x.underline) h) (ap (λ (x : Marks). x.underline) k))
    (by_both q.blink r.blink m.blink (ap (λ (x : Marks). x.blink) h) (ap (λ (x : Marks). x.blink) k))
    (by_both q.negative r.negative m.negative (ap (λ (x : Marks). x.negative) h) (ap (λ (x : Marks). x.negative) k))
    (by_both q.concealed r.concealed m.concealed (ap (λ (x : Marks). x.concealed) h) (ap (λ (x : Marks). x.concealed) k))

from_parts : (r s : Rendition) → marks_of r ≡ marks_of s → r.foreground ≡ s.foreground → r.background ≡ s.background → r ≡ s
from_parts r s h x y =
    ap (λ (m : Marks). marked m r.foreground r.background) h
    ∙ (ap (λ (c : Option Color). marked (marks_of s) c r.background) x
    ∙ ap (λ (c : Option Color). marked (marks_of s) s.foreground c) y)

-- ---- the facts known of the renderings if no probe shows anything wrong

-- two renderings do the same from a probe
record RendersSo (q r : Rendering) (p : Probe) : Type 0 where
  marks : marks_after q p.look ≡ marks_after r p.look
  foreground : inked q.foreground p.foreground ≡ inked r.foreground p.foreground
  background : inked q.background p.background ≡ inked r.background p.background

-- the probe with nothing on, and the probe with all on
abbrev unmarked : ℕ → ℕ → Row → Probe
unmarked rows cols row = probe_by (choices_of 0) (start_of rows cols row) rows

abbrev all_on : ℕ → ℕ → Row → Probe
all_on rows cols row = probe_by (choices_of 8) (start_of rows cols row) rows

-- two renderings that do the same from both probes do so from every rendition
everywhere : (rows cols : ℕ) (row : Row) (q r : Rendering) (s : Rendition) → RendersSo q r (unmarked rows cols row) → RendersSo q r (all_on rows cols row) → rendered q s ≡ rendered r s
everywhere rows cols row q r s h k = from_parts (rendered q s) (rendered r s) (marks_by_both q r (marks_of s) h.marks k.marks) (ink_by_both q.foreground r.foreground Red s.foreground h.foreground k.foreground)
    (ink_by_both q.background r.background Blue s.background h.background k.background)

so_by : {rows cols : ℕ} → (e f : Effect) (r : Rendering) (taught : Looks) (row : Row) (p : Probe) → (h : EndsAsWanted rows cols taught row e p) → h.wanted.rendition ≡ r → RendersSo e.rendition r p
so_by e f r taught row p h is = record {
  marks = h.so.marks ∙ ap (λ (q : Rendering). marks_after q p.look) is;
  foreground = h.so.foreground ∙ ap (λ (q : Rendering). inked q.foreground p.foreground) is;
  background = h.so.background ∙ ap (λ (q : Rendering). inked q.background p.background) is;
}

-- ---- rows whose rendition no look decides

fixed_so : {rows cols : ℕ} → (taught : Looks) (row : Row) (e : Effect) (p : Probe) → is_fixed row ≡ true → EndsAsWanted rows cols taught row e p → RendersSo e.rendition (asked taught row e).rendition p
fixed_so taught row e p fixed h = so_by e h.wanted (asked taught row e).rendition taught row p h ((ends_as (looks_for taught row e) taught row e h.wanted h.is).rendition fixed)

pub fixed_rendered : (rows cols : ℕ) (taught : Looks) (row : Row) (e : Effect) (s : Rendition) → is_fixed row ≡ true → EndsBelow rows cols taught row e 32 → rendered e.rendition s ≡ rendered (asked taught row e).rendition s
fixed_rendered rows cols taught row e s fixed ends =
    everywhere rows cols row e.rendition (asked taught row e).rendition s (fixed_so taught row e (unmarked rows cols row) fixed (ends 0 (omega arith))) (fixed_so taught row e (all_on rows cols row) fixed (ends 8 (omega arith)))

-- ---- standout, which may look like anything that it turns on

-- the marks after the effect, from a start without marks
abbrev alone : Effect → Marks
alone e = marks_after e.rendition no_marks

standout_as : (l : Looks) (e f : Effect) → IsEnd l Smso e f → f.rendition ≡ with_marks_on l.standout
standout_as l e f (Only one is) = ap (λ (g : Effect). g.rendition) is
standout_as l e f (WithDefaults choice is) = never (sym choice)
standout_as l e f (WithoutDefaults choice is) = never (sym choice)

standout_so : {rows cols : ℕ} → (taught : Looks) (e : Effect) (p : Probe) → EndsAsWanted rows cols taught Smso e p → RendersSo e.rendition (with_marks_on (alone e)) p
standout_so taught e p h = so_by e h.wanted (with_marks_on (alone e)) taught Smso p h (standout_as (looks_for taught Smso e) e h.wanted h.is)

pub standout_rendered : (rows cols : ℕ) (taught : Looks) (e : Effect) (s : Rendition) → EndsBelow rows cols taught Smso e 32 → rendered e.rendition s ≡ rendered (with_marks_on (marks_after e.rendition no_marks)) s
standout_rendered rows cols taught e s ends =
    everywhere rows cols Smso e.rendition (with_marks_on (alone e)) s (standout_so taught e (unmarked rows cols Smso) (ends 0 (omega arith))) (standout_so taught e (all_on rows cols Smso) (ends 8 (omega arith)))

-- ---- sets of attributes

-- from a probe the effect leads to exactly the marks of the set, with both colors kept or both default
record ShowsSome (m : Marks) (e : Effect) (p : Probe) : Type 0 where
  defaults : Bool
  so : RendersSo e.rendition (just m (ink_of defaults)) p

shows_some : {rows cols : ℕ} → (l taught : Looks) (a : Attributes) (e : Effect) (p : Probe) → (h : EndsAsWanted rows cols taught (Sgr a) e p) → IsEnd l (Sgr a) e h.wanted → ShowsSome (shown l a) e p
shows_some l taught a e p h (Only one is) = never one
shows_some l taught a e p h (WithDefaults choice is) = record { defaults = true; so = so_by e h.wanted (just (shown l a) inks.Default) taught (Sgr a) p h (ap (λ (g : Effect). g.rendition) is) }
shows_some l taught a e p h (WithoutDefaults choice is) = record { defaults = false; so = so_by e h.wanted (just (shown l a) inks.Kept) taught (Sgr a) p h (ap (λ (g : Effect). g.rendition) is) }

no_ink : (b : Bool) → inked (ink_of b) None ≡ None
no_ink true = refl
no_ink false = refl

just_marks : (m n : Marks) (i : Ink) → m ≡ marks_after (just m i) n
just_marks m n i = same_sets _ _ _ _ _ _ _ _ _ _ _ _ (set_mark m.bold n.bold) (set_mark m.faint n.faint) (set_mark m.underline n.underline) (set_mark m.blink n.blink) (set_mark m.negative n.negative) (set_mark m.concealed n.concealed)

-- with some looks the effect shows the set, with both colors kept or both default, from every rendition
pub record IsRendered (taught : Looks) (a : Attributes) (e : Effect) : Type 0 where
  pub looks : Looks
  pub agree : AgreeBefore (Sgr a) taught looks
  pub defaults : Bool
  pub same : (s : Rendition) → rendered e.rendition s ≡ rendered (just (shown looks a) (ink_of defaults)) s

-- a set is rendered if some looks show it by the marks to which the effect leads from both probes
rendered_by : (rows cols : ℕ) (taught looks : Looks) (a : Attributes) (e : Effect) (m : Marks) → ShowsSome m e (unmarked rows cols (Sgr a)) → ShowsSome m e (all_on rows cols (Sgr a)) → AgreeBefore (Sgr a) taught looks
    → m ≡ shown looks a → IsRendered taught a e
rendered_by rows cols taught looks a e m none all agree is =
    let b : Bool = all.defaults in
    record {
      looks = looks;
      agree = agree;
      defaults = b;
      same = λ s. from_parts (rendered e.rendition s) (rendered (just (shown looks a) (ink_of b)) s)
          (marks_by_both e.rendition (just m inks.Kept) (marks_of s) none.so.marks all.so.marks ∙ (sym (just_marks m (marks_of s) inks.Kept) ∙ (is ∙ just_marks (shown looks a) (marks_of s) (ink_of b))))
          (ink_by_both e.rendition.foreground (ink_of b) Red s.foreground (none.so.foreground ∙ (no_ink none.defaults ∙ sym (no_ink b))) all.so.foreground)
          (ink_by_both e.rendition.background (ink_of b) Blue s.background (none.so.background ∙ (no_ink none.defaults ∙ sym (no_ink b))) all.so.background);
    }

-- a set that is shown by the looks that were taught is rendered
several_rendered : (rows cols : ℕ) (taught : Looks) (a : Attributes) (e : Effect) → ShowsSome (shown taught a) e (unmarked rows cols (Sgr a)) → ShowsSome (shown taught a) e (all_on rows cols (Sgr a)) → IsRendered taught a e
several_rendered rows cols taught a e none all = rendered_by rows cols taught taught a e (shown taught a) none all (agree_with_itself (Sgr a) taught) refl

-- ---- a set of one attribute, shown as from a start without marks

on_set : (b : Bool) → b ≡ is_on (switch_of b)
on_set true = refl
on_set false = refl

-- the looks with that of a set of one attribute learned from these marks
abbrev taught_by : Marks → Attributes → Effect → Looks → Looks
taught_by v a e l = learned (Sgr a) (record e { rendition = just v inks.Kept }) l

abbrev of : Bool → Bool → Bool → Bool → Bool → Bool → Bool → Attributes
of s u r k d b i = record { standout = s; underline = u; reverse = r; blink = k; dim = d; bold = b; invisible = i }

-- whether exactly one attribute is in the set; each set is such a one or one of several
is_lone : Bool → Bool → Bool → Bool → Bool → Bool → Bool → Bool
is_lone true false false false false false false = true
is_lone false true false false false false false = true
is_lone false false true false false false false = true
is_lone false false false true false false false = true
is_lone false false false false true false false = true
is_lone false false false false false true false = true
is_lone false false false false false false true = true
is_lone _ _ _ _ _ _ _ = false

every : (Bool → Bool) → Bool
every f = f true && f false

every_at : (f : Bool → Bool) → every f ≡ true → (b : Bool) → f b ≡ true
unfolding every
every_at f h true = (and_parts (f true) (f false) h).0
every_at f h false = (and_parts (f true) (f false) h).1

other : (a b : Bool) → (a || b) ≡ true → a ≡ false → b ≡ true
other true b h k = never k
other false b h k = h

abbrev told_apart : Bool → Bool → Bool → Bool → Bool → Bool → Bool → Bool
told_apart s u r k d b i = is_several (Sgr (of s u r k d b i)) || is_lone s u r k d b i

lone : (s u r k d b i : Bool) → is_several (Sgr (of s u r k d b i)) ≡ false → is_lone s u r k d b i ≡ true
unfolding is_lone every
lone s u r k d b i h = other _ _ (every_at (λ z. told_apart s u r k d b z)
    (every_at (λ y. every (λ z. told_apart s u r k d y z))
    (every_at (λ x. every (λ y. every (λ z. told_apart s u r k x y z)))
    (every_at (λ w. every (λ x. every (λ y. every (λ z. told_apart s u r w x y z))))
    (every_at (λ v. every (λ w. every (λ x. every (λ y. every (λ z. told_apart s u v w x y z)))))
    (every_at (λ p. every (λ v. every (λ w. every (λ x. every (λ y. every (λ z. told_apart s p v w x y z))))))
    (every_at (λ q. every (λ p. every (λ v. every (λ w. every (λ x. every (λ y. every (λ z. told_apart q p v w x y z))))))) refl s) u) r) k) d) b) i) h

alone_by : (s u r k d b i : Bool) (v : Marks) (e : Effect) (l : Looks) → is_several (Sgr (of s u r k d b i)) ≡ false → shown (looks_of v) (of s u r k d b i) ≡ shown (taught_by v (of s u r k d b i) e l) (of s u r k d b i)
unfolding is_lone
alone_by true false false false false false false v e l h = same_sets _ _ _ _ _ _ _ _ _ _ _ _ (on_set v.bold) (on_set v.faint) (on_set v.underline) (on_set v.blink) (on_set v.negative) (on_set v.concealed)
alone_by false true false false false false false v e l h = ap (λ (z : Bool). sets false false (z || false) false false false) (on_set v.underline)
alone_by false false true false false false false v e l h = ap (λ (z : Bool). sets false false false false (z || false) false) (on_set v.negative)
alone_by false false false true false false false v e l h = ap (λ (z : Bool). sets false false false (z || false) false false) (on_set v.blink)
alone_by false false false false true false false v e l h = ap (λ (z : Bool). sets false (z || false) false false false false) (on_set v.faint)
alone_by false false false false false true false v e l h = ap (λ (z : Bool). sets (z || false) false false false false false) (on_set v.bold)
alone_by false false false false false false true v e l h = ap (λ (z : Bool). sets false false false false false (z || false)) (on_set v.concealed)
alone_by s u r k d b i v e l h = never (sym (lone s u r k d b i h))

alone_rendered : (rows cols : ℕ) (taught : Looks) (a : Attributes) (e : Effect) → is_several (Sgr a) ≡ false → ShowsSome (shown (looks_of (alone e)) a) e (unmarked rows cols (Sgr a))
    → ShowsSome (shown (looks_of (alone e)) a) e (all_on rows cols (Sgr a)) → IsRendered taught a e
alone_rendered rows cols taught a e single none all =
    rendered_by rows cols taught (taught_by (alone e) a e taught) a e (shown (looks_of (alone e)) a) none all (λ b lt. sym (earlier_kept taught a b (record e { rendition = just (alone e) inks.Kept }) lt))
    (alone_by a.standout a.underline a.reverse a.blink a.dim a.bold a.invisible (alone e) e taught single)

-- the looks by which the probes were judged
told : (taught : Looks) (a : Attributes) (e : Effect) (b : Bool) → is_several (Sgr a) ≡ b → looks_for taught (Sgr a) e ≡ (if b then taught else looks_of (alone e))
told taught a e b h = ap (λ (z : Bool). if z then taught else looks_of (alone e)) h

some_by : (rows cols : ℕ) (taught : Looks) (a : Attributes) (e : Effect) (b : Bool) (k : ℕ) → is_several (Sgr a) ≡ b → k < 32 → EndsBelow rows cols taught (Sgr a) e 32
    → ShowsSome (shown (if b then taught else looks_of (alone e)) a) e (probe_by (choices_of k) (start_of rows cols (Sgr a)) rows)
some_by rows cols taught a e b k is lt ends =
    let p : Probe = probe_by (choices_of k) (start_of rows cols (Sgr a)) rows in
    shows_some _ taught a e p (ends k lt) (subst (λ (l : Looks). IsEnd l (Sgr a) e (ends k lt).wanted) (told taught a e b is) (ends k lt).is)

set_by : (rows cols : ℕ) (taught : Looks) (a : Attributes) (e : Effect) (b : Bool) → is_several (Sgr a) ≡ b → EndsBelow rows cols taught (Sgr a) e 32 → IsRendered taught a e
set_by rows cols taught a e true several ends = several_rendered rows cols taught a e (some_by rows cols taught a e true 0 several (omega arith) ends) (some_by rows cols taught a e true 8 several (omega arith) ends)
set_by rows cols taught a e false single ends = alone_rendered rows cols taught a e single (some_by rows cols taught a e false 0 single (omega arith) ends) (some_by rows cols taught a e false 8 single (omega arith) ends)

pub set_rendered : (rows cols : ℕ) (taught : Looks) (a : Attributes) (e : Effect) → EndsBelow rows cols taught (Sgr a) e 32 → IsRendered taught a e
set_rendered rows cols taught a e ends = set_by rows cols taught a e (is_several (Sgr a)) refl ends
