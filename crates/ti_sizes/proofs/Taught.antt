-- What a judged line is asked for with the looks of a whole table, it is asked for with those that the rows before teach.
use Rattle.std.proofs.Common.{◌≡◌, ◌&&◌, ◌||◌, Bool, true, false, refl, sym, ap, ◌∙◌}
use Rattle.std.proofs.lemmas.Bool.{and_parts}
use Rattle.vt_effects.specs.declared.effects.Effect.{Effect}
use Rattle.vt_effects.specs.declared.effects.Ink.{Ink}
use Rattle.vt_effects.specs.Record.{switch_of}
use Rattle.ti_rows.specs.Asked.{asked, just, ink_of, defaults_both_inks, rendering, with_marks_on}
use Rattle.ti_rows.specs.Looks.{learned, marks_on, shown}
use Rattle.ti_rows.specs.Switches.{is_on, on_or_kept}
use Rattle.ti_rows.specs.declared.rows.Attributes.{Attributes}
use Rattle.ti_rows.specs.declared.rows.Looks.{Looks}
use Rattle.ti_rows.specs.declared.rows.Marks.{Marks}
use Rattle.ti_rows.specs.declared.rows.Row.{Row}
use Rattle.ti_rows.specs.declared.rows.Row.TheVariants.{Sgr, Smso}
use Rattle.ti_rows.proofs.Answers.{earlier_kept}
use Rattle.ti_rows.proofs.StartFacts.{never}
use Rattle.ti_checker.specs.Alone.{is_several}
use Rattle.ti_checker.specs.Breakage.{AgreeBefore}
use Rattle.ti_checker.specs.Taught.{IsAskedOf}
use Rattle.ti_checker.proofs.Teaching.{several_shown, same_sets, sets}

-- ---- marks that are on

on_set : (b : Bool) → is_on (switch_of b) ≡ b
on_set true = refl
on_set false = refl

on_kept : (b : Bool) → is_on (on_or_kept b) ≡ b
on_kept true = refl
on_kept false = refl

just_on : (m : Marks) (i : Ink) → marks_on (just m i) ≡ m
just_on m i = same_sets _ _ _ _ _ _ _ _ _ _ _ _ (on_set m.bold) (on_set m.faint) (on_set m.underline) (on_set m.blink) (on_set m.negative) (on_set m.concealed)

adding_on : (m : Marks) → marks_on (with_marks_on m) ≡ m
adding_on m = same_sets _ _ _ _ _ _ _ _ _ _ _ _ (on_kept m.bold) (on_kept m.faint) (on_kept m.underline) (on_kept m.blink) (on_kept m.negative) (on_kept m.concealed)

-- ---- sets of one attribute

abbrev of : Bool → Bool → Bool → Bool → Bool → Bool → Bool → Attributes
of s u r k d b i = record { standout = s; underline = u; reverse = r; blink = k; dim = d; bold = b; invisible = i }

-- whether exactly one attribute is in the set
is_lone : Bool → Bool → Bool → Bool → Bool → Bool → Bool → Bool
is_lone true false false false false false false = true
is_lone false true false false false false false = true
is_lone false false true false false false false = true
is_lone false false false true false false false = true
is_lone false false false false true false false = true
is_lone false false false false false true false = true
is_lone false false false false false false true = true
is_lone _ _ _ _ _ _ _ = false

every : (Bool → Bool) → Bool
every f = f true && f false

every_at : (f : Bool → Bool) → every f ≡ true → (b : Bool) → f b ≡ true
unfolding every
every_at f h true = (and_parts (f true) (f false) h).0
every_at f h false = (and_parts (f true) (f false) h).1

other : (a b : Bool) → (a || b) ≡ true → a ≡ false → b ≡ true
other true b h k = never k
other false b h k = h

abbrev told_apart : Bool → Bool → Bool → Bool → Bool → Bool → Bool → Bool
told_apart s u r k d b i = is_several (Sgr (of s u r k d b i)) || is_lone s u r k d b i

lone : (s u r k d b i : Bool) → is_several (Sgr (of s u r k d b i)) ≡ false → is_lone s u r k d b i ≡ true
unfolding is_lone every
lone s u r k d b i h = other _ _ (every_at (λ z. told_apart s u r k d b z)
    (every_at (λ y. every (λ z. told_apart s u r k d y z))
    (every_at (λ x. every (λ y. every (λ z. told_apart s u r k x y z)))
    (every_at (λ w. every (λ x. every (λ y. every (λ z. told_apart s u r w x y z))))
    (every_at (λ v. every (λ w. every (λ x. every (λ y. every (λ z. told_apart s u v w x y z)))))
    (every_at (λ p. every (λ v. every (λ w. every (λ x. every (λ y. every (λ z. told_apart s p v w x y z))))))
    (every_at (λ q. every (λ p. every (λ v. every (λ w. every (λ x. every (λ y. every (λ z. told_apart q p v w x y z))))))) refl s) u) r) k) d) b) i) h

once : (b : Bool) → ((b || false) || false) ≡ (b || false)
once true = refl
once false = refl

-- the looks show the set by the marks that its own effect turns on
abbrev ShowsOwn : Attributes → Looks → Looks → Effect → Type 0
ShowsOwn a t l e = marks_on e.rendition ≡ shown t a → shown (learned (Sgr a) e l) a ≡ shown t a

alone_shown : (s u r k d b i : Bool) (t l : Looks) (e : Effect) → is_several (Sgr (of s u r k d b i)) ≡ false → ShowsOwn (of s u r k d b i) t l e
unfolding is_lone
alone_shown true false false false false false false t l e h = λ m. m
alone_shown false true false false false false false t l e h = λ m. ap (λ (z : Bool). sets false false (z || false) false false false) (ap (λ (x : Marks). x.underline) m) ∙ ap (λ (z : Bool). sets false false z false false false) (once t.underline)
alone_shown false false true false false false false t l e h = λ m. ap (λ (z : Bool). sets false false false false (z || false) false) (ap (λ (x : Marks). x.negative) m) ∙ ap (λ (z : Bool). sets false false false false z false) (once t.reverse)
alone_shown false false false true false false false t l e h = λ m. ap (λ (z : Bool). sets false false false (z || false) false false) (ap (λ (x : Marks). x.blink) m) ∙ ap (λ (z : Bool). sets false false false z false false) (once t.blink)
alone_shown false false false false true false false t l e h = λ m. ap (λ (z : Bool). sets false (z || false) false false false false) (ap (λ (x : Marks). x.faint) m) ∙ ap (λ (z : Bool). sets false z false false false false) (once t.dim)
alone_shown false false false false false true false t l e h = λ m. ap (λ (z : Bool). sets (z || false) false false false false false) (ap (λ (x : Marks). x.bold) m) ∙ ap (λ (z : Bool). sets z false false false false false) (once t.bold)
alone_shown false false false false false false true t l e h = λ m. ap (λ (z : Bool). sets false false false false false (z || false)) (ap (λ (x : Marks). x.concealed) m) ∙ ap (λ (z : Bool). sets false false false false false z) (once t.invisible)
alone_shown s u r k d b i t l e h = never (sym (lone s u r k d b i h))

-- ---- all rows

agree_after : (a : Attributes) (t l : Looks) (e : Effect) → AgreeBefore (Sgr a) l t → AgreeBefore (Sgr a) (learned (Sgr a) e l) t
agree_after a t l e agree = λ b lt. earlier_kept l a b e lt ∙ agree b lt

shown_so : (a : Attributes) (t l : Looks) (e : Effect) (b : Bool) → is_several (Sgr a) ≡ b → AgreeBefore (Sgr a) l t → ShowsOwn a t l e
shown_so a t l e true several agree = λ m. several_shown a (learned (Sgr a) e l) t several (agree_after a t l e agree)
shown_so a t l e false single agree = alone_shown a.standout a.underline a.reverse a.blink a.dim a.bold a.invisible t l e single

-- the marks that are asked for are those that the effect turns on
set_on : (t : Looks) (a : Attributes) (e : Effect) → e ≡ asked t (Sgr a) e → marks_on e.rendition ≡ shown t a
set_on t a e h = ap (λ (f : Effect). marks_on f.rendition) h ∙ just_on (shown t a) (ink_of (defaults_both_inks e.rendition))

standout_on : (t : Looks) (e : Effect) → e ≡ asked t Smso e → marks_on e.rendition ≡ t.standout
standout_on t e h = ap (λ (f : Effect). marks_on f.rendition) h ∙ adding_on t.standout

pub asked_too : (row : Row) (t l : Looks) (e : Effect) → e ≡ asked t row e → AgreeBefore row l t → IsAskedOf l row e
asked_too (Sgr a) t l e h agree =
    h ∙ ap (λ (m : Marks). rendering (just m (ink_of (defaults_both_inks e.rendition))) e) (sym (shown_so a t l e (is_several (Sgr a)) refl agree (set_on t a e h)))
asked_too Smso t l e h agree = h ∙ ap (λ (m : Marks). rendering (with_marks_on m) e) (sym (standout_on t e h))
asked_too _ t l e h agree = h
