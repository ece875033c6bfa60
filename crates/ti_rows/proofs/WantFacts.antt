-- A record that the table asks for does what is wanted.
use Rattle.std.proofs.Common.{◌≡◌, ℕ, Bool, true, false, ◌||◌, if◌then◌else◌, Option, inl, inr, refl, sym, ap, ◌∙◌, subst}
use Rattle.vt_term.specs.Color.{Color}
use Rattle.vt_term.specs.Look.{Rendition, blank}
use Rattle.vt_term.specs.Screen.{Screen}
use Rattle.vt_effects.specs.declared.effects.Effect.{Effect}
use Rattle.vt_effects.specs.declared.effects.Rendering.{Rendering}
use Rattle.vt_effects.specs.declared.effects.Erasure.{Erasure}
use Rattle.vt_effects.specs.declared.effects.Erasure.TheVariants as erasures
use Rattle.vt_effects.specs.Effect.{applied, switched, inked, rendered, erased}
use Rattle.vt_effects.specs.Record.{switch_of}
use Rattle.ti_rows.specs.Rows.{Marks, Looks, Row, Cub1, Cuf1, Cuu1, Cud1, Cub, Cuf, Cuu, Cud, El, El1, Ed, Ech, Sgr, Smso, Csr, Ind, Ri, Cvvis, Smcup, Rmcup}
use Rattle.ti_rows.specs.Looks.{shown}
use Rattle.ti_rows.specs.Starts.{Starts}
use Rattle.ti_rows.specs.Wants.{Wants, Appears, HasJust, ErasesOnce, Nothing, Everything, ToLineEnd, FromLineStart, ToScreenEnd, NextCells, StaysOrEnds, Bounds, Enters, marked, adding}
use Rattle.ti_rows.specs.Asked.{asked, on_or_kept, is_on, ink_of, defaults_both_inks, just, with_marks_on, rendering, bounding, entering}

ends_calm : (b p : Bool) → p ≡ false → (if b then false else p) ≡ p
ends_calm true p h = sym h
ends_calm false p h = refl

set_mark : (b x : Bool) → switched (switch_of b) x ≡ b
set_mark true x = refl
set_mark false x = refl

mark_on_or_kept : (b x : Bool) → switched (on_or_kept b) x ≡ (b || x)
mark_on_or_kept true x = refl
mark_on_or_kept false x = refl

pub same_marks : (a b c d e f a' b' c' d' e' f' : Bool) (x y : Option Color) → a ≡ a' → b ≡ b' → c ≡ c' → d ≡ d' → e ≡ e' → f ≡ f' →
    marked (record { bold = a; faint = b; underline = c; blink = d; negative = e; concealed = f }) x y ≡ marked (record { bold = a'; faint = b'; underline = c'; blink = d'; negative = e'; concealed = f' }) x y
same_marks a b c d e f a' b' c' d' e' f' x y p q r s t u =
    ap (λ (z : Bool). marked (record { bold = z; faint = b; underline = c; blink = d; negative = e; concealed = f }) x y) p
    ∙ ap (λ (z : Bool). marked (record { bold = a'; faint = z; underline = c; blink = d; negative = e; concealed = f }) x y) q
    ∙ ap (λ (z : Bool). marked (record { bold = a'; faint = b'; underline = z; blink = d; negative = e; concealed = f }) x y) r
    ∙ ap (λ (z : Bool). marked (record { bold = a'; faint = b'; underline = c'; blink = z; negative = e; concealed = f }) x y) s
    ∙ ap (λ (z : Bool). marked (record { bold = a'; faint = b'; underline = c'; blink = d'; negative = z; concealed = f }) x y) t
    ∙ ap (λ (z : Bool). marked (record { bold = a'; faint = b'; underline = c'; blink = d'; negative = e'; concealed = z }) x y) u

marks_shown : (m : Marks) (default : Bool) (r : Rendition) → rendered (just m (ink_of default)) r ≡ marked m (inked (ink_of default) r.foreground) (inked (ink_of default) r.background)
marks_shown m default r = same_marks _ _ _ _ _ _ _ _ _ _ _ _ (inked (ink_of default) r.foreground) (inked (ink_of default) r.background)
    (set_mark m.bold r.bold) (set_mark m.faint r.faint) (set_mark m.underline r.underline) (set_mark m.blink r.blink) (set_mark m.negative r.negative) (set_mark m.concealed r.concealed)

marks_added : (m : Marks) (r : Rendition) → rendered (with_marks_on m) r ≡ adding m r
marks_added m r = same_marks _ _ _ _ _ _ _ _ _ _ _ _ r.foreground r.background
    (mark_on_or_kept m.bold r.bold) (mark_on_or_kept m.faint r.faint) (mark_on_or_kept m.underline r.underline) (mark_on_or_kept m.blink r.blink) (mark_on_or_kept m.negative r.negative) (mark_on_or_kept m.concealed r.concealed)

-- the screen after a record of a rendition
rendition_set : (r : Rendering) (q : Rendition) (e : Effect) (s : Screen) → rendered r s.rendition ≡ q → applied (rendering r e) s ≡ record s { rendition = q; charset = (applied (rendering r e) s).charset }
rendition_set r q e s h = ap (λ (x : Rendition). record s { rendition = x; charset = (applied (rendering r e) s).charset }) h

shows_inks : (m : Marks) (default : Bool) (e : Effect) (s : Screen) → HasJust m s (applied (rendering (just m (ink_of default)) e) s)
shows_inks m true e s = inr (rendition_set (just m (ink_of true)) _ e s (marks_shown m true s.rendition))
shows_inks m false e s = inl (rendition_set (just m (ink_of false)) _ e s (marks_shown m false s.rendition))

appears : (b : Bool) (s : Screen) → Appears s (record s { visible = switched (on_or_kept b) s.visible })
appears true s = inl refl
appears false s = inr refl

-- the six erasures of a record
erases_once : (x : Erasure) (s : Screen) → ErasesOnce s (erased x s.row s.col (blank s.rendition) s.grid)
erases_once erasures.Nothing s = Nothing refl
erases_once erasures.Screen s = Everything refl
erases_once erasures.Tail s = ToLineEnd refl
erases_once erasures.Head s = FromLineStart refl
erases_once erasures.Rest s = ToScreenEnd refl
erases_once (erasures.Next n) s = NextCells n refl

stays_or_ends : (ends before : Bool) → StaysOrEnds before (if ends then false else before)
stays_or_ends true before = inr refl
stays_or_ends false before = inl refl

bounds : (top bottom : ℕ) (e : Effect) (s : Screen) → Bounds top bottom s (applied (bounding top bottom e) s)
bounds top bottom e s = record { others = refl; pending = stays_or_ends e.ends_pending s.pending }

enters : (e : Effect) (s : Screen) → Enters s (applied (entering e) s)
enters e s = record { others = refl; cells = erases_once e.erasure s; pending = stays_or_ends e.ends_pending s.pending }

asked_wanted : (rows cols : ℕ) (l : Looks) (row : Row) (e : Effect) (s : Screen) → Starts rows cols row s → Wants l row s (applied (asked l row e) s)
asked_wanted rows cols l Cub1 e s h = ap (λ (p : Bool). record s { col = (applied (asked l Cub1 e) s).col; pending = p }) (ends_calm e.ends_pending s.pending h.0.pending)
asked_wanted rows cols l Cuf1 e s h = ap (λ (p : Bool). record s { col = (applied (asked l Cuf1 e) s).col; pending = p }) (ends_calm e.ends_pending s.pending h.0.pending)
asked_wanted rows cols l Cuu1 e s h = ap (λ (p : Bool). record s { row = (applied (asked l Cuu1 e) s).row; pending = p }) (ends_calm e.ends_pending s.pending h.0.pending)
asked_wanted rows cols l Cud1 e s h = ap (λ (p : Bool). record s { row = (applied (asked l Cud1 e) s).row; pending = p }) (ends_calm e.ends_pending s.pending h.0.pending)
asked_wanted rows cols l (Cub n) e s h = ap (λ (p : Bool). record s { col = (applied (asked l (Cub n) e) s).col; pending = p }) (ends_calm e.ends_pending s.pending h.0.pending)
asked_wanted rows cols l (Cuf n) e s h = ap (λ (p : Bool). record s { col = (applied (asked l (Cuf n) e) s).col; pending = p }) (ends_calm e.ends_pending s.pending h.0.pending)
asked_wanted rows cols l (Cuu n) e s h = ap (λ (p : Bool). record s { row = (applied (asked l (Cuu n) e) s).row; pending = p }) (ends_calm e.ends_pending s.pending h.0.pending)
asked_wanted rows cols l (Cud n) e s h = ap (λ (p : Bool). record s { row = (applied (asked l (Cud n) e) s).row; pending = p }) (ends_calm e.ends_pending s.pending h.0.pending)
asked_wanted rows cols l El e s h = ap (λ (p : Bool). record s { grid = (applied (asked l El e) s).grid; pending = p }) (ends_calm e.ends_pending s.pending h.pending)
asked_wanted rows cols l El1 e s h = ap (λ (p : Bool). record s { grid = (applied (asked l El1 e) s).grid; pending = p }) (ends_calm e.ends_pending s.pending h.pending)
asked_wanted rows cols l Ed e s h = ap (λ (p : Bool). record s { grid = (applied (asked l Ed e) s).grid; pending = p }) (ends_calm e.ends_pending s.pending h.pending)
asked_wanted rows cols l (Ech n) e s h = ap (λ (p : Bool). record s { grid = (applied (asked l (Ech n) e) s).grid; pending = p }) (ends_calm e.ends_pending s.pending h.pending)
asked_wanted rows cols l (Sgr a) e s h = shows_inks (shown l a) (defaults_both_inks e.rendition) e s
asked_wanted rows cols l Smso e s h = rendition_set (with_marks_on l.standout) _ e s (marks_added l.standout s.rendition)
asked_wanted rows cols l (Csr top bottom) e s h = bounds top bottom e s
asked_wanted rows cols l Ind e s h = ap (λ (p : Bool). record s { grid = (applied (asked l Ind e) s).grid; pending = p }) (ends_calm e.ends_pending s.pending h.0.pending)
asked_wanted rows cols l Ri e s h = ap (λ (p : Bool). record s { grid = (applied (asked l Ri e) s).grid; pending = p }) (ends_calm e.ends_pending s.pending h.0.pending)
asked_wanted rows cols l Cvvis e s h = appears (is_on e.visible) s
asked_wanted rows cols l Smcup e s h = enters e s
asked_wanted rows cols l Rmcup e s h = enters e s
asked_wanted rows cols l row e s h = refl

pub asked_is_wanted : (rows cols : ℕ) (l : Looks) (row : Row) (e : Effect) → e ≡ asked l row e → (s : Screen) → Starts rows cols row s → Wants l row s (applied e s)
asked_is_wanted rows cols l row e met s h = subst (λ (f : Effect). Wants l row s (applied f s)) (sym met) (asked_wanted rows cols l row e s h)
