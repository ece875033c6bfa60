-- Attributes that look alike.
use Rattle.std.proofs.Common.{◌≡◌, ℕ, ◌&&◌, ◌||◌, Bool, true, false, List, Some, refl, sym, ap, ◌∙◌, inl, inr}
use Rattle.vt_term.specs.Look.{Rendition}
use Rattle.vt_term.specs.Screen.{Screen, State}
use Rattle.vt_term.specs.Ends.{Closed, Ends}
use Rattle.vt_term.proofs.Runs.{runs_once}
use Rattle.ti_rows.specs.declared.rows.Attributes.{Attributes}
use Rattle.ti_rows.specs.declared.rows.Marks.{Marks}
use Rattle.ti_rows.specs.declared.rows.Row.TheVariants.{Sgr, Smul, Rev, Blink, Dim, Bold, Invis, Smso}
use Rattle.ti_rows.specs.Looks.{shown}
use Rattle.ti_rows.specs.Wants.{HasJust, marked}
use Rattle.ti_conforms.specs.Certified.{Table, HasSingles, IsChecked, Ended, has}
use Rattle.cur_steps.specs.Beliefs.{Agrees, Belief}
use Rattle.cur_steps.specs.Singles.{LookAlike, seen}
use Rattle.cur_steps.specs.declared.inks.Ink.{Ink}
use Rattle.cur_steps.proofs.SingleFacts.{with_attributes}
use Rattle.cur_steps.proofs.Turns.{free_of}

-- ---- by the bytes of `sgr`

abbrev marks_of : Rendition → Marks
marks_of r = record { bold = r.bold; faint = r.faint; underline = r.underline; blink = r.blink; negative = r.negative; concealed = r.concealed }

just_marks : (m : Marks) (s u : Screen) → HasJust m s u → marks_of u.rendition ≡ m
just_marks m s u (inl h) = ap (λ (x : Screen). marks_of x.rendition) h
just_marks m s u (inr h) = ap (λ (x : Screen). marks_of x.rendition) h

-- attributes for which `sgr` sends the same bytes look alike
pub alike_by_bytes : (t : Table) → IsChecked t → (a b : Attributes) (bytes : List ℕ) → t.line_of (Sgr a) ≡ Some bytes → t.line_of (Sgr b) ≡ Some bytes → LookAlike t a b
alike_by_bytes t checked a b bytes is also s ready =
    let x : Ends s bytes (Closed (Ended t (Sgr a) s.screen)) = (checked.lines (Sgr a) bytes is).drives.right s ready.rest (free_of t s ready) in
    let y : Ends s bytes (Closed (Ended t (Sgr b) s.screen)) = (checked.lines (Sgr b) bytes also).drives.right s ready.rest (free_of t s ready) in
    sym (just_marks (shown t.looks a) s.screen x.after.screen x.there.screen.wants)
    ∙ ap (λ (u : State). marks_of u.screen.rendition) (runs_once s y.after x.after bytes y.runs x.runs)
    ∙ just_marks (shown t.looks b) s.screen y.after.screen y.there.screen.wants

-- ---- by the strings of single attributes

one_seen : (x h l : Bool) → l ≡ h → ((x && h) && l) ≡ (x && l)
one_seen true true l e = refl
one_seen true false l e = sym e
one_seen false h l e = refl

standout_seen : (x h m : Bool) → (h ≡ false → m ≡ false) → ((x && h) && m) ≡ (x && m)
standout_seen true true m f = refl
standout_seen true false m f = sym (f refl)
standout_seen false h m f = refl

mark_seen : (x h l y k m : Bool) → l ≡ h → (k ≡ false → m ≡ false) → (((x && h) && l) || ((y && k) && m)) ≡ ((x && l) || (y && m))
mark_seen x h l y k m e f =
    ap (λ (z : Bool). z || ((y && k) && m)) (one_seen x h l e) ∙ ap (λ (z : Bool). (x && l) || z) (standout_seen y k m f)

-- attributes that can't be seen add no marks
seen_shown : (t : Table) → HasSingles t → (a : Attributes) → shown t.looks (seen t a) ≡ shown t.looks a
seen_shown t k a =
    let l = t.looks in
    let m = l.standout in
    let p : Marks = shown l (seen t a) in
    let q : Marks = shown l a in
    let y = a.standout in
    let h = has t Smso in
    ap (λ (z : Bool). record p { bold = z }) (mark_seen a.bold (has t Bold) l.bold y h m.bold k.bold (λ n. ap (λ (x : Marks). x.bold) (k.standout n)))
    ∙ ap (λ (z : Bool). record p { bold = q.bold; faint = z }) (mark_seen a.dim (has t Dim) l.dim y h m.faint k.dim (λ n. ap (λ (x : Marks). x.faint) (k.standout n)))
    ∙ ap (λ (z : Bool). record p { bold = q.bold; faint = q.faint; underline = z }) (mark_seen a.underline (has t Smul) l.underline y h m.underline k.underline (λ n. ap (λ (x : Marks). x.underline) (k.standout n)))
    ∙ ap (λ (z : Bool). record q { blink = z; negative = p.negative; concealed = p.concealed }) (mark_seen a.blink (has t Blink) l.blink y h m.blink k.blink (λ n. ap (λ (x : Marks). x.blink) (k.standout n)))
    ∙ ap (λ (z : Bool). record q { negative = z; concealed = p.concealed }) (mark_seen a.reverse (has t Rev) l.reverse y h m.negative k.reverse (λ n. ap (λ (x : Marks). x.negative) (k.standout n)))
    ∙ ap (λ (z : Bool). record q { concealed = z }) (mark_seen a.invisible (has t Invis) l.invisible y h m.concealed k.invisible (λ n. ap (λ (x : Marks). x.concealed) (k.standout n)))

pub alike_by_singles : (t : Table) → HasSingles t → (a b : Attributes) → seen t a ≡ seen t b → LookAlike t a b
alike_by_singles t k a b e s ready = sym (seen_shown t k a) ∙ ap (λ (x : Attributes). shown t.looks x) e ∙ seen_shown t k b

pub alike_itself : (t : Table) (a b : Attributes) → a ≡ b → LookAlike t a b
alike_itself t a b e s ready = ap (λ (x : Attributes). shown t.looks x) e

-- ---- the believed attributes

-- a state agrees with any attributes that look like the believed ones
pub looks_kept : (t : Table) (g : ℕ → ℕ → Ink) (b : Belief) (a : Attributes) → LookAlike t b.brush.attributes a → (s : State) → Agrees t g b s → Agrees t g (with_attributes b a) s
looks_kept t g b a alike s h = record {
  ready = h.ready;
  cells = h.cells;
  place = h.place;
  brush = h.brush ∙ ap (λ (m : Marks). marked m b.brush.foreground b.brush.background) (alike s h.ready);
  colored = record { foreground = h.colored.foreground; background = h.colored.background };
  set = h.set;
  seen = h.seen;
}
