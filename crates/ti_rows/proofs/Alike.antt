-- The lines of `sgr` have at most one look for each attribute.
use Rattle.std.proofs.Common.{◌≡◌, ℕ, ◌||◌, Bool, true, false, List, [], inl, inr, sym, ap, ◌∙◌}
use Rattle.std.proofs.Math.Bool.{or-false}
use Rattle.vt_term.specs.Look.{Rendition}
use Rattle.vt_term.specs.Screen.{State, Screen}
use Rattle.vt_term.proofs.Runs.{runs_once}
use Rattle.ti_rows.specs.Rows.{Attributes, Marks, Looks, Sgr}
use Rattle.ti_rows.specs.Looks.{shown}
use Rattle.ti_rows.specs.Starts.{IsFree}
use Rattle.ti_rows.specs.Wants.{HasJust}
use Rattle.ti_rows.specs.Right.{IsRight, EndsWell, OneLooks}

abbrev marks_in : Rendition → Marks
marks_in r = record { bold = r.bold; faint = r.faint; underline = r.underline; blink = r.blink; negative = r.negative; concealed = r.concealed }

seen : (m : Marks) (s t : Screen) → HasJust m s t → marks_in t.rendition ≡ m
seen m s t (inl e) = ap (λ (x : Screen). marks_in x.rendition) e
seen m s t (inr e) = ap (λ (x : Screen). marks_in x.rendition) e

same_shown : (rows cols : ℕ) (l m : Looks) (a : Attributes) (bytes : List ℕ) (s : State) → s.rest ≡ [] → IsFree rows cols s.screen
    → IsRight rows cols l (Sgr a) bytes → IsRight rows cols m (Sgr a) bytes → shown l a ≡ shown m a
same_shown rows cols l m a bytes s rest free h k =
    let p : EndsWell l (Sgr a) s bytes = h.ends s rest free in
    let q : EndsWell m (Sgr a) s bytes = k.ends s rest free in
    sym (seen (shown l a) s.screen p.after.screen p.wanted)
    ∙ sym (ap (λ (x : State). marks_in x.screen.rendition) (runs_once s p.after q.after bytes p.runs q.runs))
    ∙ seen (shown m a) s.screen q.after.screen q.wanted

one_of : (b c : Bool) → (b || false) ≡ (c || false) → b ≡ c
one_of b c h = sym (or-false b) ∙ h ∙ or-false c

alike : (l m : Looks) → ((a : Attributes) → shown l a ≡ shown m a) → l ≡ m
alike l m h =
    ap (λ (z : Bool). record { standout = record { bold = z; faint = l.standout.faint; underline = l.standout.underline; blink = l.standout.blink; negative = l.standout.negative; concealed = l.standout.concealed }; underline = l.underline; reverse = l.reverse; blink = l.blink; dim = l.dim; bold = l.bold; invisible = l.invisible }) (ap (λ (x : Marks). x.bold) (h (record { standout = true; underline = false; reverse = false; blink = false; dim = false; bold = false; invisible = false })))
    ∙ ap (λ (z : Bool). record { standout = record { bold = m.standout.bold; faint = z; underline = l.standout.underline; blink = l.standout.blink; negative = l.standout.negative; concealed = l.standout.concealed }; underline = l.underline; reverse = l.reverse; blink = l.blink; dim = l.dim; bold = l.bold; invisible = l.invisible }) (ap (λ (x : Marks). x.faint) (h (record { standout = true; underline = false; reverse = false; blink = false; dim = false; bold = false; invisible = false })))
    ∙ ap (λ (z : Bool). record { standout = record { bold = m.standout.bold; faint = m.standout.faint; underline = z; blink = l.standout.blink; negative = l.standout.negative; concealed = l.standout.concealed }; underline = l.underline; reverse = l.reverse; blink = l.blink; dim = l.dim; bold = l.bold; invisible = l.invisible }) (ap (λ (x : Marks). x.underline) (h (record { standout = true; underline = false; reverse = false; blink = false; dim = false; bold = false; invisible = false })))
    ∙ ap (λ (z : Bool). record { standout = record { bold = m.standout.bold; faint = m.standout.faint; underline = m.standout.underline; blink = z; negative = l.standout.negative; concealed = l.standout.concealed }; underline = l.underline; reverse = l.reverse; blink = l.blink; dim = l.dim; bold = l.bold; invisible = l.invisible }) (ap (λ (x : Marks). x.blink) (h (record { standout = true; underline = false; reverse = false; blink = false; dim = false; bold = false; invisible = false })))
    ∙ ap (λ (z : Bool). record { standout = record { bold = m.standout.bold; faint = m.standout.faint; underline = m.standout.underline; blink = m.standout.blink; negative = z; concealed = l.standout.concealed }; underline = l.underline; reverse = l.reverse; blink = l.blink; dim = l.dim; bold = l.bold; invisible = l.invisible }) (ap (λ (x : Marks). x.negative) (h (record { standout = true; underline = false; reverse = false; blink = false; dim = false; bold = false; invisible = false })))
    ∙ ap (λ (z : Bool). record { standout = record { bold = m.standout.bold; faint = m.standout.faint; underline = m.standout.underline; blink = m.standout.blink; negative = m.standout.negative; concealed = z }; underline = l.underline; reverse = l.reverse; blink = l.blink; dim = l.dim; bold = l.bold; invisible = l.invisible }) (ap (λ (x : Marks). x.concealed) (h (record { standout = true; underline = false; reverse = false; blink = false; dim = false; bold = false; invisible = false })))
    ∙ ap (λ (z : Bool). record { standout = m.standout; underline = z; reverse = l.reverse; blink = l.blink; dim = l.dim; bold = l.bold; invisible = l.invisible }) (one_of l.underline m.underline (ap (λ (x : Marks). x.underline) (h (record { standout = false; underline = true; reverse = false; blink = false; dim = false; bold = false; invisible = false }))))
    ∙ ap (λ (z : Bool). record { standout = m.standout; underline = m.underline; reverse = z; blink = l.blink; dim = l.dim; bold = l.bold; invisible = l.invisible }) (one_of l.reverse m.reverse (ap (λ (x : Marks). x.negative) (h (record { standout = false; underline = false; reverse = true; blink = false; dim = false; bold = false; invisible = false }))))
    ∙ ap (λ (z : Bool). record { standout = m.standout; underline = m.underline; reverse = m.reverse; blink = z; dim = l.dim; bold = l.bold; invisible = l.invisible }) (one_of l.blink m.blink (ap (λ (x : Marks). x.blink) (h (record { standout = false; underline = false; reverse = false; blink = true; dim = false; bold = false; invisible = false }))))
    ∙ ap (λ (z : Bool). record { standout = m.standout; underline = m.underline; reverse = m.reverse; blink = m.blink; dim = z; bold = l.bold; invisible = l.invisible }) (one_of l.dim m.dim (ap (λ (x : Marks). x.faint) (h (record { standout = false; underline = false; reverse = false; blink = false; dim = true; bold = false; invisible = false }))))
    ∙ ap (λ (z : Bool). record { standout = m.standout; underline = m.underline; reverse = m.reverse; blink = m.blink; dim = m.dim; bold = z; invisible = l.invisible }) (one_of l.bold m.bold (ap (λ (x : Marks). x.bold) (h (record { standout = false; underline = false; reverse = false; blink = false; dim = false; bold = true; invisible = false }))))
    ∙ ap (λ (z : Bool). record { standout = m.standout; underline = m.underline; reverse = m.reverse; blink = m.blink; dim = m.dim; bold = m.bold; invisible = z }) (one_of l.invisible m.invisible (ap (λ (x : Marks). x.concealed) (h (record { standout = false; underline = false; reverse = false; blink = false; dim = false; bold = false; invisible = true }))))

pub one_looks : OneLooks
one_looks rows cols l m lines s rest free h k = alike l m (λ a. same_shown rows cols l m a (lines a) s rest free (h a) (k a))
