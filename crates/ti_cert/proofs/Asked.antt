-- The lines of a certificate are those that are asked for if attributes look as all lines say.
use Rattle.std.proofs.Common.{◌≡◌, ◌==◌, nat_lt, ℕ, Bool, true, false, if◌then◌else◌, List, [], ◌∷◌, ◌++◌, reverse, inl, inr, refl, sym, ap, subst, ◌∙◌, arith}
use Rattle.std.proofs.lemmas.Bool.{true≢false, eq-eqb, or_left, or_right, lt-ltb}
use Rattle.ti_conforms.specs.Charsets.{IsAmong}
use Rattle.ti_rows.specs.declared.rows.Row.{Row}
use Rattle.ti_rows.specs.Asked.{asked}
use Rattle.ti_rows.specs.Lists.{rank}
use Rattle.ti_rows.specs.Looks.{learned}
use Rattle.ti_rows.specs.Names.{order}
use Rattle.ti_lines.specs.declared.row_lines.RowLine.{RowLine}
use Rattle.ti_cert.specs.Order.{Precedes}
use Rattle.ti_cert.specs.Certificates.{rival, speaks_of, looks_of}
use Rattle.ti_cert.specs.Texts.{StandsNext, StandInOrder}
use Rattle.ti_cert.proofs.Preservation.{learned_keeps}
use Rattle.ti_cert.proofs.Texts.{turned}

-- each of these lines has the effect that is asked for, if attributes look as all of them say
abbrev pub AreAsked : List RowLine → Type 0
AreAsked lines = (line : RowLine) → IsAmong lines line → line.effect ≡ asked (looks_of lines) line.row line.effect

speaks_when : (lines : List RowLine) (line : RowLine) (row : Row) → IsAmong lines line → order line.row ≡ order row → speaks_of lines row ≡ true
speaks_when [] line row a e = absurd a
speaks_when (first ∷ lines) line row (inl same) e =
    or_left (order row == order first.row) (speaks_of lines row) (eq-eqb (order row) (order first.row) (sym e ∙ ap (λ (l : RowLine). order l.row) same))
speaks_when (first ∷ lines) line row (inr a) e = or_right (order row == order first.row) (speaks_of lines row) (speaks_when lines line row a e)

lower : (rows cols : ℕ) (one row : Row) → Precedes rows cols one row → order one ≡ order row → nat_lt (rank rows cols one) (rank rows cols row) ≡ true
lower rows cols one row (inl lt) same = absurd (omega (arith, lt, same))
lower rows cols one row (inr p) same = lt-ltb (rank rows cols one) (rank rows cols row) p.1

-- an earlier line stays one that is asked for, whatever one more line says of the looks
stays_asked : (rows cols : ℕ) (lines : List RowLine) (line one : RowLine) → StandsNext rows cols lines line → IsAmong lines one → (b : Bool) → speaks_of lines (rival line.row) ≡ b
    → asked (looks_of lines) one.row one.effect ≡ asked (if b then looks_of lines else learned line.row line.effect (looks_of lines)) one.row one.effect
stays_asked rows cols lines line one s a true e = refl
stays_asked rows cols lines line one s a false e = learned_keeps rows cols (looks_of lines) line.row line.effect one.row one.effect
    (λ same. true≢false (sym (speaks_when lines one (rival line.row) a same) ∙ e)) (λ same. lower rows cols one.row line.row (s.place.behind one a) same)

asked_more : (rows cols : ℕ) (lines : List RowLine) (line : RowLine) → StandsNext rows cols lines line → AreAsked lines → AreAsked (line ∷ lines)
asked_more rows cols lines line s each one (inl e) = subst (λ (l : RowLine). l.effect ≡ asked (looks_of (line ∷ lines)) l.row l.effect) (sym e) s.asked
asked_more rows cols lines line s each one (inr a) = each one a ∙ stays_asked rows cols lines line one s a (speaks_of lines (rival line.row)) refl

pub asked_in_order : (rows cols : ℕ) (before lines : List RowLine) → StandInOrder rows cols before lines → AreAsked before → AreAsked (reverse lines ++ before)
asked_in_order rows cols before [] s each = each
asked_in_order rows cols before (line ∷ lines) s each =
    subst AreAsked (sym (turned line lines before)) (asked_in_order rows cols (line ∷ before) lines s.1 (asked_more rows cols before line s.0 each))
