-- The lines of an entry whose rows stand are in their order, none is missing, and each has the effect that is asked
-- for.
use Rattle.std.proofs.Common.{◌≡◌, ◌⊎◌, ℕ, true, List, [], ◌∷◌, Option, None, Some, inl, inr, refl, sym, ap, subst, ◌∙◌}
use Rattle.std.proofs.lemmas.Bool.{and_from}
use Rattle.ti_caps.specs.Entry.{Content}
use Rattle.ti_conforms.specs.Charsets.{IsAmong}
use Rattle.ti_conforms.specs.Conforms.{IsFit}
use Rattle.ti_conforms.specs.Entries.{has_string, is_checked}
use Rattle.ti_conforms.proofs.Matches.{same_checked}
use Rattle.ti_rows.specs.declared.rows.Row.{Row}
use Rattle.ti_rows.specs.declared.rows.Row.TheVariants.{Clear, Cup, Sgr0}
use Rattle.ti_rows.specs.Lists.{IsInRange}
use Rattle.ti_lines.specs.declared.row_lines.RowLine.{RowLine}
use Rattle.ti_cert.specs.Order.{Precedes, HasLine, HasCap, IsRequiredLine, IsOfCap, IsComplete, IsInPlace}
use Rattle.ti_cert.specs.Texts.{StandInOrder}
use Rattle.ti_cert.proofs.Singleness.{never_itself, never_back}
use Rattle.ti_checker.specs.First.{EachStands}
use Rattle.ti_checker.specs.Limit.{IsLineOf, InOrder, AreLines}
use Rattle.ti_checker.proofs.Learnings.{Falls, AreBefore, asked_before}

-- all lines of the entry in two parts, the first with its latest line first
record Parted (entry : Content) (rows cols : ℕ) (before rest : List RowLine) : Type 0 where
  each : (line : RowLine) → IsAmong before line → IsLineOf entry rows cols line
  left : (line : RowLine) → IsAmong rest line → IsLineOf entry rows cols line
  whole : (row : Row) → IsInRange rows cols row → is_checked entry row ≡ true → HasLine before row ⊎ HasLine rest row
  earlier : (line other : RowLine) → IsAmong before line → IsAmong rest other → Precedes rows cols line.row other.row
  rises : InOrder rows cols rest
  falls : Falls rows cols before

required : (entry : Content) (row : Row) → IsFit entry → IsRequiredLine row → is_checked entry row ≡ true
required entry row fit (inl e) = same_checked entry row Clear e ∙ and_from (has_string entry Clear) true fit.clear refl
required entry row fit (inr (inl e)) = same_checked entry row (Cup 0 0) e ∙ and_from (has_string entry (Cup 0 0)) true fit.cup refl
required entry row fit (inr (inr e)) = same_checked entry row Sgr0 e ∙ and_from (has_string entry Sgr0) true fit.sgr0 refl

-- the row of a line that must be there is checked
due_checked : (entry : Content) (rows cols : ℕ) (before : List RowLine) (next : Option Row) (row : Row) → IsFit entry → ((line : RowLine) → IsAmong before line → IsLineOf entry rows cols line)
    → (IsOfCap next row → is_checked entry row ≡ true) → IsRequiredLine row ⊎ (HasCap before row ⊎ IsOfCap next row) → is_checked entry row ≡ true
due_checked entry rows cols before next row fit each own (inl d) = required entry row fit d
due_checked entry rows cols before next row fit each own (inr (inl c)) = sym (same_checked entry c.line.row row c.of_cap) ∙ (each c.line c.among).sent.checked
due_checked entry rows cols before next row fit each own (inr (inr o)) = own o

are_before : (entry : Content) (rows cols : ℕ) (before : List RowLine) (line : RowLine) (rest : List RowLine) → Parted entry rows cols before (line ∷ rest) → AreBefore entry rows cols line.row before
are_before entry rows cols before line rest p = record {
  each = p.each;
  held = λ other a. p.earlier other line a (inl refl);
  all = λ other range checked q. by_part other q (p.whole other range checked);
  falls = p.falls;
}
  where
    never : (one : RowLine) → IsAmong (line ∷ rest) one → Precedes rows cols one.row line.row → ⊥
    never one (inl e) q = never_itself rows cols line.row (subst (λ (l : RowLine). Precedes rows cols l.row line.row) e q)
    never one (inr a) q = never_back rows cols line.row one.row (p.rises.0 one a) q

    by_part : (other : Row) → Precedes rows cols other line.row → HasLine before other ⊎ HasLine (line ∷ rest) other → HasLine before other
    by_part other q (inl h) = h
    by_part other q (inr h) = absurd (never h.line h.among (subst (λ (r : Row). Precedes rows cols r line.row) (sym h.of_row) q))

place_of : (entry : Content) (rows cols : ℕ) (before : List RowLine) (line : RowLine) (rest : List RowLine) → IsFit entry → Parted entry rows cols before (line ∷ rest) → IsInPlace rows cols before line.row
place_of entry rows cols before line rest fit p =
    let b = are_before entry rows cols before line rest p in
    let is = p.left line (inl refl) in
    record {
      range = is.sent.range;
      behind = b.held;
      complete = λ other k. k.absent (b.all other k.range (due_checked entry rows cols before (Some line.row) other fit p.each (λ o. same_checked entry other line.row o ∙ is.sent.checked) k.due) k.before);
    }

complete_of : (entry : Content) (rows cols : ℕ) (before : List RowLine) → IsFit entry → Parted entry rows cols before [] → IsComplete rows cols before None
complete_of entry rows cols before fit p other k = never (p.whole other k.range (due_checked entry rows cols before None other fit p.each (λ o. absurd o) k.due))
  where
    never : HasLine before other ⊎ HasLine [] other → ⊥
    never (inl h) = k.absent h
    never (inr h) = h.among

next_parted : (entry : Content) (rows cols : ℕ) (before : List RowLine) (line : RowLine) (rest : List RowLine) → Parted entry rows cols before (line ∷ rest) → Parted entry rows cols (line ∷ before) rest
next_parted entry rows cols before line rest p = record {
  each = each;
  left = λ other a. p.left other (inr a);
  whole = λ row range checked. by_part row (p.whole row range checked);
  earlier = earlier;
  rises = p.rises.1;
  falls = (λ other a. p.earlier other line a (inl refl), p.falls);
}
  where
    each : (other : RowLine) → IsAmong (line ∷ before) other → IsLineOf entry rows cols other
    each other (inl e) = subst (λ (l : RowLine). IsLineOf entry rows cols l) (sym e) (p.left line (inl refl))
    each other (inr a) = p.each other a

    earlier : (one other : RowLine) → IsAmong (line ∷ before) one → IsAmong rest other → Precedes rows cols one.row other.row
    earlier one other (inl e) b = subst (λ (l : RowLine). Precedes rows cols l.row other.row) (sym e) (p.rises.0 other b)
    earlier one other (inr a) b = p.earlier one other a (inr b)

    by_among : (row : Row) (one : RowLine) → one.row ≡ row → IsAmong (line ∷ rest) one → HasLine (line ∷ before) row ⊎ HasLine rest row
    by_among row one e (inl same) = inl (record { line = line; among = inl refl; of_row = ap (λ (l : RowLine). l.row) (sym same) ∙ e })
    by_among row one e (inr a) = inr (record { line = one; among = a; of_row = e })

    by_part : (row : Row) → HasLine before row ⊎ HasLine (line ∷ rest) row → HasLine (line ∷ before) row ⊎ HasLine rest row
    by_part row (inl h) = inl (record { line = h.line; among = inr h.among; of_row = h.of_row })
    by_part row (inr h) = by_among row h.line h.of_row h.among

stand_parted : (entry : Content) (rows cols : ℕ) (before rest : List RowLine) → IsFit entry → EachStands entry rows cols → Parted entry rows cols before rest → StandInOrder rows cols before rest
stand_parted entry rows cols before [] fit stands p = complete_of entry rows cols before fit p
stand_parted entry rows cols before (line ∷ rest) fit stands p =
    let is = p.left line (inl refl) in (
      record {
        place = place_of entry rows cols before line rest fit p;
        has = is.has;
        asked = asked_before entry rows cols line before is (stands line.row is.sent.range) (are_before entry rows cols before line rest p);
      },
      stand_parted entry rows cols (line ∷ before) rest fit stands (next_parted entry rows cols before line rest p),
    )

pub all_stand : (entry : Content) (rows cols : ℕ) (lines : List RowLine) → IsFit entry → EachStands entry rows cols → AreLines entry rows cols (λ row. Unit {0}) lines → StandInOrder rows cols [] lines
all_stand entry rows cols lines fit stands are = stand_parted entry rows cols [] lines fit stands (record {
  each = λ line a. absurd a;
  left = are.each;
  whole = λ row range checked. inr (are.all row range checked tt);
  earlier = λ line other a b. absurd a;
  rises = are.ordered;
  falls = tt;
})
