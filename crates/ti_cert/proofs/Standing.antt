-- Lines in their order: each comes before those after it, and has its effect.
use Rattle.std.proofs.Common.{ℕ, List, [], ◌∷◌, inl, inr, sym, subst}
use Rattle.ti_conforms.specs.Charsets.{IsAmong}
use Rattle.ti_lines.specs.declared.row_lines.RowLine.{RowLine}
use Rattle.ti_cert.specs.Order.{Precedes}
use Rattle.ti_cert.specs.Certificates.{HasEffect}
use Rattle.ti_cert.specs.Texts.{StandInOrder}

pub stands_after : (rows cols : ℕ) (before lines : List RowLine) (line : RowLine) → StandInOrder rows cols before lines → IsAmong before line → (other : RowLine) → IsAmong lines other → Precedes rows cols line.row other.row
stands_after rows cols before [] line s a other b = absurd b
stands_after rows cols before (next ∷ lines) line s a other (inl e) = subst (λ (l : RowLine). Precedes rows cols line.row l.row) (sym e) (s.0.place.behind line a)
stands_after rows cols before (next ∷ lines) line s a other (inr b) = stands_after rows cols (next ∷ before) lines line s.1 (inr a) other b

pub has_its_effect : (rows cols : ℕ) (before lines : List RowLine) (line : RowLine) → StandInOrder rows cols before lines → IsAmong lines line → HasEffect rows cols line line.effect
has_its_effect rows cols before [] line s a = absurd a
has_its_effect rows cols before (first ∷ lines) line s (inl e) = subst (λ (l : RowLine). HasEffect rows cols l l.effect) (sym e) s.0.has
has_its_effect rows cols before (first ∷ lines) line s (inr a) = has_its_effect rows cols (first ∷ before) lines line s.1 a
