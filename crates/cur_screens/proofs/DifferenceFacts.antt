-- One more place in which two lists are equal.
use Rattle.std.proofs.Common.{ℕ, ◌+◌, ◌≤◌, List, length, sym, subst, inl, inr, arith}
use Rattle.std.proofs.lemmas.Bool.{cases_eq, cases_lt}
use Rattle.cur_drawing.specs.Cells.{Content}
use Rattle.cur_screens.specs.Differences.{AreEqualAt, AreEqualIn, DifferAt}

pub equal_up_to : (a b : List Content) (k : ℕ) → AreEqualIn a b 0 k → AreEqualAt a b k → AreEqualIn a b 0 (k + 1)
equal_up_to a b k h e j from lt =
    elim (cases_eq j k) [
      | inl same ↦ subst (AreEqualAt a b) (sym same) e
      | inr apart ↦ h j from (omega arith)
    ]

pub equal_from : (a b : List Content) (k to : ℕ) → AreEqualIn a b (k + 1) to → AreEqualAt a b k → AreEqualIn a b k to
equal_from a b k to h e j from lt =
    elim (cases_eq j k) [
      | inl same ↦ subst (AreEqualAt a b) (sym same) e
      | inr apart ↦ h j (omega arith) lt
    ]

-- the first place that differs isn't after the last one
pub first_not_after : (a b : List Content) (first last : ℕ) → DifferAt a b first → AreEqualIn a b (last + 1) (length a) → first ≤ last
first_not_after a b first last differ equal =
    elim (cases_lt first (last + 1)) [
      | inl near ↦ omega arith
      | inr past ↦ absurd (differ.apart (equal first past differ.within))
    ]
