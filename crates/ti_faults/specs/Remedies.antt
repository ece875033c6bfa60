-- Strings that would be right in place of those at fault: they were judged there, all of them together.
use Rattle.std.specs.Prelude.{ℕ, ◌≡◌, ◌≢◌, ◌==◌, ◌&&◌, not, if◌then◌else◌, Bool, true, false, List, [], ◌∷◌, Option}
use Rattle.std.specs.Prelude.{Some, None, filter}
use Rattle.std.specs.List.{list_all, list_any}
use Rattle.ti_caps.specs.Entry.{Content}
use Rattle.ti_rows.specs.declared.rows.Looks.{Looks}
use Rattle.ti_rows.specs.declared.rows.Row.{Row}
use Rattle.ti_rows.specs.declared.rows.Row.TheVariants.{Clear, Cup, Enacs, Smacs, Rmacs}
use Rattle.ti_rows.specs.Lists.{IsInRange}
use Rattle.ti_rows.specs.Names.{cap_of, order}
use Rattle.ti_conforms.specs.Entries.{is_checked, string_of}
use Rattle.ti_checker.specs.First.{SendsRight}
use Rattle.ti_checker.specs.Kept.{names}
use Rattle.ti_checker.specs.declared.causes.No.{No}
use Rattle.ti_faults.specs.Candidates.{candidate}
use Rattle.ti_faults.specs.AllFaults.{AreAllFaults}
use Rattle.ti_faults.specs.declared.mended.Mended.{Mended}

-- the capabilities whose strings switch character sets, which are right only together
abbrev pub switching : List ℕ
switching = cap_of Enacs ∷ cap_of Smacs ∷ cap_of Rmacs ∷ []

abbrev pub is_switching : ℕ → Bool
is_switching cap = list_any (λ own. own == cap) switching

-- the fault doesn't speak against the row's string: it is about another capability, and not both switch sets
abbrev pub may_stay : Row → No → Bool
may_stay row fault = not (fault.cap == cap_of row) && not (is_switching (cap_of row) && is_switching fault.cap)

-- The mended entry has the string, the capability is checked there, and none of the faults that are left there speaks
-- against it; and `entry`, which was mended, has another string or none.
pub record IsAccepted (entry : Content) (m : Mended) (row : Row) (string : List ℕ) : Type 0 where
  pub checked : is_checked m.entry row ≡ true
  pub may_stay : list_all (may_stay row) m.left.items ≡ true
  pub there : string_of m.entry row ≡ Some string
  pub new : string_of entry row ≡ Some string → ⊥

-- the string isn't accepted
pub data IsRejected (entry : Content) (m : Mended) (row : Row) (string : List ℕ) : Type 0 where
  Unchecked : is_checked m.entry row ≡ false → IsRejected entry m row string
  AtFault : list_all (may_stay row) m.left.items ≡ false → IsRejected entry m row string
  NotThere : (string_of m.entry row ≡ Some string → ⊥) → IsRejected entry m row string
  Own : string_of entry row ≡ Some string → IsRejected entry m row string

-- the string that is found: the given one, if there is one and it is accepted; else none
pub data IsIfAccepted (entry : Content) (m : Mended) (row : Row) : Option (List ℕ) → Option (List ℕ) → Type 0 where
  Accepted : (string : List ℕ) (given found : Option (List ℕ)) → given ≡ Some string → found ≡ Some string
      → IsAccepted entry m row string → IsIfAccepted entry m row given found
  Rejected : (string : List ℕ) (given found : Option (List ℕ)) → given ≡ Some string → found ≡ None
      → IsRejected entry m row string → IsIfAccepted entry m row given found
  NoString : (given found : Option (List ℕ)) → given ≡ None → found ≡ None → IsIfAccepted entry m row given found

-- the suggestion for a capability: the candidate, if it is accepted; none if the capability isn't a checked one
pub data IsSuggestion (entry : Content) (m : Mended) (cap : ℕ) (found : Option (List ℕ)) : Type 0 where
  OfChecked : (row : Row) → cap_of row ≡ cap → IsIfAccepted entry m row (candidate entry m.choice row) found
      → IsSuggestion entry m cap found
  OfOther : ((row : Row) → cap_of row ≢ cap) → found ≡ None → IsSuggestion entry m cap found

-- The capabilities whose suggestions are listed with the fault of a capability: its own; and with that of `smacs`, or
-- of `rmacs` if `smacs` isn't at fault, also those that switch sets and aren't at fault themselves.
abbrev pub host : List No → ℕ
host faults = if names faults (cap_of Smacs) then cap_of Smacs else cap_of Rmacs

abbrev pub companions : List No → List ℕ
companions faults = filter (λ cap. not (names faults cap)) switching

abbrev pub listed_with : List No → ℕ → List ℕ
listed_with faults cap = cap ∷ (if cap == host faults then companions faults else [])

-- each row of the capability sends whole bytes with a wanted end from every start of the row
abbrev pub SendsAllRight : ℕ → ℕ → List ℕ → ℕ → Type 0
SendsAllRight rows cols string place =
    (row : Row) → IsInRange rows cols row → order row ≡ place → (looks : Looks) × SendsRight rows cols looks string row

-- each row of a capability with an accepted string is right, if the faults that are left are those of the mended entry
abbrev pub SuggestionsAreRight : Type 0
SuggestionsAreRight =
    (entry : Content) (rows cols : ℕ) (m : Mended) (row : Row) (string : List ℕ)
    → AreAllFaults m.entry rows cols m.left.items → IsAccepted entry m row string
    → SendsAllRight rows cols string (order row)

-- The faults of an entry for a terminal of another kind: both `clear` and `cup`, which every program needs first, are
-- wrong.
abbrev pub is_of_another_kind : List No → Bool
is_of_another_kind faults = names faults (cap_of Clear) && names faults (cap_of (Cup 0 0))
