-- Whether lines have the bytes that an entry's string sends.
use Rattle.std.specs.Prelude.{ℕ, ◌≡◌, List, Option, Some}
use Rattle.ti_rows.specs.declared.rows.Row.{Row}
use Rattle.ti_rows.specs.Names.{order}
use Rattle.ti_rows.specs.Lists.{IsInRange, rank}
use Rattle.ti_conforms.specs.Sends.{Sends}
use Rattle.ti_conforms.specs.declared.agreement.Disagreement.{Disagreement}
use Rattle.ti_conforms.specs.declared.agreement.Disagreement.TheVariants.{Disagree, Unwanted, NoMemory}

-- the row's line has the bytes that the string sends
pub record LineSends (string : List ℕ) (line : Option (List ℕ)) (row : Row) : Type 0 where
  pub bytes : List ℕ
  pub sends : Sends string row bytes
  pub line_has : line ≡ Some bytes

-- a line as sent for each parameter list of the capability that the size allows
abbrev pub AllSend : ℕ → ℕ → List ℕ → (Row → Option (List ℕ)) → ℕ → Type 0
AllSend rows cols string line_of n =
    (row : Row) → order row ≡ n → IsInRange rows cols row → LineSends string (line_of row) row

-- a line as sent for the list at the place `k` of the capability
abbrev pub SendsAt : ℕ → ℕ → List ℕ → (Row → Option (List ℕ)) → ℕ → ℕ → Type 0
SendsAt rows cols string line_of n k =
    (row : Row) → order row ≡ n → IsInRange rows cols row → rank rows cols row ≡ k → LineSends string (line_of row) row

-- a parameter list without a line, or with other bytes in it
abbrev pub IsDisagreement : ℕ → ℕ → List ℕ → (Row → Option (List ℕ)) → ℕ → Disagreement → Type 0
IsDisagreement rows cols string line_of n (Disagree row) =
    (order row ≡ n) × IsInRange rows cols row × (LineSends string (line_of row) row → ⊥)
IsDisagreement rows cols string line_of n (Unwanted row) = ⊥
IsDisagreement rows cols string line_of n NoMemory = Unit {0}

-- the capability at a place has a line
pub record SomeLine (line_of : Row → Option (List ℕ)) (n : ℕ) : Type 0 where
  pub row : Row
  pub of_cap : order row ≡ n
  pub bytes : List ℕ
  pub there : line_of row ≡ Some bytes
