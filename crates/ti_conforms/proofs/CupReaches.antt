-- Reaching one place.
use Rattle.std.proofs.Common.{◌≡◌, ◌<◌, ℕ, List, Ok, Err, Result, OnOk, subst, sym, arith, to_z, w32, pos}
use Rattle.std.proofs.lemmas.Int.{ints}
use Rattle.ti_parm.specs.Meaning.{sent}
use Rattle.vt_term.specs.Run as Run
use Rattle.ti_conforms.specs.CupReach as spec
use Rattle.ti_conforms.specs.declared.cup_reach.Miss.{Miss}
use Rattle.ti_conforms.specs.declared.cup_reach.MissKind.{MissKind}

-- the bytes that the string sends, checked
pub place_reached : (string : List ℕ) (rows cols row col : ℕ) (bytes : List ℕ) (judged : Result (Unit {0}) MissKind)
    → sent string (spec.place row col) ≡ Ok bytes
    → OnOk judged (spec.IsWhole bytes) → OnOk judged (Run.Reaches rows cols bytes row col) → OnOk judged (spec.StringReaches string rows cols row col)
place_reached string rows cols row col bytes (Ok _) sends whole leads = record { bytes = bytes; sends = sends; whole = whole; leads = leads }
place_reached string rows cols row col bytes (Err _) sends whole leads = tt

-- a row or a column as a signed number
pub number_of_place : (n : ℕ) → n < 500 → to_z w32 n ≡ pos n
number_of_place n below = omega (arith, ints)

-- the first place that is missed is in this row
pub first_missed : (string : List ℕ) (rows cols row : ℕ) (miss : Miss) → ((i : ℕ) → i < row → spec.ReachesInRow string rows cols i cols) → miss.row ≡ row
    → spec.ReachesInRow string rows cols row miss.col → spec.ReachesBefore string rows cols miss.row miss.col
first_missed string rows cols row miss above same left = record {
  above = λ i lt. above i (omega (arith, same));
  left = subst (λ (n : ℕ). spec.ReachesInRow string rows cols n miss.col) (sym same) left;
}
