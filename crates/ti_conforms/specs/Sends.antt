-- The bytes that a string sends for a row of the table of checked capabilities (terminfo(5), "Parameterized Strings"
-- and "Delays and Padding"): with the row's parameters, from static variables that are all 0, and without its delays.
use Rattle.std.specs.Prelude.{ℕ, ◌≡◌, pos, map, List, Ok, Err}
use Rattle.ti_parm.specs.Meaning.{State, meaning, sent, ReadsUnset}
use Rattle.ti_parm.specs.Value.{Value, Number, zeros}
use Rattle.ti_rows.specs.declared.rows.Row.{Row}
use Rattle.ti_rows.specs.Params.{params}
use Rattle.ti_conforms.specs.declared.sends.SendFault.{SendFault}
use Rattle.ti_conforms.specs.declared.sends.SendFault.TheVariants.{Fault, StaticRead, NoMemory}

abbrev pub numbers : List ℕ → List Value
numbers ns = map (λ n. Number (pos n)) ns

abbrev pub values : Row → List Value
values row = numbers (params row)

-- the string has no fault, reads no static variable before it sets it, and sends these bytes
pub record Sends (string : List ℕ) (row : Row) (bytes : List ℕ) : Type 0 where
  pub sends : sent string (values row) ≡ Ok bytes
  pub sets_first : (end : State) → meaning string (values row) zeros ≡ Ok end → ReadsUnset end → ⊥

-- the string reads a static variable before it sets it
pub record ReadsStatic (string : List ℕ) (row : Row) : Type 0 where
  pub end : State
  pub runs : meaning string (values row) zeros ≡ Ok end
  pub reads : ReadsUnset end

-- the reason why nothing is sent
abbrev pub IsUnsent : List ℕ → Row → SendFault → Type 0
IsUnsent string row (Fault fault) = meaning string (values row) zeros ≡ Err fault
IsUnsent string row StaticRead = ReadsStatic string row
IsUnsent string row NoMemory = Unit {0}
