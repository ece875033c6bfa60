-- The answers of calls: what is written for the program, and the number.
use Rattle.std.specs.Prelude.{ℕ, ℤ, pos, nat_lt, ◌≡◌, Bool, true, false, List, ◌++◌, length, drop, Option, Some, None}
use Rattle.std.specs.Prelude.{Result, Ok, Err}
use Rattle.terminfo_c.specs.Codes.{failure_code}
use Rattle.terminfo_c.specs.declared.codes.Failure.{Failure}
use Rattle.terminfo_c.specs.declared.codes.Failure.TheVariants.{Closed}
use Rattle.terminfo_c.specs.declared.held.Held.{Held}

-- what an open handle answers; a closed one has no other answer than that it is closed
abbrev pub asked : {A : Type 0} → (Held → Result A Failure) → Option Held → Result A Failure
asked answer (Some h) = answer h
asked answer None = Err Closed

-- an answer, if there is one, is written
abbrev pub Tells : {A : Type 0} → Result A Failure → A → A → ℤ → Type 0
Tells (Ok x) old new code = (new ≡ x) × (code ≡ pos 0)
Tells (Err e) old new code = (new ≡ old) × (code ≡ failure_code e)

-- nothing is written if the bytes are too many; else the rest of the room stays
abbrev pub FillsBy : Bool → List ℕ → List ℕ → List ℕ → ℤ → Type 0
FillsBy true bytes old new code = (new ≡ old) × (code ≡ pos 25)
FillsBy false bytes old new code = (new ≡ bytes ++ drop (length bytes) old) × (code ≡ pos 0)

abbrev pub Fills : List ℕ → List ℕ → List ℕ → ℤ → Type 0
Fills bytes old new code = FillsBy (nat_lt (length old) (length bytes)) bytes old new code

-- bytes are written to the start of the caller's room if it is long enough, and their number is given in either case
abbrev pub DeliversBy : {V : Type 0} → (V → List ℕ) → Result V Failure → List ℕ → List ℕ → ℕ → ℤ → Type 0
DeliversBy items (Ok bytes) old new needed code = (needed ≡ length (items bytes)) × Fills (items bytes) old new code
DeliversBy items (Err e) old new needed code = (needed ≡ 0) × (new ≡ old) × (code ≡ failure_code e)

abbrev pub Delivers : Result (List ℕ) Failure → List ℕ → List ℕ → ℕ → ℤ → Type 0
Delivers answer old new needed code = DeliversBy (λ bytes. bytes) answer old new needed code
