-- (Serves the code alone.) Running from a place in a string on.
use Rattle.std.specs.Prelude.{ℕ, Bool, true, false, List, Result, Ok, Err}
use Rattle.ti_parm.specs.Fault.{◌>>=◌}
use Rattle.ti_parm.specs.declared.code.Mark.TheVariants.{Then, Else, End}
use Rattle.ti_parm.specs.declared.fault.ParmFault.{ParmFault}
use Rattle.ti_parm.specs.Syntax.{Ahead, Behind, Ends, Breaks, Closes, ahead, verdict}
use Rattle.ti_parm.specs.Conditionals.{Branches, judged}
use Rattle.ti_parm.specs.Meaning.{State, choose, run}

unfoldable mutual
  -- runs the rest after parts that were run
  pub follow : Behind → State → Result State ParmFault
  follow Ends s = Ok s
  follow (Breaks fault) s = Err fault
  follow (Closes Then parts behind) s = choose (λ t. run parts t >>= follow behind) (follow_past true behind) s
  follow (Closes Else parts behind) s = follow_past false behind s
  follow (Closes End parts behind) s = run parts s >>= follow behind

  -- runs the rest after skipping the parts up to the `%;` or, if wanted, up to an `%e`
  pub follow_past : Bool → Behind → State → Result State ParmFault
  follow_past to_else Ends s = Ok s
  follow_past to_else (Breaks fault) s = Err fault
  follow_past to_else (Closes Then parts behind) s = follow_past to_else behind s
  follow_past true (Closes Else parts behind) s = run parts s >>= follow behind
  follow_past false (Closes Else parts behind) s = follow_past false behind s
  follow_past to_else (Closes End parts behind) s = run parts s >>= follow behind

unfoldable pub run_ahead : Ahead → State → Result State ParmFault
run_ahead a s = run a.parts s >>= follow a.behind

-- runs a string from a place in it on
unfoldable pub run_from : List ℕ → State → Result State ParmFault
run_from text s = run_ahead (ahead text) s

-- a fault of the syntax, if there is one, otherwise the run's answer
abbrev pub judged_behind : Result (Unit {0}) ParmFault → Result State ParmFault → Result State ParmFault
judged_behind verdict answer = verdict >>= λ _. answer

-- the first fault of the syntax of the codes ahead of a place in these conditionals, if there is one, otherwise their
-- run
abbrev pub judged_ahead : Ahead → Branches → State → Result State ParmFault
judged_ahead a branches s = judged a.behind branches >>= λ _. run_ahead a s

-- the first fault of a string's syntax, if there is one, otherwise the string's run from a state
abbrev pub judged_run : List ℕ → State → Result State ParmFault
judged_run string s = verdict string >>= λ _. run_from string s
