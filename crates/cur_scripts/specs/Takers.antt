-- Receivers of the calls of a script, as these are read.
use Rattle.std.specs.Prelude.{◌≡◌, Bool, false, List, [], ◌∷◌, Option, None, Result, Ok, Err, Some, ◌++◌, option_map}
use Rattle.cur_scripts.specs.declared.calls.Call.{Call}
use Rattle.cur_scripts.specs.declared.faults.ScriptFaultKind.{ScriptFaultKind}
use Rattle.cur_scripts.specs.declared.faults.ScriptFaultKind.TheVariants.{BadLine, TooLong, NoMemory}

-- (Serves the code alone.) why a line's call was not taken: the line isn't a call, or there was no room
abbrev pub CallFails : ScriptFaultKind → Bool → Option Call → Type 0
CallFails BadLine room call = call ≡ None
CallFails TooLong room call = ⊥
CallFails NoMemory room call = room ≡ false

-- (Serves the code alone.) a line's call was added after the calls before it; or it was not taken
unfoldable pub HandsOn : List Call → Bool → Option Call → List Call → Result (Unit {0}) ScriptFaultKind → Type 0
HandsOn before room call after (Ok done) = option_map (λ c. before ++ c ∷ []) call ≡ Some after
HandsOn before room call after (Err kind) = CallFails kind room call
