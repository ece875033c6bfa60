-- The calls of a whole script, or its first fault with its line.
use Rattle.std.specs.Prelude.{◌≡◌, ℕ, ◌+◌, ◌==◌, nat_lt, Bool, true, List, [], ◌∷◌, ◌++◌, length, Option, None, Some}
use Rattle.std.specs.Prelude.{Result, Ok, Err, if◌then◌else◌, option_map}
use Rattle.cur_scripts.specs.declared.calls.Call.{Call}
use Rattle.cur_scripts.specs.declared.faults.ScriptFaultKind.{ScriptFaultKind}
use Rattle.cur_scripts.specs.declared.faults.ScriptFaultKind.TheVariants.{BadLine, TooLong, NoMemory}
use Rattle.cur_scripts.specs.declared.faults.ScriptFault.{ScriptFault}
use Rattle.cur_scripts.specs.Cuts.{cut_at, lines_of, ◌>>=◌}
use Rattle.cur_scripts.specs.Table.{call_of}

-- an empty line, or one that begins with #
abbrev pub is_skipped : List ℕ → Bool
is_skipped [] = true
is_skipped (b ∷ rest) = b == 35

-- the calls of a line: none if it is skipped, else its one call, if it is a call
abbrev pub line_calls : List ℕ → Option (List Call)
line_calls line = if is_skipped line then Some [] else option_map (λ call. call ∷ []) (call_of line)

abbrev pub fault_at : ℕ → ScriptFaultKind → ScriptFault
fault_at number kind = record { line = number; kind = kind }

-- these calls before the others
abbrev pub behind : List Call → Result (List Call) ScriptFault → Result (List Call) ScriptFault
behind calls (Ok more) = Ok (calls ++ more)
behind calls (Err fault) = Err fault

abbrev pub joined : ℕ → Option (List Call) → Result (List Call) ScriptFault → Result (List Call) ScriptFault
joined number None more = Err (fault_at number BadLine)
joined number (Some calls) more = behind calls more

-- the calls of these lines, the first of which has this number
abbrev pub calls_of : ℕ → List (List ℕ) → Result (List Call) ScriptFault
calls_of number [] = Ok []
calls_of number (line ∷ lines) = joined number (line_calls line) (calls_of (number + 1) lines)

-- a script has at most 1048576 bytes
unfoldable pub script_of : List ℕ → Result (List Call) ScriptFault
script_of text = if nat_lt 1048576 (length text) then Err (fault_at 0 TooLong) else calls_of 1 (lines_of text)

-- the line of a text that has only one, with or without its line feed; the text is cut at its first line feed
abbrev pub only_line : List ℕ → Option (List ℕ × List ℕ) → Option (List ℕ)
only_line text None = Some text
only_line text (Some (line, [])) = Some line
only_line text (Some (line, b ∷ rest)) = None

-- the call of a script that is a single call
abbrev pub only_call : List ℕ → Option Call
only_call text =
    if nat_lt 1048576 (length text) then None
    else (only_line text (cut_at 10 text) >>= λ line. if is_skipped line then None else call_of line)

-- the fault is the one that reading gives, unless memory ran out
abbrev pub FailsBy : ScriptFaultKind → ScriptFault → Result (List Call) ScriptFault → Type 0
FailsBy BadLine fault read = read ≡ Err fault
FailsBy TooLong fault read = read ≡ Err fault
FailsBy NoMemory fault read = Unit {0}

-- the fault of a line is that it isn't a call, unless memory ran out
abbrev pub LineFails : ScriptFaultKind → Option (List Call) → Type 0
LineFails BadLine calls = calls ≡ None
LineFails TooLong calls = ⊥
LineFails NoMemory calls = Unit {0}
