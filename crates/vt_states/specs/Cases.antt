-- A file of cases, a line for each, and the answers to them.
use Rattle.std.specs.Prelude.{◌≡◌, ◌==◌, ◌&&◌, ◌+◌, ◌<◌, ℕ, not, nat_le, Bool, List, [], ◌∷◌, ◌++◌, length, take, drop}
use Rattle.std.specs.Prelude.{bytes_eq, codes, if◌then◌else◌, Option, None, Some, option_map, Result, Ok, Err}
use Rattle.std.specs.List.{AllByRecursion, flat_map, list_all, position}
use Rattle.hex.specs.Hex.{decode_of}
use Rattle.hex.specs.declared.error.FromHexError.{FromHexError}
use Rattle.vt_term.specs.Screen.{State}
use Rattle.vt_term.specs.declared.terminals.Stuck.{Stuck}
use Rattle.vt_states.specs.Json.{case_members, object}
use Rattle.vt_states.specs.Snapshots.{Leaves}
use Rattle.vt_states.specs.declared.cases.CaseFault.{CaseFault}
use Rattle.vt_states.specs.declared.cases.CaseFault.TheVariants.{BadLine, NoMemory}

-- a name, and the bytes to feed to a terminal
pub record Fed : Type 0 where
  pub name : List ℕ
  pub bytes : List ℕ

-- a name is one word of characters
abbrev pub all_shown : List ℕ → Bool
all_shown name = list_all (λ b. nat_le 33 b && nat_le b 126) name

abbrev pub is_name : List ℕ → Bool
is_name name = not (length name == 0) && all_shown name

abbrev pub decoded : Result (List ℕ) FromHexError → Option (List ℕ)
decoded (Ok bytes) = Some bytes
decoded (Err e) = None

-- bytes in hexadecimal, in either case; a dash for no bytes
abbrev pub hex_in : List ℕ → Option (List ℕ)
hex_in text =
    if bytes_eq text (codes "-") then Some [] else (if length text == 0 then None else decoded (decode_of text))

-- a name and the hexadecimal after it
abbrev pub fed_of : List ℕ → List ℕ → Option Fed
fed_of name text =
    if is_name name then option_map (λ bytes. record { name = name; bytes = bytes }) (hex_in text) else None

-- the case of a line, given the place of its first space
abbrev pub fed_at : List ℕ → Option ℕ → Option Fed
fed_at line None = None
fed_at line (Some k) = fed_of (take k line) (drop (k + 1) line)

-- a name, a space, and bytes in hexadecimal
abbrev pub fed_in : List ℕ → Option Fed
fed_in line = fed_at line (position (λ b. b == 32) line)

-- the object of a case: the state of a terminal of this size after its bytes
pub record Answers (rows cols : ℕ) (line answer : List ℕ) : Type 0 where
  pub fed : Fed
  pub given : fed_in line ≡ Some fed
  pub stuck : Option Stuck
  pub after : State
  pub leaves : Leaves rows cols fed.bytes stuck after
  pub spelled : answer ≡ object (case_members fed.name (option_map (λ s. s.at) stuck)) after

-- each line has its LF
abbrev pub ended : List ℕ → List ℕ
ended line = line ++ 10 ∷ []

abbrev pub EachAnswers : ℕ → ℕ → List (List ℕ) → List (List ℕ) → Type 0
EachAnswers rows cols [] [] = Unit {0}
EachAnswers rows cols (line ∷ lines) (answer ∷ answers) = Answers rows cols line answer
    × EachAnswers rows cols lines answers
EachAnswers rows cols _ _ = ⊥

-- the text has a line of answer for each line of the file
pub record AreAnswers (rows cols : ℕ) (file text : List ℕ) : Type 0 where
  pub lines : List (List ℕ)
  pub answers : List (List ℕ)
  pub read : file ≡ flat_map ended lines
  pub written : text ≡ flat_map ended answers
  pub each : EachAnswers rows cols lines answers

-- a line that is a case
abbrev pub IsCase : List ℕ → Type 0
IsCase line = (fed : Fed) × (fed_in line ≡ Some fed)

-- the rest begins with a line that isn't a case, or that has no LF
abbrev pub BeginsBadly : List ℕ → Option ℕ → Type 0
BeginsBadly rest None = 0 < length rest
BeginsBadly rest (Some k) = fed_in (take k rest) ≡ None

-- the lines before this one are cases, and this one isn't; lines count from 1
pub record IsBadLine (file : List ℕ) (line : ℕ) : Type 0 where
  pub before : List (List ℕ)
  pub cases : AllByRecursion IsCase before
  pub rest : List ℕ
  pub read : file ≡ flat_map ended before ++ rest
  pub number : line ≡ length before + 1
  pub bad : BeginsBadly rest (position (λ b. b == 10) rest)

abbrev pub IsCaseFault : List ℕ → CaseFault → Type 0
IsCaseFault file (BadLine line) = IsBadLine file line
IsCaseFault file NoMemory = Unit {0}

-- the fault of the line with this number
abbrev pub IsLineFault : List ℕ → ℕ → CaseFault → Type 0
IsLineFault line number (BadLine told) = (told ≡ number) × (fed_in line ≡ None)
IsLineFault line number NoMemory = Unit {0}
