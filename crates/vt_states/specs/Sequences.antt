-- (Serves the code alone.) The kinds of the ignored sequences of a text, found by their ESC.
use Rattle.std.specs.Prelude.{ℕ, ◌+◌, ◌==◌, List, [], ◌∷◌, ◌++◌, take, if◌then◌else◌, Option, None, Some}
use Rattle.vt_term.specs.Function.{named, escaped}
use Rattle.vt_states.specs.declared.ignored.Lack.{Lack}
use Rattle.vt_states.specs.Recordings.{at, is_between}
use Rattle.vt_states.specs.Ignored.{is_final, is_escape_final, lack_in}
use Rattle.vt_states.specs.Kinds.{control_kind}

-- the number of bytes up to the first that is no byte within a sequence: within a control sequence those up to 63 are,
-- within an escape sequence those up to 47
abbrev pub inside_length : ℕ → List ℕ → ℕ
inside_length high [] = 0
inside_length high (b ∷ bytes) = if is_between 32 high b then 1 + inside_length high bytes else 0

abbrev pub control_kinds : Option Lack → List ℕ → ℕ → List (List ℕ)
control_kinds None front final = []
control_kinds (Some lack) front final = control_kind (Some lack) front final ∷ []

-- by the bytes between ESC [ and the final byte
abbrev pub kinds_of_control : List ℕ → ℕ → List (List ℕ)
kinds_of_control front final =
    if is_final final then control_kinds (lack_in (named final front)) front final else []

abbrev pub kinds_behind_introducer : List ℕ → List (List ℕ)
kinds_behind_introducer body = kinds_of_control (take (inside_length 63 body) body) (at body (inside_length 63 body))

abbrev pub escape_kinds : Option Lack → List ℕ → List (List ℕ)
escape_kinds None behind = []
escape_kinds (Some lack) behind = (27 ∷ behind) ∷ []

-- by the bytes between ESC and the final byte
abbrev pub kinds_of_escape : List ℕ → ℕ → List (List ℕ)
kinds_of_escape front final =
    if is_escape_final final
    then escape_kinds (lack_in (escaped (front ++ final ∷ []))) (front ++ final ∷ []) else []

abbrev pub kinds_of_others : List ℕ → List (List ℕ)
kinds_of_others behind = kinds_of_escape (take (inside_length 47 behind) behind) (at behind (inside_length 47 behind))

-- by the bytes after ESC
abbrev pub kinds_behind : List ℕ → List (List ℕ)
kinds_behind [] = []
kinds_behind (second ∷ body) =
    if second == 91 then kinds_behind_introducer body else kinds_of_others (second ∷ body)

abbrev pub found_kinds : List ℕ → List (List ℕ)
found_kinds [] = []
found_kinds (b ∷ bytes) = if b == 27 then kinds_behind bytes ++ found_kinds bytes else found_kinds bytes
