-- The effect of a byte after an open sequence, and the faults of a text.
use Rattle.std.specs.Prelude.{ℕ, ◌≡◌, ◌≢◌, ◌⊎◌, ◌<◌, ◌≤◌, length, Bool, true, false, List, [], ◌∷◌, ◌++◌}
use Rattle.vt_term.specs.declared.parser.Transition.{Transition}
use Rattle.vt_term.specs.declared.parser.Transition.TheVariants.{Opens, Ends, Restarts, Cancels, Fails}
use Rattle.vt_term.specs.declared.tokenizer.TokenFault.{TokenFault}
use Rattle.vt_term.specs.declared.tokenizer.TokenFaultKind.{TokenFaultKind}
use Rattle.vt_term.specs.declared.tokenizer.TokenFaultKind.TheVariants.{Unfinished, Stuck, NoMemory}
use Rattle.vt_screen.specs.Look.{IsPrinted}
use Rattle.vt_term.specs.Text.{IsControl, IsParameter, IsIntermediate, IsFinal, IsEscapeFinal, IsIntroducer, IsOpen}
use Rattle.vt_term.specs.Text.{IsWhole, IsSplit, IsStuck, IsUnfinished}

-- the byte continues or ends the sequence, cuts it off and is read by itself, or fits nothing
abbrev pub IsTransition : List ℕ → ℕ → Transition → Type 0
IsTransition begun b Opens = IsOpen (begun ++ b ∷ [])
IsTransition begun b Ends = IsWhole (begun ++ b ∷ [])
IsTransition begun b Restarts = (0 < length begun) × (b ≡ 27)
IsTransition begun b Cancels = (0 < length begun) × ((b ≡ 24) ⊎ (b ≡ 26))
IsTransition begun b Fails = IsSplit (begun ++ b ∷ []) → ⊥

-- outside sequences
abbrev pub IsOutsideTransition : ℕ → Transition → Type 0
IsOutsideTransition b Opens = b ≡ 27
IsOutsideTransition b Ends = IsPrinted b ⊎ IsControl b
IsOutsideTransition b Fails = 128 ≤ b
IsOutsideTransition b _ = ⊥

-- after ESC
abbrev pub IsIntroducerTransition : ℕ → Transition → Type 0
IsIntroducerTransition b Opens = (b ≡ 91) ⊎ IsIntermediate b
IsIntroducerTransition b Ends = IsEscapeFinal b × (IsIntroducer b → ⊥)
IsIntroducerTransition b Fails = (b ≢ 91) × (IsIntermediate b → ⊥) × (IsEscapeFinal b → IsIntroducer b)
IsIntroducerTransition b _ = ⊥

-- after ESC and intermediate bytes; `room` says whether another byte fits
abbrev pub IsEscapeTransition : ℕ → Bool → Transition → Type 0
IsEscapeTransition b room Opens = (room ≡ true) × IsIntermediate b
IsEscapeTransition b room Ends = IsEscapeFinal b
IsEscapeTransition b room Fails = (IsEscapeFinal b → ⊥) × (room ≡ true → IsIntermediate b → ⊥)
IsEscapeTransition b room _ = ⊥

-- in a control sequence; `closed` says whether it has intermediate bytes, `room` whether another byte fits
abbrev pub IsInsideTransition : Bool → ℕ → Bool → Transition → Type 0
IsInsideTransition closed b room Opens = (room ≡ true) × (IsIntermediate b ⊎ (IsParameter b × (closed ≡ false)))
IsInsideTransition closed b room Ends = IsFinal b
IsInsideTransition closed b room Fails =
    (IsFinal b → ⊥) × (room ≡ true → (IsIntermediate b → ⊥) × (IsParameter b → closed ≡ true))
IsInsideTransition closed b room _ = ⊥

abbrev pub IsFault : List ℕ → ℕ → TokenFaultKind → Type 0
IsFault text at Unfinished = IsUnfinished text at
IsFault text at Stuck = IsStuck text at
IsFault text at NoMemory = Unit {0}

-- the fault is one of this text, or memory ran out
abbrev pub TellsFault : List ℕ → TokenFault → Type 0
TellsFault text fault = IsFault text fault.at fault.kind
