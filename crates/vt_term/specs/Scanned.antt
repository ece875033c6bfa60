-- A text read token by token.
use Rattle.std.specs.Prelude.{ℕ, ◌-◌, ◌<◌, ◌≤◌, ◌≡◌, List, [], ◌∷◌, ◌++◌, length, take, drop, Option, None, Some}
use Rattle.vt_term.specs.Text.{IsOpen, IsWhole, IsToken, IsStuck, IsUnfinished}
use Rattle.vt_term.specs.declared.scanners.TextFault.{TextFault}
use Rattle.vt_term.specs.declared.scanners.TextFaultKind.{TextFaultKind}
use Rattle.vt_term.specs.declared.scanners.TextFaultKind.TheVariants.{Unfinished, Stuck}

-- the text is these tokens, one after another, and then the bytes `behind`, whatever they are
abbrev pub Begins : List ℕ → List (List ℕ) → List ℕ → Type 0
Begins text [] behind = text ≡ behind
Begins text (token ∷ tokens) behind =
    (after : List ℕ) × (text ≡ token ++ after) × IsToken token after × Begins after tokens behind

-- the token is the text between the two places
pub record IsTokenAt (text : List ℕ) (from end : ℕ) (token : List ℕ) : Type 0 where
  pub some : from < end
  pub within : end ≤ length text
  pub bytes : token ≡ take (end - from) (drop from text)
  pub fits : IsToken token (drop end text)

abbrev pub IsTextFault : List ℕ → ℕ → TextFaultKind → Type 0
IsTextFault text at Unfinished = IsUnfinished text at
IsTextFault text at Stuck = IsStuck text at

-- the text has this fault
abbrev pub HasFault : List ℕ → TextFault → Type 0
HasFault text fault = IsTextFault text fault.at fault.kind

-- the text from a place on has this fault
pub record HasFaultFrom (text : List ℕ) (from : ℕ) (fault : TextFault) : Type 0 where
  pub behind : from ≤ fault.at
  pub is : IsTextFault (drop from text) (fault.at - from) fault.kind

-- the token from the bytes before its last one and, if it is whole, the last one
abbrev pub token_by : List ℕ → Option ℕ → List ℕ
token_by begun None = begun
token_by begun (Some last) = begun ++ last ∷ []

-- a token ended by its last byte, or cut off
abbrev pub IsEndedBy : List ℕ → Option ℕ → Type 0
IsEndedBy begun None = IsOpen begun
IsEndedBy begun (Some last) = IsWhole (begun ++ last ∷ [])

-- the token between the two places was read
pub record IsRead (text : List ℕ) (from end : ℕ) (last : Option ℕ) (begun : List ℕ) : Type 0 where
  pub token : IsTokenAt text from end (token_by begun last)
  pub ended : IsEndedBy begun last
