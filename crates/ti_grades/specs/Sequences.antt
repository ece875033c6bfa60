-- Bytes that are sent: where a control sequence goes wrong (ECMA-48 5.4), and the sets that they designate (ECMA-35
-- 14.3).
use Rattle.std.specs.Prelude.{ℕ, ◌-◌, ◌==◌, ◌&&◌, ◌||◌, nat_le, not, Bool, false, List, [], ◌∷◌, drop}
use Rattle.std.specs.Prelude.{slice_index_or, Option, Some, None, ◌≢◌}
use Rattle.std.specs.List.{list_all}
use Rattle.vt_term.specs.Fault.{TellsFault}
use Rattle.vt_term.specs.Text.{Splits}
use Rattle.vt_term.specs.declared.tokenizer.TokenFault.{TokenFault}
use Rattle.vt_term.specs.declared.tokenizer.TokenFaultKind.TheVariants as kinds

-- ---- the fault of bytes that aren't whole tokens

-- the bytes are whole tokens
abbrev pub AreTokens : List ℕ → Type 0
AreTokens bytes = (tokens : List (List ℕ)) × Splits bytes tokens []

-- they have this fault
pub record HasFault (bytes : List ℕ) (fault : TokenFault) : Type 0 where
  pub told : TellsFault bytes fault
  pub claims : fault.kind ≢ kinds.NoMemory

-- the first fault of the bytes, if they have one
abbrev pub IsTokenFault : List ℕ → Option TokenFault → Type 0
IsTokenFault bytes None = AreTokens bytes
IsTokenFault bytes (Some fault) = HasFault bytes fault

abbrev pub byte_at : List ℕ → ℕ → ℕ
byte_at bytes place = slice_index_or bytes place 0

-- what `%2d` and its like write in front of a number: a blank or a sign
abbrev pub is_padding : ℕ → Bool
is_padding b = (b == 32) || (b == 43) || (b == 45)

-- digits, separators and private marks
abbrev pub is_parameter : ℕ → Bool
is_parameter b = nat_le 0x30 b && nat_le b 0x3f

-- The byte that doesn't fit is one of a parameter right behind a blank or a sign. In a control sequence all parameter
-- bytes come first, so that no terminal knows such a sequence.
abbrev pub is_padded : List ℕ → Option TokenFault → Bool
is_padded bytes None = false
is_padded bytes (Some fault) = is_padding (byte_at bytes (fault.at - 1)) && is_parameter (byte_at bytes fault.at)

-- the second byte of a control sequence, `[`
abbrev pub is_control : List ℕ → Bool
is_control [] = false
is_control (escape ∷ []) = false
is_control (escape ∷ second ∷ body) = second == 91

-- the sequence that begins at the fault's place, and isn't finished, is a control sequence
abbrev pub is_open_control : List ℕ → Option TokenFault → Bool
is_open_control bytes None = false
is_open_control bytes (Some fault) = is_control (drop fault.at bytes)

-- ---- sets

-- SO and SI (ECMA-48 8.3.126, 8.3.119), which make G1 or G0 active and designate neither
abbrev pub is_shift : ℕ → Bool
is_shift b = (b == 14) || (b == 15)

-- there are bytes, and each is a shift
abbrev pub are_shifts : List ℕ → Bool
are_shifts [] = false
are_shifts (b ∷ bytes) = list_all is_shift (b ∷ bytes)

-- the final bytes of the sets that T has: `0` and `B`
abbrev pub is_set_of_terminal : ℕ → Bool
is_set_of_terminal final = (final == 48) || (final == 66)

-- the bytes begin with the designation to G1, ESC ) and a final byte, of a set that T hasn't
abbrev pub begins_other_set : List ℕ → Bool
begins_other_set [] = false
begins_other_set (b ∷ []) = false
begins_other_set (b ∷ c ∷ []) = false
begins_other_set (b ∷ c ∷ final ∷ rest) =
    (b == 27) && ((c == 41) && (nat_le 48 final && not (is_set_of_terminal final)))

-- some of the bytes do, from a place on
unfoldable pub has_other_set : List ℕ → Bool
has_other_set [] = false
has_other_set (b ∷ rest) = begins_other_set (b ∷ rest) || has_other_set rest
