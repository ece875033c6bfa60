-- The splitting of a text into tokens (ECMA-48 5.4, control sequences; ECMA-35 13.2, escape sequences; VT100 user
-- guide, "Control characters": CAN, SUB and ESC end a sequence that isn't whole).
use Rattle.std.specs.Prelude.{ℕ, ◌+◌, ◌<◌, ◌≤◌, ◌≡◌, ◌≢◌, ◌⊎◌, List, [], ◌∷◌, ◌++◌, length, take}
use Rattle.std.specs.List.{AllByRecursion}
pub use Rattle.vt_screen.specs.Look.{IsPrinted}

-- all controls but ESC
abbrev pub IsControl : ℕ → Type 0
IsControl b = ((b ≤ 31) × (b ≢ 27)) ⊎ (b ≡ 127)

abbrev pub IsParameter : ℕ → Type 0
IsParameter b = (0x30 ≤ b) × (b ≤ 0x3f)

abbrev pub IsIntermediate : ℕ → Type 0
IsIntermediate b = (0x20 ≤ b) × (b ≤ 0x2f)

abbrev pub IsFinal : ℕ → Type 0
IsFinal b = (0x40 ≤ b) × (b ≤ 0x7e)

-- the final bytes of escape sequences
abbrev pub IsEscapeFinal : ℕ → Type 0
IsEscapeFinal b = (0x30 ≤ b) × (b ≤ 0x7e)

-- [ and P X ] ^ _, which begin a control sequence or a string right after ESC
abbrev pub IsIntroducer : ℕ → Type 0
IsIntroducer b = (b ≡ 0x50) ⊎ (b ≡ 0x58) ⊎ (b ≡ 0x5b) ⊎ ((0x5d ≤ b) × (b ≤ 0x5f))

-- the greatest length of a sequence in bytes
abbrev pub sequence_limit : ℕ
sequence_limit = 256

-- ESC [, parameter bytes, intermediate bytes and one final byte; at most sequence_limit bytes
pub record IsControlSequence (bytes : List ℕ) : Type 0 where
  pub parameters : List ℕ
  pub intermediates : List ℕ
  pub final : ℕ
  pub spelled : bytes ≡ 27 ∷ 91 ∷ (parameters ++ (intermediates ++ final ∷ []))
  pub each_parameter : AllByRecursion IsParameter parameters
  pub each_intermediate : AllByRecursion IsIntermediate intermediates
  pub ends : IsFinal final
  pub short : length bytes ≤ sequence_limit

-- ESC, intermediate bytes and one final byte; at most sequence_limit bytes
pub record IsEscapeSequence (bytes : List ℕ) : Type 0 where
  pub intermediates : List ℕ
  pub final : ℕ
  pub spelled : bytes ≡ 27 ∷ (intermediates ++ final ∷ [])
  pub each_intermediate : AllByRecursion IsIntermediate intermediates
  pub ends : IsEscapeFinal final
  pub introduces_nothing : intermediates ≡ [] → IsIntroducer final → ⊥
  pub short : length bytes ≤ sequence_limit

abbrev pub IsSequence : List ℕ → Type 0
IsSequence bytes = IsControlSequence bytes ⊎ IsEscapeSequence bytes

-- a proper prefix of a sequence; the empty one too
pub record IsOpen (bytes : List ℕ) : Type 0 where
  pub more : List ℕ
  pub some : 0 < length more
  pub whole : IsSequence (bytes ++ more)

abbrev pub IsSingle : List ℕ → Type 0
IsSingle [] = ⊥
IsSingle (b ∷ []) = IsPrinted b ⊎ IsControl b
IsSingle (b ∷ c ∷ bytes) = ⊥

-- ESC, CAN and SUB, which no sequence has after its first byte
abbrev pub Cuts : ℕ → Type 0
Cuts b = (b ≡ 27) ⊎ (b ≡ 24) ⊎ (b ≡ 26)

abbrev pub IsCutBy : List ℕ → Type 0
IsCutBy [] = ⊥
IsCutBy (b ∷ bytes) = Cuts b

-- a sequence that the bytes after it cut off before it is whole
pub record IsDropped (bytes behind : List ℕ) : Type 0 where
  pub some : 0 < length bytes
  pub fits : IsOpen bytes
  pub cut : IsCutBy behind

abbrev pub IsWhole : List ℕ → Type 0
IsWhole bytes = IsSingle bytes ⊎ IsSequence bytes

-- these bytes are a token if the bytes `behind` follow
abbrev pub IsToken : List ℕ → List ℕ → Type 0
IsToken bytes behind = IsWhole bytes ⊎ IsDropped bytes behind

-- the text is these tokens, one after another, and then a rest that is still open
abbrev pub Splits : List ℕ → List (List ℕ) → List ℕ → Type 0
Splits text [] rest = (text ≡ rest) × IsOpen rest
Splits text (token ∷ tokens) rest =
    (behind : List ℕ) × (text ≡ token ++ behind) × IsToken token behind × Splits behind tokens rest

-- the text splits into tokens and an open rest
pub record IsSplit (text : List ℕ) : Type 0 where
  pub tokens : List (List ℕ)
  pub rest : List ℕ
  pub splits : Splits text tokens rest

-- the bytes before this place can be split, but not together with the byte at it
pub record IsStuck (text : List ℕ) (at : ℕ) : Type 0 where
  pub within : at < length text
  pub before : IsSplit (take at text)
  pub fits_nothing : IsSplit (take (at + 1) text) → ⊥

-- the text is tokens and then an unfinished sequence, which begins at this place
pub record IsUnfinished (text : List ℕ) (at : ℕ) : Type 0 where
  pub tokens : List (List ℕ)
  pub rest : List ℕ
  pub splits : Splits text tokens rest
  pub some : 0 < length rest
  pub place : at + length rest ≡ length text
