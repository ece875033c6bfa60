-- The parts of a compiled terminfo file, term(5), "Legacy Storage Format" and "Extended Number Format".
use Rattle.std.specs.Prelude.{ℕ, ◌+◌, ◌-◌, ◌*◌, Bool, false, ◌||◌, List, [], ◌∷◌, ◌==◌, nat_le, nat_lt}
use Rattle.ti_compiled.specs.declared.types.Form.{Form}
use Rattle.ti_compiled.specs.declared.types.Form.TheVariants.{Legacy, Wide}

-- the sections of a file, each a slice of its bytes
pub record Parts : Type 0 where
  pub form : Form
  pub names : List ℕ
  pub flags : List ℕ
  pub numbers : List ℕ
  pub offsets : List ℕ
  pub table : List ℕ

-- the numbers of 16 bits in the bytes, low byte first
abbrev pub words : List ℕ → List ℕ
words [] = []
words (low ∷ []) = []
words (low ∷ high ∷ rest) = (low + 256 * high) ∷ words rest

-- the numbers of 32 bits in the bytes, low byte first
abbrev pub longs : List ℕ → List ℕ
longs [] = []
longs (a ∷ []) = []
longs (a ∷ b ∷ []) = []
longs (a ∷ b ∷ c ∷ []) = []
longs (a ∷ b ∷ c ∷ d ∷ rest) = (a + 256 * (b + 256 * (c + 256 * d))) ∷ longs rest

-- the size in bytes of a number in the numbers section
abbrev pub width : Form → ℕ
width Legacy = 2
width Wide = 4

-- the numbers in the numbers section
abbrev pub numbers_in : Form → List ℕ → List ℕ
numbers_in Legacy bytes = words bytes
numbers_in Wide bytes = longs bytes

-- the least number of the numbers section that means a negative one
abbrev pub half : Form → ℕ
half Legacy = 32768
half Wide = 2147483648

-- a number isn't negative, or it is -1 (absent) or -2 (cancelled)
abbrev pub is_number : ℕ → ℕ → Bool
is_number negatives number = nat_lt number negatives || nat_le (2 * negatives - 2) number

-- a flag is set (1), absent (0) or cancelled (-2)
abbrev pub is_flag : ℕ → Bool
is_flag byte = byte == 0 || (byte == 1 || byte == 254)

abbrev pub is_nul : ℕ → Bool
is_nul byte = byte == 0

-- the names section ends with a NUL
abbrev pub ends_with_nul : List ℕ → Bool
ends_with_nul [] = false
ends_with_nul (b ∷ []) = b == 0
ends_with_nul (b ∷ c ∷ rest) = ends_with_nul (c ∷ rest)
