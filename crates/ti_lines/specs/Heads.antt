-- The other lines of a certificate: the first, with the version and the size; the line of alternate characters; the
-- last.
use Rattle.std.specs.Prelude.{ℕ, ◌<◌, ◌≡◌, bytes_eq, Bool, if◌then◌else◌, List, ◌∷◌, ◌++◌, Option, None, Some, codes}
use Rattle.std.specs.Fmt.{decimal}
use Rattle.std.specs.Option.{option_map, option_and_then}
use Rattle.hex.specs.Hex.{IsBytes}
use Rattle.ti_lines.specs.EffectReader.{number_at}
use Rattle.ti_lines.specs.Cut.{cut_at}
use Rattle.ti_lines.specs.Hex.{hex_text, hex_in}

abbrev pub first_word : List ℕ
first_word = codes "ticert"

abbrev pub version : List ℕ
version = codes "2"

abbrev pub acsc_word : List ℕ
acsc_word = codes "acsc"

abbrev pub end_text : List ℕ
end_text = codes "end"

-- ticert 2 R C
abbrev pub size_text : ℕ → ℕ → List ℕ
size_text rows cols = first_word ++ 32 ∷ (version ++ 32 ∷ (decimal rows ++ 32 ∷ decimal cols))

-- acsc and the bytes
abbrev pub acsc_text : List ℕ → List ℕ
acsc_text bytes = acsc_word ++ 32 ∷ hex_text bytes

-- the text after this word and a space
abbrev pub behind_word : List ℕ → List ℕ → Option (List ℕ)
behind_word word text = option_and_then (λ p. if bytes_eq p.0 word then Some p.1 else None) (cut_at 32 text)

abbrev pub acsc_in : List ℕ → Option (List ℕ)
acsc_in text = option_and_then (λ rest. hex_in rest) (behind_word acsc_word text)

abbrev pub two_numbers_in : List ℕ → Option (ℕ × ℕ)
two_numbers_in text =
    option_and_then (λ p. option_and_then (λ n. option_map (λ m. (n, m)) (number_at p.1)) (number_at p.0))
    (cut_at 32 text)

abbrev pub size_in : List ℕ → Option (ℕ × ℕ)
size_in text =
    option_and_then (λ rest. option_and_then (λ numbers. two_numbers_in numbers) (behind_word version rest))
    (behind_word first_word text)

-- `text` is a first line with this size, or a line with these alternate characters
pub record IsSizeText (text : List ℕ) (rows cols : ℕ) : Type 0 where
  pub rows_fit : rows < 65536
  pub cols_fit : cols < 65536
  pub spelled : size_text rows cols ≡ text

pub record IsAcscText (text bytes : List ℕ) : Type 0 where
  pub bytes_are : IsBytes bytes
  pub spelled : acsc_text bytes ≡ text

-- the last line
abbrev pub is_end : List ℕ → Bool
is_end text = bytes_eq text end_text
