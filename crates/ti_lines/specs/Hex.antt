-- Bytes in lower case hexadecimal, and a dash for none.
use Rattle.std.specs.Prelude.{ℕ, ◌&&◌, ◌==◌, length, nat_le, not, bytes_eq, Bool, if◌then◌else◌, List, [], ◌∷◌, Option}
use Rattle.std.specs.Prelude.{None, Some, Result, Ok, Err}
use Rattle.std.specs.List.{list_all}
use Rattle.hex.specs.Hex.{encode_lower, decode_of}
use Rattle.hex.specs.declared.error.FromHexError.{FromHexError}

abbrev pub hex_text : List ℕ → List ℕ
hex_text [] = 45 ∷ []
hex_text (b ∷ bytes) = encode_lower (b ∷ bytes)

abbrev pub is_upper : ℕ → Bool
is_upper c = nat_le 65 c && nat_le c 70

abbrev pub decoded : Result (List ℕ) FromHexError → Option (List ℕ)
decoded (Ok bytes) = Some bytes
decoded (Err e) = None

abbrev pub lacks_upper : List ℕ → Bool
lacks_upper text = list_all (λ d. not (is_upper d)) text

abbrev pub has_lower_digits : List ℕ → Bool
has_lower_digits text = not (length text == 0) && lacks_upper text

abbrev pub hex_in : List ℕ → Option (List ℕ)
hex_in text =
    if bytes_eq text (45 ∷ []) then Some [] else (if has_lower_digits text then decoded (decode_of text) else None)
