-- The padding of a string, which stays where another string is suggested.
use Rattle.std.specs.Prelude.{ℕ, Bool, true, false, List, [], ◌∷◌, ◌++◌, ◌==◌, ◌&&◌, ◌||◌, if◌then◌else◌, length, not}
use Rattle.ti_parm.specs.Delays.{strip}

-- a delay begins with this byte, before the rest of a text
abbrev pub begins : ℕ → List ℕ → Bool
begins byte [] = false
begins byte (next ∷ rest) = byte == 36 && next == 60

-- the bytes from each `$<` to the next `>`, where the text begins inside of one or not
abbrev pub delays_in : Bool → List ℕ → List ℕ
delays_in inside [] = []
delays_in inside (byte ∷ rest) =
    (if inside || begins byte rest then byte ∷ [] else [])
    ++ delays_in ((inside || begins byte rest) && not (byte == 62)) rest

-- the delays of a string; none if one of them isn't one, so that it would be sent
abbrev pub padding_of : List ℕ → List ℕ
padding_of string = if length (strip (delays_in false string)) == 0 then delays_in false string else []
