-- The names and strings that a terminfo(5) source text can hold.
use Rattle.std.specs.Prelude.{ℕ, Bool, true, false, not, ◌&&◌, List, [], ◌∷◌, ◌==◌, nat_le, if◌then◌else◌, length}
use Rattle.std.specs.List.{list_all, slice_split}
use Rattle.ti_caps.specs.declared.fits.Opener.{Opener}
use Rattle.ti_caps.specs.declared.fits.Opener.TheVariants.{Nothing, Backslash, Caret}

-- A names field begins its line. So it isn't empty, and its first byte is neither a space, nor the `#` of a comment,
-- nor a `|`, which would leave the first name empty.
abbrev pub begins_names : List ℕ → Bool
begins_names [] = false
begins_names (b ∷ rest) = not (b == 32) && (not (b == 35) && not (b == 124))

-- The opener after a byte. A backslash or a caret takes the byte after it, whatever that is.
abbrev pub opener_after : Opener → ℕ → Opener
opener_after Nothing b = if b == 92 then Backslash else (if b == 94 then Caret else Nothing)
opener_after Backslash b = Nothing
opener_after Caret b = Nothing

-- a comma ends the field, except after a backslash
abbrev pub ends_at_comma : Opener → Bool
ends_at_comma Nothing = true
ends_at_comma Backslash = false
ends_at_comma Caret = true

-- no comma in these bytes ends their field, and a comma after them does
abbrev pub is_one_field : Opener → List ℕ → Bool
is_one_field opener [] = ends_at_comma opener
is_one_field opener (b ∷ rest) = not (ends_at_comma opener && (b == 44)) && is_one_field (opener_after opener b) rest

-- the bytes can be the names field of an entry: no control characters, and at most 4095 bytes
abbrev pub names_fit : List ℕ → Bool
names_fit names = nat_le (length names) 4095
    && (begins_names names && (list_all (λ b. nat_le 32 b) names && is_one_field Nothing names))

-- the bytes can be the value of a string: no byte is 0, and there are at most 4095
abbrev pub string_fits : List ℕ → Bool
string_fits bytes = nat_le (length bytes) 4095 && list_all (λ b. not (b == 0)) bytes

-- the names in a names field; the last one is the description
abbrev pub names_in : List ℕ → List (List ℕ)
names_in field = slice_split (λ b. b == 124) field
