-- Alternate characters (terminfo(5), "Line Graphics"): the pairs of `acsc`, and the substitute of a letter without one.
use Rattle.std.specs.Prelude.{ℕ, ◌==◌, ◌&&◌, nat_le, Bool, false, if◌then◌else◌, List, [], ◌∷◌, Option, Some, None}
use Rattle.std.specs.Prelude.{is_some, not}

-- the first pair of a letter counts, and an odd last byte doesn't
abbrev pub listed : List ℕ → ℕ → Option ℕ
listed [] letter = None
listed (other ∷ []) letter = None
listed (other ∷ partner ∷ acsc) letter = if other == letter then Some partner else listed acsc letter

-- the bytes that have a picture
abbrev pub is_printed : ℕ → Bool
is_printed b = nat_le 32 b && nat_le b 126

-- the partner of a letter, if it has one that can be printed
abbrev pub printed_only : Option ℕ → Option ℕ
printed_only None = None
printed_only (Some p) = if is_printed p then Some p else None

abbrev pub partner_of : List ℕ → ℕ → Option ℕ
partner_of acsc letter = printed_only (listed acsc letter)

-- a letter, and the plain character shown in its place
pub record Plain : Type 0 where
  pub letter : ℕ
  pub byte : ℕ

abbrev pub by : ℕ → ℕ → Plain
by letter byte = record { letter = letter; byte = byte }

-- `l m k j t u v w n` and the backquote are corners, tees and the crossing; the others are lines, shades, arrows and
-- signs
abbrev pub letters : List Plain
letters =
    by 108 43 ∷ by 109 43 ∷ by 107 43 ∷ by 106 43 ∷ by 116 43 ∷ by 117 43 ∷ by 118 43 ∷ by 119 43 ∷
    by 110 43 ∷ by 96 43 ∷ by 113 45 ∷ by 120 124 ∷ by 111 45 ∷ by 115 95 ∷ by 97 58 ∷ by 102 39 ∷ by 103 35 ∷
    by 126 111 ∷ by 44 60 ∷ by 43 62 ∷ by 46 118 ∷ by 45 94 ∷ by 104 35 ∷ by 105 35 ∷ by 48 35 ∷ []

abbrev pub found : List Plain → ℕ → Option ℕ
found [] letter = None
found (p ∷ ps) letter = if p.letter == letter then Some p.byte else found ps letter

abbrev pub fallback_of : ℕ → Option ℕ
fallback_of letter = found letters letter

-- a letter of the table is listed with a partner that can't be printed
abbrev pub is_no_picture : Option ℕ → Bool
is_no_picture None = false
is_no_picture (Some p) = not (is_printed p)

abbrev pub is_misfit : List ℕ → ℕ → Bool
is_misfit acsc letter = is_some (fallback_of letter) && is_no_picture (listed acsc letter)

-- a character on the screen: a byte, in the graphic set if it has a picture there
pub record Character : Type 0 where
  pub byte : ℕ
  pub graphic : Bool

abbrev pub in_graphic_set : ℕ → Character
in_graphic_set p = record { byte = p; graphic = nat_le 95 p && nat_le p 126 }

abbrev pub in_plain_set : ℕ → Character
in_plain_set b = record { byte = b; graphic = false }

abbrev pub or_letter : Option ℕ → ℕ → ℕ
or_letter None letter = letter
or_letter (Some b) letter = b

-- The character that a cell of the alternate set shows for its letter: the partner in the graphic set; or, without a
-- partner, the plain character in its place, if it has one; or else the letter itself. No letter has a partner if the
-- entry lacks `acsc`, `smacs` or `rmacs`.
abbrev pub shown : Option ℕ → ℕ → Character
shown None letter = in_plain_set (or_letter (fallback_of letter) letter)
shown (Some p) letter = in_graphic_set p
