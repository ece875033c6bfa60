-- The parameters of each row as numbers, and the row that a capability's numbers give.
use Rattle.std.specs.Prelude.{ℕ, ◌≡◌, ◌==◌, ◌&&◌, nat_le, nat_lt, Bool, List, [], ◌∷◌, Option, Some, None}
use Rattle.std.specs.Prelude.{if◌then◌else◌, length}
use Rattle.std.specs.Option.{option_map}
use Rattle.vt_term.specs.Color.{Color, color, color_number}
use Rattle.ti_rows.specs.Bits.{bit}
use Rattle.ti_rows.specs.Names.{order}
use Rattle.ti_rows.specs.Rows.{Attributes, Row, Cup, Hpa, Vpa, Cub, Cuf, Cuu, Cud, Ech, Sgr, Setaf, Setab, Csr}

-- a row's parameters, in the order of its capability's; `sgr` has two more, which are 0
abbrev pub params : Row → List ℕ
params (Cup row col) = row ∷ col ∷ []
params (Hpa col) = col ∷ []
params (Vpa row) = row ∷ []
params (Cub n) = n ∷ []
params (Cuf n) = n ∷ []
params (Cuu n) = n ∷ []
params (Cud n) = n ∷ []
params (Ech n) = n ∷ []
params (Sgr a) =
    bit a.standout ∷ bit a.underline ∷ bit a.reverse ∷ bit a.blink ∷ bit a.dim ∷ bit a.bold ∷ bit a.invisible ∷ 0
    ∷ 0 ∷ []
params (Setaf c) = color_number c ∷ []
params (Setab c) = color_number c ∷ []
params (Csr top bottom) = top ∷ bottom ∷ []
params _ = []

-- the row with these numbers, if there are as many as it has, each of an attribute is 0 or 1, and each of a color is
-- below 8
abbrev pub without_numbers : Row → List ℕ → Option Row
without_numbers row [] = Some row
without_numbers row _ = None

abbrev pub only_number : List ℕ → Option ℕ
only_number (n ∷ []) = Some n
only_number _ = None

abbrev pub two_numbers : List ℕ → Option (ℕ × ℕ)
two_numbers (n ∷ m ∷ []) = Some (n, m)
two_numbers _ = None

abbrev pub only_color : List ℕ → Option Color
only_color (n ∷ []) = if nat_lt n 8 then Some (color n) else None
only_color _ = None

abbrev pub are_bits : ℕ → ℕ → ℕ → Bool
are_bits a b c = nat_le a 1 && (nat_le b 1 && nat_le c 1)

abbrev pub ends_bits : ℕ → ℕ → ℕ → Bool
ends_bits a x y = nat_le a 1 && (x == 0 && y == 0)

-- each of the first seven is 0 or 1, and the two after them are 0
abbrev pub nine_bits : List ℕ → Option Attributes
nine_bits (s ∷ u ∷ r ∷ k ∷ d ∷ b ∷ i ∷ x ∷ y ∷ []) =
    if are_bits s u r && (are_bits k d b && ends_bits i x y)
    then Some (record {
      standout = s == 1;
      underline = u == 1;
      reverse = r == 1;
      blink = k == 1;
      dim = d == 1;
      bold = b == 1;
      invisible = i == 1;
    })
    else None
nine_bits _ = None

-- the capability of a row with other parameters
abbrev pub with_params : Row → List ℕ → Option Row
with_params (Cup row col) numbers = option_map (λ p. Cup p.0 p.1) (two_numbers numbers)
with_params (Hpa col) numbers = option_map (λ n. Hpa n) (only_number numbers)
with_params (Vpa row) numbers = option_map (λ n. Vpa n) (only_number numbers)
with_params (Cub n) numbers = option_map (λ n. Cub n) (only_number numbers)
with_params (Cuf n) numbers = option_map (λ n. Cuf n) (only_number numbers)
with_params (Cuu n) numbers = option_map (λ n. Cuu n) (only_number numbers)
with_params (Cud n) numbers = option_map (λ n. Cud n) (only_number numbers)
with_params (Ech n) numbers = option_map (λ n. Ech n) (only_number numbers)
with_params (Sgr a) numbers = option_map (λ a. Sgr a) (nine_bits numbers)
with_params (Setaf c) numbers = option_map (λ c. Setaf c) (only_color numbers)
with_params (Setab c) numbers = option_map (λ c. Setab c) (only_color numbers)
with_params (Csr top bottom) numbers = option_map (λ p. Csr p.0 p.1) (two_numbers numbers)
with_params row numbers = without_numbers row numbers

-- the row found is of the same capability, with just these parameters
pub record HasParams (row other : Row) (numbers : List ℕ) : Type 0 where
  pub same_order : order other ≡ order row
  pub has : params other ≡ numbers

abbrev pub FindsParams : Type 0
FindsParams = (row other : Row) (numbers : List ℕ) → with_params row numbers ≡ Some other → HasParams row other numbers

-- a row with these parameters is found if there is one
abbrev pub ParamsFound : Type 0
ParamsFound = (row other : Row) → order row ≡ order other → with_params row (params other) ≡ Some other

-- all rows of a capability have the same number of parameters
abbrev pub SameCount : Type 0
SameCount = (row other : Row) → order row ≡ order other → length (params row) ≡ length (params other)
