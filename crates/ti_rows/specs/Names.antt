-- The checked capabilities by name (terminfo(5), "Predefined Capabilities"): 42, in the byte order of their names.
use Rattle.std.specs.Prelude.{ℕ, ◌+◌, ◌<◌, ◌≡◌, false, List, [], ◌∷◌, Option, Some, slice_index_or, codes}
use Rattle.std.specs.List.{slice_get}
use Rattle.std.specs.Cmp.Lexicographic.{slice_cmp}
use Rattle.std.specs.Ordering.{nat_cmp}
use Rattle.std.specs.declared.cmp.Ordering.TheVariants.{Less}
use Rattle.vt_term.specs.Color.{Black}
use Rattle.ti_caps.specs.Table.{name_at}
use Rattle.ti_rows.specs.Rows.{Attributes, Row, Clear, Cup, Home, Cr, Hpa, Vpa, Cub1, Cuf1, Cuu1, Cud1, Cub, Cuf, Cuu}
use Rattle.ti_rows.specs.Rows.{Cud, El, El1, Ed, Ech, Sgr, Sgr0, Setaf, Setab, Op, Smul, Rev, Blink, Dim, Bold, Invis}
use Rattle.ti_rows.specs.Rows.{Smso, Enacs, Smacs, Rmacs, Csr, Ind, Ri, Civis, Cnorm, Cvvis, Smcup, Rmcup, Bel}

-- how many capabilities are checked
abbrev pub capabilities : ℕ
capabilities = 42

-- the place of a row's capability in this order
abbrev pub order : Row → ℕ
order Bel = 0
order Blink = 1
order Bold = 2
order Civis = 3
order Clear = 4
order Cnorm = 5
order Cr = 6
order (Csr top bottom) = 7
order (Cub n) = 8
order Cub1 = 9
order (Cud n) = 10
order Cud1 = 11
order (Cuf n) = 12
order Cuf1 = 13
order (Cup row col) = 14
order (Cuu n) = 15
order Cuu1 = 16
order Cvvis = 17
order Dim = 18
order (Ech n) = 19
order Ed = 20
order El = 21
order El1 = 22
order Enacs = 23
order Home = 24
order (Hpa col) = 25
order Ind = 26
order Invis = 27
order Op = 28
order Rev = 29
order Ri = 30
order Rmacs = 31
order Rmcup = 32
order (Setab c) = 33
order (Setaf c) = 34
order (Sgr a) = 35
order Sgr0 = 36
order Smacs = 37
order Smcup = 38
order Smso = 39
order Smul = 40
order (Vpa row) = 41

abbrev pub names : List (List ℕ)
names =
    codes "bel" ∷ codes "blink" ∷ codes "bold" ∷ codes "civis" ∷ codes "clear" ∷ codes "cnorm" ∷ codes "cr" ∷
    codes "csr" ∷ codes "cub" ∷ codes "cub1" ∷ codes "cud" ∷ codes "cud1" ∷ codes "cuf" ∷ codes "cuf1" ∷ codes "cup" ∷
    codes "cuu" ∷ codes "cuu1" ∷ codes "cvvis" ∷ codes "dim" ∷ codes "ech" ∷ codes "ed" ∷ codes "el" ∷ codes "el1" ∷
    codes "enacs" ∷ codes "home" ∷ codes "hpa" ∷ codes "ind" ∷ codes "invis" ∷ codes "op" ∷ codes "rev" ∷ codes "ri" ∷
    codes "rmacs" ∷ codes "rmcup" ∷ codes "setab" ∷ codes "setaf" ∷ codes "sgr" ∷ codes "sgr0" ∷ codes "smacs" ∷
    codes "smcup" ∷ codes "smso" ∷ codes "smul" ∷ codes "vpa" ∷ []

-- the position of each capability among the strings of term(5)
abbrev pub strings : List ℕ
strings =
    1 ∷ 26 ∷ 27 ∷ 13 ∷ 5 ∷ 16 ∷ 2 ∷ 3 ∷ 111 ∷ 14 ∷ 107 ∷ 11 ∷ 112 ∷ 17 ∷ 10 ∷ 114 ∷ 19 ∷ 20 ∷ 30 ∷ 37 ∷ 7 ∷
    6 ∷ 269 ∷ 155 ∷ 12 ∷ 8 ∷ 129 ∷ 32 ∷ 297 ∷ 34 ∷ 130 ∷ 38 ∷ 40 ∷ 360 ∷ 359 ∷ 131 ∷ 39 ∷ 25 ∷ 28 ∷ 35 ∷ 36 ∷ 127 ∷
    []

abbrev pub no_attributes : Attributes
no_attributes =
    record {
      standout = false;
      underline = false;
      reverse = false;
      blink = false;
      dim = false;
      bold = false;
      invisible = false;
    }

-- the first parameter list of each
abbrev pub firsts : List Row
firsts =
    Bel ∷ Blink ∷ Bold ∷ Civis ∷ Clear ∷ Cnorm ∷ Cr ∷ Csr 0 1 ∷ Cub 1 ∷ Cub1 ∷ Cud 1 ∷ Cud1 ∷
    Cuf 1 ∷ Cuf1 ∷ Cup 0 0 ∷ Cuu 1 ∷ Cuu1 ∷ Cvvis ∷ Dim ∷ Ech 1 ∷ Ed ∷ El ∷ El1 ∷ Enacs ∷
    Home ∷ Hpa 0 ∷ Ind ∷ Invis ∷ Op ∷ Rev ∷ Ri ∷ Rmacs ∷ Rmcup ∷ Setab Black ∷ Setaf Black ∷ Sgr no_attributes ∷
    Sgr0 ∷ Smacs ∷ Smcup ∷ Smso ∷ Smul ∷ Vpa 0 ∷ []

unfoldable pub name_in_order : ℕ → List ℕ
name_in_order n = slice_index_or names n []

unfoldable pub string_in_order : ℕ → ℕ
string_in_order n = slice_index_or strings n 0

unfoldable pub first_in_order : ℕ → Option Row
first_in_order n = slice_get firsts n

-- the name of a row's capability, and its place in the table of all capabilities, which begins with 83 that aren't
-- strings
abbrev pub name_of : Row → List ℕ
name_of row = name_in_order (order row)

abbrev pub cap_of : Row → ℕ
cap_of row = 83 + string_in_order (order row)

-- the names rise
abbrev pub NamesRise : Type 0
NamesRise = (low high : ℕ) → low < high → high < capabilities
    → slice_cmp nat_cmp (name_in_order low) (name_in_order high) ≡ Less

-- each name is that of the capability at its position
abbrev pub Named : Type 0
Named = (n : ℕ) → n < capabilities → name_at (83 + string_in_order n) ≡ name_in_order n

-- each place has a first row, and each row's capability has one of the places
pub record HasFirst (n : ℕ) : Type 0 where
  pub row : Row
  pub is_first : first_in_order n ≡ Some row
  pub ordered : order row ≡ n

abbrev pub FirstsInOrder : Type 0
FirstsInOrder = (n : ℕ) → n < capabilities → HasFirst n

abbrev pub OrdersSmall : Type 0
OrdersSmall = (row : Row) → order row < capabilities
