-- The table has the names of the standard's lists.
use Rattle.std.proofs.Common.{◌≡◌, ℕ, zero, suc, ◌+◌, ◌<◌, List, [], ◌∷◌, ◌++◌, refl, ap, ◌∙◌, length, get_or, map, arith}
use Rattle.ti_caps.specs.declared.table.TheConstants.{NAMES}
use Rattle.ti_caps.specs.declared.types.Kind.TheVariants.{Flag, Number, String}
use Rattle.ti_caps.specs.Names.{CountsAreStandard, NamesAreStandard, boolean_names, number_names, string_names}
use Rattle.ti_caps.specs.Table.{name_at, row_at, unpadded}

-- the rows without their zeros
rows_are_names : map unpadded NAMES ≡ boolean_names ++ (number_names ++ string_names)
unfolding boolean_names number_names string_names
rows_are_names = refl

pub counts_are_standard : CountsAreStandard
unfolding boolean_names number_names string_names
counts_are_standard Flag = refl
counts_are_standard Number = refl
counts_are_standard String = refl

get_or-map : (f : List ℕ → List ℕ) (rows : List (List ℕ)) (i : ℕ) → f [] ≡ [] → f (get_or rows i []) ≡ get_or (map f rows) i []
get_or-map f [] i none = none
get_or-map f (row ∷ rows) zero none = refl
get_or-map f (row ∷ rows) (suc i) none = get_or-map f rows i none

named : (place : ℕ) → name_at place ≡ get_or (boolean_names ++ (number_names ++ string_names)) place []
unfolding name_at row_at
named place = get_or-map unpadded NAMES place refl ∙ ap (λ rows. get_or rows place []) rows_are_names

front : (xs ys : List (List ℕ)) (i : ℕ) → i < length xs → get_or (xs ++ ys) i [] ≡ get_or xs i []
front [] ys i inside = absurd (omega arith)
front (x ∷ xs) ys zero inside = refl
front (x ∷ xs) ys (suc i) inside = front xs ys i (omega arith)

behind : (xs ys : List (List ℕ)) (i j : ℕ) → i ≡ length xs + j → get_or (xs ++ ys) i [] ≡ get_or ys j []
behind [] ys i j is = ap (λ k. get_or ys k []) (omega (arith, is))
behind (x ∷ xs) ys zero j is = absurd (omega (arith, is))
behind (x ∷ xs) ys (suc i) j is = behind xs ys i j (omega (arith, is))

pub names_are_standard : NamesAreStandard
names_are_standard Flag position inside =
    named (0 + position)
    ∙ (behind [] (boolean_names ++ (number_names ++ string_names)) (0 + position) position (omega arith)
    ∙ front boolean_names (number_names ++ string_names) position (omega (arith, inside, counts_are_standard Flag)))
names_are_standard Number position inside =
    named (44 + position)
    ∙ (behind boolean_names (number_names ++ string_names) (44 + position) position (omega (arith, counts_are_standard Flag))
    ∙ front number_names string_names position (omega (arith, inside, counts_are_standard Number)))
names_are_standard String position inside =
    named (83 + position)
    ∙ (behind boolean_names (number_names ++ string_names) (83 + position) (39 + position) (omega (arith, counts_are_standard Flag))
    ∙ behind number_names string_names (39 + position) position (omega (arith, counts_are_standard Number)))
